-- `kkt_list::put_with` meets its contract: the chains, the sums, then every block, its places by the index. Assumes nothing.
use Rattle.kkt.specs.Slots.{slots, site_of}
use Rattle.kkt.specs.Slots.Rule.{first_place}
use Rattle.kkt.specs.Matrix.{kkt_matrix_list}
use Rattle.kkt_list.proofs.Places.{by_starts}
use Rattle.kkt_list.proofs.put_with.Goals as goal

pub invariant_of-kkt : goal.invariant_of-kkt
invariant_of-kkt g c = let i = c.of-index.ensures.indexed in record {
  sheet_laid = rw i.pieces_is c.args.solved.now.sheet_laid;
  pieces_are = i.pieces_is;
  narrow = c.of-index.ensures.narrow;
}

pub returns-clause-puts : goal.returns-clause-puts
unfolding kkt_matrix_list slots
returns-clause-puts g c = let a = c.args in by_starts c.of-index.ensures.indexed a.solved.now.site.grid.plan.readings.now a.solved.now.sheet.now (slots (site_of first_place a.solved.now.site.grid.plan.counts a.solved.now.site.grid.plan.wiring.now a.solved.now.site.grid.plan.readings.now a.solved.now.site.term_index.now a.solved.now.site.term_coefficient.now)) c.put_blocks.ensures.puts
