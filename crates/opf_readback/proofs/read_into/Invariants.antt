-- `opf_readback::read_into` meets its contract: an entry more each turn, its place carried along. Assumes nothing.
use mathlib.Core.Path.{◌≡◌}
use Rattle.sequence.specs.Layout.{start}
use Rattle.solution.specs.Sheet.{sizes}
use Rattle.sens_snap.proofs.Stores.{Runs}
use Rattle.opf_readback.specs.Points.{pieces_in}
use Rattle.opf_readback.proofs.Entries.{entry_words}
use Rattle.opf_readback.proofs.read_into.Given as goal

abbrev pub invariant-loop-e : goal.invariant-loop-e
invariant-loop-e l = Runs (entry_words l.point.site.grid.plan.counts l.point.site.grid.plan.wiring.now l.point.site.grid.plan.readings.now l.point.site.term_index.now l.point.site.term_coefficient.now l.point.raw.x.now l.point.raw.z.now l.point.raw.objective (pieces_in l.point)) 0 l.e-index l.at l.initial.out l.out × (l.at ≡ start (sizes l.point.site.grid.plan.counts (pieces_in l.point)) l.e-index)
