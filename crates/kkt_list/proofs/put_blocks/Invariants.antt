-- `kkt_list::put_blocks` meets its contract: a block more each turn. Assumes nothing.
use Prim.Native.Nat.{◌*◌, ◌-◌, ◌≤◌}
use Rattle.sequence.specs.Lists.{each}
use Rattle.sequence.specs.Sinks.{Gains}
use Rattle.network.specs.Layout.{reading}
use Rattle.solution.specs.Sheet.{solved}
use Rattle.kkt_index.specs.Index.{start_in}
use Rattle.kkt.specs.Slots.{site_of, block_slots, emission_at}
use Rattle.kkt.specs.Slots.Rule.{first_place}
use Rattle.kkt.specs.Matrix.{emitted}
use Rattle.kkt_list.proofs.put_blocks.Given as goal

abbrev pub invariant-loop-b : goal.invariant-loop-b
invariant-loop-b l = Gains (emitted (start_in l.site.lines.sums.kkt.index) (reading l.site.lines.sums.kkt.grid.plan.counts l.site.lines.sums.kkt.grid.plan.readings.now) (solved l.site.lines.sums.kkt.grid.plan.counts l.site.lines.sums.kkt.index.pieces l.site.lines.sums.kkt.sheet.now) (each l.b-index (λ k. block_slots (site_of first_place l.site.lines.sums.kkt.grid.plan.counts l.site.lines.sums.kkt.grid.plan.wiring.now l.site.lines.sums.kkt.grid.plan.readings.now l.site.term_index.now l.site.term_coefficient.now) (emission_at k)))) l.initial.sink l.sink
    × (l.sink.count ≤ 0x18_0000 * l.b-index)
    × (l.b-index ≤ 18)
