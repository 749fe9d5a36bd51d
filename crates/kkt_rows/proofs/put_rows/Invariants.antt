-- `kkt_rows::put_rows` meets its contract: a linear row more each turn. Assumes nothing.
use mathlib.Core.Path.{◌≡◌}
use Prim.Native.Nat.{◌+◌, ◌*◌, ◌-◌, ◌≤◌}
use Rattle.sequence.specs.Lists.{each}
use Rattle.sequence.specs.Sinks.{Gains}
use Rattle.network.specs.Layout.{term_start}
use Rattle.model.specs.Rows.{row_limits}
use Rattle.kkt_index.specs.Index.{shape_of, linear_start}
use Rattle.kkt.specs.Slots.{row_slots}
use Rattle.kkt.specs.Walks.{emitted_at}
use Rattle.kkt_rows.proofs.put_rows.Given as goal

abbrev pub invariant-loop-q : goal.invariant-loop-q
invariant-loop-q l = let g = l.site.kkt.grid.plan in
    let w = g.wiring.now in
    let r = g.readings.now in
    Gains (emitted_at l.site.kkt (each l.q (λ i. row_slots g.counts w l.site.term_index.now l.site.term_coefficient.now (shape_of (row_limits g.counts w r i)) i (linear_start g.counts w r i)))) l.initial.sink l.sink
    × (l.sink.count ≤ l.initial.sink.count + 4098 * l.q)
    × (l.q ≤ l.to)
    × (l.to ≡ g.counts.rows)
    × (l.row ≡ linear_start g.counts w r l.q)
    × (l.row ≤ 2 * l.q)
    × (l.start ≡ term_start g.counts w l.q)

abbrev pub decreases-loop-q : goal.decreases-loop-q
decreases-loop-q l = l.to - l.q
