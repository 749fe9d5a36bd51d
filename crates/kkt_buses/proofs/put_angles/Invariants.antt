-- `kkt_buses::put_angles` meets its contract: a bus's column more each turn. Assumes nothing.
use Prim.Native.Nat.{◌+◌, ◌*◌, ◌-◌, ◌≤◌}
use mathlib.Core.Path.{◌≡◌}
use Rattle.sequence.specs.Lists.{each}
use Rattle.sequence.specs.Sinks.{Gains}
use Rattle.network.specs.Layout.{reading}
use Rattle.solution.specs.Sheet.{solved}
use Rattle.kkt_index.specs.Index.{start_in}
use Rattle.kkt.specs.Matrix.{emitted}
use Rattle.kkt.specs.Slots.{va_column}
use Rattle.kkt.specs.Slots.Rule.{first_place}
use Rattle.kkt_buses.proofs.put_angles.Given as goal

abbrev pub invariant-loop-j : goal.invariant-loop-j
invariant-loop-j l = Gains (emitted (start_in l.lines.sums.kkt.index) (reading l.lines.sums.kkt.grid.plan.counts l.lines.sums.kkt.grid.plan.readings.now) (solved l.lines.sums.kkt.grid.plan.counts l.lines.sums.kkt.index.pieces l.lines.sums.kkt.sheet.now) (each l.j (va_column first_place l.lines.sums.kkt.grid.plan.counts l.lines.sums.kkt.grid.plan.wiring.now))) l.initial.sink l.sink
    × (l.sink.count ≤ l.initial.sink.count + 4353 * l.j)
    × (l.j ≤ l.to)
    × (l.to ≡ l.lines.sums.kkt.grid.plan.counts.buses)
    × (l.to ≤ 256)

abbrev pub decreases-loop-j : goal.decreases-loop-j
decreases-loop-j l = l.to - l.j
