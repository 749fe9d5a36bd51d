-- `kkt_buses::put_balances` meets its contract: a bus's column more each turn. Assumes nothing.
use Prim.Native.Nat.{◌+◌, ◌*◌, ◌-◌, ◌≤◌}
use mathlib.Core.Path.{◌≡◌}
use Rattle.sequence.specs.Lists.{each}
use Rattle.sequence.specs.Sinks.{Gains}
use Rattle.network.specs.Layout.{reading}
use Rattle.solution.specs.Sheet.{solved}
use Rattle.kkt_index.specs.Index.{start_in}
use Rattle.kkt.specs.Matrix.{emitted}
use Rattle.kkt.specs.Slots.{nu_bal_column}
use Rattle.kkt_buses.proofs.put_balances.Given as goal

abbrev pub invariant-loop-i : goal.invariant-loop-i
invariant-loop-i l = Gains (emitted (start_in l.sums.kkt.index) (reading l.sums.kkt.grid.plan.counts l.sums.kkt.grid.plan.readings.now) (solved l.sums.kkt.grid.plan.counts l.sums.kkt.index.pieces l.sums.kkt.sheet.now) (each l.i (nu_bal_column l.sums.kkt.grid.plan.counts l.sums.kkt.grid.plan.wiring.now))) l.initial.sink l.sink
    × (l.sink.count ≤ l.initial.sink.count + 1537 * l.i)
    × (l.i ≤ l.to)
    × (l.to ≡ l.sums.kkt.grid.plan.counts.buses)
    × (l.to ≤ 256)

abbrev pub decreases-loop-i : goal.decreases-loop-i
decreases-loop-i l = l.to - l.i
