-- `susceptance::put_susceptance` meets its contract: a row more each turn. Assumes nothing.
use Prim.Native.Nat.{◌-◌, ◌*◌, ◌≤◌}
use mathlib.Core.Path.{◌≡◌}
use lib.ListN.{length}
use Rattle.sequence.specs.Lists.{each}
use Rattle.sequence.specs.Sinks.{Gains}
use Rattle.susceptance.specs.Susceptance.{susceptance_row}
use Rattle.susceptance.proofs.put_susceptance.Given as goal

abbrev pub invariant-loop-i : goal.invariant-loop-i
invariant-loop-i l = Gains (each l.i (susceptance_row l.grid.plan.counts l.grid.plan.wiring.now l.grid.plan.readings.now)) l.initial.sink l.sink × (l.sink.count ≤ 256 * l.i) × (l.i ≤ l.grid.plan.counts.buses) × (length l.acc ≡ 256) × (length l.hit ≡ 272)

abbrev pub decreases-loop-i : goal.decreases-loop-i
decreases-loop-i l = l.grid.plan.counts.buses - l.i
