-- `model::withdrawal::network_into` meets its contract, word by word over the phase withdrawals. Assumes nothing.
use Prim.Native.Nat.{◌-◌, ◌≤◌}
use Rattle.model.specs.Quantities.{network_at}
use Rattle.sequence.proofs.Fronts.{Fronted}
use Rattle.model.proofs.withdrawal.network_into.Given as goal

abbrev pub invariant-loop-i : goal.invariant-loop-i
invariant-loop-i l = Fronted (network_at l.grid.plan.counts l.grid.plan.wiring.now l.grid.plan.readings.now) l.i l.initial.out l.out × (l.i ≤ l.n)

abbrev pub decreases-loop-i : goal.decreases-loop-i
decreases-loop-i l = l.n - l.i
