-- `model::withdrawal::phase_into` meets its contract. At each bus, e branches have taken their turns. Assumes nothing.
use Prim.Native.Nat.{ℕ, ◌-◌, ◌≤◌, ◌<◌}
use mathlib.Core.Path.{◌≡◌}
use lib.ListN.{length, get_or}
use lib.Ieee.{nan}
use Rattle.float64.specs.Values.{nought}
use Rattle.sequence.specs.Lists.{turns}
use Rattle.model.specs.Quantities.{phase_turn}
use Rattle.model.proofs.withdrawal.phase_into.Given as goal

abbrev pub invariant-loop-e : goal.invariant-loop-e
invariant-loop-e l = ((i : ℕ) → i < l.grid.plan.counts.buses → get_or l.out i nan ≡ turns (phase_turn l.grid.plan.counts l.grid.plan.wiring.now l.grid.plan.readings.now i) nought l.e)
    × ((i : ℕ) → l.grid.plan.counts.buses ≤ i → get_or l.out i nan ≡ get_or l.initial.out i nan)
    × (length l.out ≡ length l.initial.out)
    × (l.e ≤ l.m)

abbrev pub decreases-loop-e : goal.decreases-loop-e
decreases-loop-e l = l.m - l.e
