-- `susceptance::walk` meets its contract: the row after the ends below x. Assumes nothing.
use Prim.Native.Nat.{◌-◌, ◌*◌, ◌≤◌, ◌<◌}
use mathlib.Core.Path.{◌≡◌}
use lib.ListN.{length}
use Rattle.susceptance.specs.Incidence.{end_at, RowAt}
use Rattle.susceptance.proofs.walk.Given as goal

abbrev pub invariant-loop-x : goal.invariant-loop-x
invariant-loop-x l = RowAt l.ends.grid.plan.counts l.ends.grid.plan.wiring.now l.ends.grid.plan.readings.now l.i l.x l.acc l.hit × (length l.acc ≡ length l.initial.acc) × (length l.hit ≡ length l.initial.hit) × (l.x ≤ 2 * l.ends.grid.plan.counts.branches) × (l.x < 2 * l.ends.grid.plan.counts.branches → end_at l.ends.grid.plan.counts l.ends.grid.plan.wiring.now l.x ≡ l.i)

abbrev pub decreases-loop-x : goal.decreases-loop-x
decreases-loop-x l = 2 * l.ends.grid.plan.counts.branches - l.x
