-- `sens_snap::duals::snap_linear_into` meets its contract: a row more each turn. Assumes nothing.
-- the places of a row's three words
use Prim.Native.Nat.{◌*◌, ◌-◌, ◌≤◌}
use mathlib.Core.Path.{◌≡◌}
use Rattle.snapping.specs.Snap.{dual_words}
use Rattle.sens_snap.proofs.Stores.{Runs}
use Rattle.sens_snap.proofs.duals.snap_linear_into.Given as goal

abbrev pub invariant-loop-q : goal.invariant-loop-q
invariant-loop-q l = Runs (dual_words l.site.point.grid.plan.counts l.site.point.grid.plan.wiring.now l.site.term_index.now l.site.term_coefficient.now l.site.point.pieces l.site.point.grid.plan.readings.now l.site.point.sheet.now) 0 l.q (3 * l.q) l.initial.out l.out × (l.q ≤ l.to) × (l.to ≡ l.site.point.grid.plan.counts.rows) × (l.to ≤ 64)

abbrev pub decreases-loop-q : goal.decreases-loop-q
decreases-loop-q l = l.to - l.q
