-- `snapping::snap_linear_at` meets its contract, by the row's limits. Assumes nothing.
use Rattle.snapping.specs.Snap.{duals}
use Rattle.network.specs.Layout.{reading}
use Rattle.snapping.proofs.Limits.{slots}
use Rattle.snapping.proofs.snap_linear_at.Goals as goal

pub returns-in-None : goal.returns-in-None
unfolding duals
returns-in-None c = rw (← c.row_limits.ensures, c.in-None.is)

pub returns-in-Upper : goal.returns-in-Upper
unfolding duals
returns-in-Upper c = let e = c.in-Upper.is in
    let s = c.args.site.now in
    let x = slots s.point.grid.plan.counts s.point.grid.plan.wiring.now s.point.grid.plan.readings.now c.args.q c.row_limits.ensures e in
    rw (c.binding_dual.ensures, x, c.value-dual.ensures, c.reading-base.ensures, c.row_value-value.ensures (reading s.point.grid.plan.counts s.point.grid.plan.readings.now), ← c.row_limits.ensures, e)

pub returns-in-Lower : goal.returns-in-Lower
unfolding duals
returns-in-Lower c = let e = c.in-Lower.is in
    let s = c.args.site.now in
    let x = slots s.point.grid.plan.counts s.point.grid.plan.wiring.now s.point.grid.plan.readings.now c.args.q c.row_limits.ensures e in
    rw (c.binding_dual-in-Lower.ensures, x, c.value-dual.ensures, c.reading-base.ensures, c.row_value-value.ensures (reading s.point.grid.plan.counts s.point.grid.plan.readings.now), ← c.row_limits.ensures, e)

pub returns-in-Both : goal.returns-in-Both
unfolding duals
returns-in-Both c = let e = c.in-Both.is in
    let s = c.args.site.now in
    let x = slots s.point.grid.plan.counts s.point.grid.plan.wiring.now s.point.grid.plan.readings.now c.args.q c.row_limits.ensures e in
    rw (c.binding_dual-in-Both.ensures, c.binding_dual-in-Both-2.ensures, x.0, x.1, c.value-dual.ensures, c.reading-base.ensures, c.row_value-value.ensures (reading s.point.grid.plan.counts s.point.grid.plan.readings.now), ← c.row_limits.ensures, e)

pub returns-in-Equal : goal.returns-in-Equal
unfolding duals
returns-in-Equal c = rw (← c.row_limits.ensures, c.in-Equal.is, c.value-dual.ensures)
