-- `opf_readback::put_duals` meets its contract: a row more each turn, both ranks carried along. Assumes nothing.
use mathlib.Core.Path.{◌∙◌}
use Prim.Native.Nat.{◌<◌}
use native.Mathlib.Omega.{arith}
use Rattle.sequence.proofs.Fronts.{none, more}
use Rattle.opf_layout.specs.Layout.{equalities, inequalities}
use Rattle.opf_layout.proofs.Counting.{equalities_few, inequalities_few}
use Rattle.opf_readback.proofs.Reading.{equal_room, limit_room, equal_none, limit_none, equal_more, limit_more, whole, rest_is, rest_long}
use Rattle.opf_readback.proofs.put_duals.Goals as goal

pub loop-q-init : goal.loop-q-init
loop-q-init c = (none _ _, equal_none _ _ _, limit_none _ _ _, omega arith, omega arith)

pub slice_bounds-signed_of-count : goal.slice_bounds-signed_of-count
slice_bounds-signed_of-count c = let a = c.args in
    let l = c.loop-q in
    omega (arith, equal_room a.plan.now.counts a.plan.now.wiring.now a.plan.now.readings.now l.q (omega (arith, c.requires.out_long)) c.row_limits-limits.ensures l.invariant.1, c.requires.equal_long)

pub slice_bounds-signed_of-start : goal.slice_bounds-signed_of-start
slice_bounds-signed_of-start c = let a = c.args in
    let l = c.loop-q in
    omega (arith, equal_room a.plan.now.counts a.plan.now.wiring.now a.plan.now.readings.now l.q (omega (arith, c.requires.out_long)) c.row_limits-limits.ensures l.invariant.1, c.requires.equal_long)

pub slice_bounds-signed_of-count-in-loop-q : goal.slice_bounds-signed_of-count-in-loop-q
slice_bounds-signed_of-count-in-loop-q c = let a = c.args in
    let l = c.loop-q in
    omega (arith, limit_room a.plan.now.counts a.plan.now.wiring.now a.plan.now.readings.now l.q (omega (arith, c.requires.out_long)) c.row_limits-limits.ensures l.invariant.2, c.requires.limit_long)

pub slice_bounds-signed_of-start-in-loop-q : goal.slice_bounds-signed_of-start-in-loop-q
slice_bounds-signed_of-start-in-loop-q c = let a = c.args in
    let l = c.loop-q in
    omega (arith, limit_room a.plan.now.counts a.plan.now.wiring.now a.plan.now.readings.now l.q (omega (arith, c.requires.out_long)) c.row_limits-limits.ensures l.invariant.2, c.requires.limit_long)

pub signed_of-requires : goal.signed_of-requires
signed_of-requires c = let a = c.args in
    let l = c.loop-q in
    let h = c.row_limits-limits.ensures in
    let t : l.q < a.plan.now.counts.rows = omega (arith, c.requires.out_long, c.loop-q-test.true) in (
      rest_long a.equal.now l.k (equalities c.row_limits-limits.result) (equal_room a.plan.now.counts a.plan.now.wiring.now a.plan.now.readings.now l.q t h l.invariant.1) c.requires.equal_long,
      rest_long a.limit.now l.l (inequalities c.row_limits-limits.result) (limit_room a.plan.now.counts a.plan.now.wiring.now a.plan.now.readings.now l.q t h l.invariant.2) c.requires.limit_long,
    )

pub loop-q-preserved : goal.loop-q-preserved
loop-q-preserved c = let l = c.loop-q in
    let a = c.args in
    let h = c.row_limits-limits.ensures in (
      more _ (omega (arith, l.invariant.0.kept)) l.invariant.0 (c.signed_of.ensures ∙ rw (rest_is a.equal.now l.k, rest_is a.limit.now l.l, h, l.invariant.1, l.invariant.2)),
      equal_more a.plan.now.counts a.plan.now.wiring.now a.plan.now.readings.now l.q l.invariant.1 c.equalities_of-k.ensures h,
      limit_more a.plan.now.counts a.plan.now.wiring.now a.plan.now.readings.now l.q l.invariant.2 c.inequalities_of-l.ensures h,
      omega (arith, l.invariant.3, c.equalities_of-k.ensures, equalities_few c.row_limits-limits.result),
      omega (arith, l.invariant.4, c.inequalities_of-l.ensures, inequalities_few c.row_limits-limits.result),
    )

pub returns : goal.returns
returns c = whole _ _ c.loop-q.invariant.0 (omega (arith, c.loop-q.invariant.0.kept))
