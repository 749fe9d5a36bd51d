-- `sens_snap::duals::add_row` meets its contract: at each branch, t terms have taken their turns. Assumes nothing.
use Prim.Native.Nat.{◌+◌, ◌<◌}
use mathlib.Core.Path.{◌≡◌, refl, sym, ap, ◌∙◌}
use native.Mathlib.Omega.{arith}
use lib.ListN.{length, get_or, length-set}
use lib.Ieee.{nan, binary64, add, mul}
use Rattle.sequence.proofs.Lists.{turns_none, turns_more}
use Rattle.sequence.proofs.Fronts.{changed}
use Rattle.model.proofs.Runs.{flow_run}
use Rattle.snapping.specs.declared.LinearDuals.{LinearDuals}
use Rattle.snapping.specs.Snap.{signed}
use Rattle.sens_snap.proofs.Turns.{row_turns, turns_beyond}
use Rattle.sens_snap.proofs.duals.add_row.Goals as goal

pub loop-t-init : goal.loop-t-init
loop-t-init c = let e = c.requires in
    let r = flow_run c.args.site.now.point.grid.wired c.args.site.now.termed c.args.q e.0 e.1 c.word-count.ensures.0 refl in
    ((λ e. turns_none _ _), refl, omega arith, r.0, r.1.0, λ t h. omega (arith, r.1.1 t h))

pub bounds-out-e : goal.bounds-out-e
bounds-out-e c = let l = c.loop-t in omega (arith, l.invariant.5 l.t c.loop-t-test.true)

pub bounds-out-e-in-loop-t : goal.bounds-out-e-in-loop-t
bounds-out-e-in-loop-t c = let l = c.loop-t in omega (arith, l.invariant.5 l.t c.loop-t-test.true)

pub loop-t-preserved : goal.loop-t-preserved
loop-t-preserved c = let l = c.loop-t in
    let w = c.wide-e in
    let s = c.args in
    let x = mul binary64 (get_or s.site.now.term_coefficient.now (s.start + l.t) nan) c.signed-dual.result in
    let h : w.result < length l.out = omega (arith, l.invariant.5 l.t c.loop-t-test.true) in (
      (λ e. changed (λ a. add binary64 a x) l.out w.result e nan h ∙ rw (w.ensures.0, l.invariant.0 e) (sym (turns_more _ _ l.t))),
      simp length-set l.invariant.1,
      omega arith,
      l.invariant.3,
      l.invariant.4,
      l.invariant.5,
    )

pub returns-clause-by_index : goal.returns-clause-by_index
returns-clause-by_index c = let l = c.loop-t in
    let e = c.requires in
    let w = c.word-count.ensures.0 in
    let q : l.t ≡ c.word-count.result = omega arith in
    let d = c.signed-dual.ensures ∙ ap (λ (d : LinearDuals). signed d) c.snap_linear_at.ensures in
    (λ i h. rw q at (l.invariant.0 i) ∙ row_turns _ _ _ _ _ _ _ i c.args.q _ e.1 w d)

pub returns-clause-by_index_2 : goal.returns-clause-by_index_2
returns-clause-by_index_2 c = let l = c.loop-t in
    let e = c.requires in
    let w = c.word-count.ensures.0 in
    let r = flow_run c.args.site.now.point.grid.wired c.args.site.now.termed c.args.q e.0 e.1 w refl in
    let q : l.t ≡ c.word-count.result = omega arith in
    (λ i h. rw q at (l.invariant.0 i) ∙ turns_beyond c.args.site.now.term_index.now c.args.site.now.term_coefficient.now c.args.start c.signed-dual.result i _ _ _ h r.1.1)

pub returns-clause-out_len_unchanged : goal.returns-clause-out_len_unchanged
returns-clause-out_len_unchanged c = let l = c.loop-t in
    l.invariant.1
