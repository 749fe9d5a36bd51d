-- `sens_snap::duals::nu_flow_into` meets its contract. At each branch, q rows have taken their turns. Assumes nothing.
use mathlib.Core.Path.{◌≡◌, refl, sym, ◌∙◌}
use native.Mathlib.Omega.{arith}
use lib.Ieee.{nan}
use Rattle.sequence.proofs.Lists.{turns_none, turns_more}
use Rattle.sequence.proofs.Fronts.{front_made, front_at, over}
use Rattle.model.proofs.Runs.{terms_none, terms_more, terms_inside}
use Rattle.snapping.specs.Snap.{nu_flow}
use Rattle.sens_snap.proofs.Stores.{front_back}
use Rattle.sens_snap.proofs.duals.nu_flow_into.Goals as goal

pub loop-q-init : goal.loop-q-init
loop-q-init c = let p = front_back c.requires c.bound_duals.ensures in
    ((λ e h. rw p.is (front_at _ _ _ e nan h ∙ turns_none _ _)), (λ e h. refl), refl, omega arith, refl, terms_none _ _)

pub add_row-requires : goal.add_row-requires
add_row-requires c = let i = c.loop-q.invariant in (omega arith, i.5, omega (arith, i.2, (front_back c.requires c.bound_duals.ensures).kept, c.requires))

pub overflow_add-start : goal.overflow_add-start
overflow_add-start c = let l = c.loop-q in
    omega (arith, terms_inside c.args.site.now.point.grid.wired l.q (omega arith), c.args.site.now.point.grid.wired.laid.few)

pub loop-q-preserved : goal.loop-q-preserved
loop-q-preserved c = let a = c.add_row.ensures in
    let l = c.loop-q in
    let i = l.invariant in (
      (λ e h. a.by_index e h ∙ rw (i.0 e h) (sym (turns_more _ _ l.q))),
      (λ e h. a.by_index_2 e h ∙ i.1 e h),
      a.out_len_unchanged ∙ i.2,
      omega arith,
      i.4,
      rw (terms_more, ← i.5, ← c.row_terms-start.ensures.0),
    )

pub returns-clause-out_after : goal.returns-clause-out_after
unfolding nu_flow
returns-clause-out_after c = let l = c.loop-q in
    let e : l.q ≡ c.args.site.now.point.grid.plan.counts.rows = omega arith in
    let b = front_back c.requires c.bound_duals.ensures in
    let p =
    over b
    (record { is = front_made _ _ nan _ _ l.invariant.2 (omega arith) (rw e at l.invariant.0) l.invariant.1; kept = l.invariant.2 }) in p.is

pub returns-clause-out_len_unchanged : goal.returns-clause-out_len_unchanged
unfolding nu_flow
returns-clause-out_len_unchanged c = let l = c.loop-q in
    let e : l.q ≡ c.args.site.now.point.grid.plan.counts.rows = omega arith in
    let b = front_back c.requires c.bound_duals.ensures in
    let p =
    over b
    (record { is = front_made _ _ nan _ _ l.invariant.2 (omega arith) (rw e at l.invariant.0) l.invariant.1; kept = l.invariant.2 }) in p.kept
