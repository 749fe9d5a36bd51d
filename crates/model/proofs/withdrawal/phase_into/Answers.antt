-- `model::withdrawal::phase_into` meets its contract. At each bus, e branches have taken their turns. Assumes nothing.
use mathlib.Core.Path.{◌≡◌, refl, sym, ◌∙◌}
use native.Mathlib.Omega.{arith}
use borrow.Author.Tests.{ne_eqb}
use lib.Ieee.{nan}
use Rattle.float64.specs.Values.{nought}
use Rattle.sequence.proofs.Lists.{turns_none, turns_more}
use Rattle.model.specs.Quantities.{phase_turn, phase}
use Rattle.sequence.proofs.Fronts.{front_made, front_at, over}
use Rattle.model.proofs.Blanks.{blanked}
use Rattle.model.proofs.withdrawal.phase_into.Goals as goal

pub loop-e-init : goal.loop-e-init
loop-e-init c = let p = blanked nought _ c.args.out.now (omega arith) (c.fill.ensures.after (λ y e. e)) in
    ((λ i h. rw p.is (front_at _ _ _ i nan h ∙ turns_none _ nought)), (λ i h. refl), refl, omega arith)

pub loop-e-preserved : goal.loop-e-preserved
unfolding phase_turn
loop-e-preserved c = let f = c.args.grid.now.wired.froms c.loop-e.e (omega arith) in
    let t = c.args.grid.now.wired.tos c.loop-e.e (omega arith) in
    let x = c.flow_offset_at.ensures in
    let wt = c.word-to in
    let wf = c.word-from in (
      (λ i h. c.phase_step.ensures.by_index i ∙ rw (x, wt.ensures.0, wf.ensures.0, c.loop-e.invariant.0 i h) (sym (turns_more _ nought c.loop-e.e))),
      (λ i h. c.phase_step.ensures.by_index i ∙ rw (ne_eqb wt.result i (λ q. omega arith), ne_eqb wf.result i (λ q. omega arith)) (c.loop-e.invariant.1 i h)),
      c.phase_step.ensures.out_len_unchanged ∙ c.loop-e.invariant.2,
      omega arith,
    )

pub returns-clause-out_after : goal.returns-clause-out_after
unfolding phase
returns-clause-out_after c = let e : c.loop-e.e ≡ c.args.grid.now.plan.counts.branches = omega arith in
    let p =
    over (blanked nought _ c.args.out.now (omega arith) (c.fill.ensures.after (λ y e. e)))
    (record { is = front_made _ _ nan _ _ c.loop-e.invariant.2 (omega arith) (rw e at c.loop-e.invariant.0) c.loop-e.invariant.1; kept = c.loop-e.invariant.2 }) in p.is

pub returns-clause-out_len_unchanged : goal.returns-clause-out_len_unchanged
unfolding phase
returns-clause-out_len_unchanged c = let e : c.loop-e.e ≡ c.args.grid.now.plan.counts.branches = omega arith in
    let p =
    over (blanked nought _ c.args.out.now (omega arith) (c.fill.ensures.after (λ y e. e)))
    (record { is = front_made _ _ nan _ _ c.loop-e.invariant.2 (omega arith) (rw e at c.loop-e.invariant.0) c.loop-e.invariant.1; kept = c.loop-e.invariant.2 }) in p.kept
