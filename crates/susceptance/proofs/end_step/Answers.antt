-- `susceptance::end_step` meets its contract: its branch is passed, or taken. Assumes nothing.
use Prim.Native.Nat.{◌/◌}
use mathlib.Core.Path.{sym, ◌∙◌}
use native.Mathlib.Omega.{arith}
use Rattle.susceptance.proofs.Incidence.{end_of, end_passed, end_taken}
use Rattle.susceptance.proofs.end_step.Goals as goal

pub returns-then-not-takes : goal.returns-then-not-takes
returns-then-not-takes c = end_passed _ _ _ _ _ _ _ (rw c.branch_of-e.ensures at c.word-p.ensures.0) (sym c.takes.ensures ∙ c.if-not-takes.true)

pub step-requires-clause-p_lt_n : goal.step-requires-clause-p_lt_n
step-requires-clause-p_lt_n c = let f = c.args.grid.now.wired.froms (c.args.x / 2) (omega arith) in
    let t = c.args.grid.now.wired.tos (c.args.x / 2) (omega arith) in
    let p = rw c.branch_of-e.ensures at c.word-p.ensures.0 in
    let q = rw c.branch_of-e.ensures at c.word-q.ensures.0 in
    (omega (arith, p), omega (arith, q), end_of c.args.grid.now.plan.counts c.args.grid.now.plan.wiring.now c.args.i c.args.x c.requires.x_bound.1 p q)

pub returns : goal.returns
returns c = let b = c.branch_of-e.ensures in
    end_taken _ _ _ _ _ (rw b at c.word-p.ensures.0) (rw b at c.word-q.ensures.0) (rw b at c.weight.ensures) (sym c.takes.ensures ∙ c.if-not-takes.false) c.step.ensures
