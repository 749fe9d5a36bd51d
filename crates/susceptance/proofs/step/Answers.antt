-- `susceptance::step` meets its contract: a law for each return. Assumes nothing.
use native.Mathlib.Omega.{arith}
use lib.Ieee.{of_bits}
use Rattle.susceptance.proofs.Incidence.{branch_passed, branch_taken}
use Rattle.susceptance.proofs.step.Goals as goal

pub returns-then-x : goal.returns-then-x
unfolding of_bits
returns-then-x c = branch_passed _ _ _ _ _ _ c.if-x.true

pub returns : goal.returns
unfolding of_bits
returns c = branch_taken _ _ _ _ _ _ c.if-x.false c.requires.p_lt_n.2 (omega (arith, c)) (omega (arith, c)) (omega (arith, c)) (omega (arith, c)) c.sum_branch.ensures c.mark.ensures
