-- `sens_dc::kkt_triplets` meets its contract: a law for each return. Assumes nothing.
use mathlib.Core.Path.{◌≡◌, refl, ◌∙◌}
use native.Mathlib.Omega.{arith}
use Rattle.std.specs.Prelude.{Err}
use Rattle.sequence.proofs.Answers.{refused}
use Rattle.sens_dc.proofs.Returns.{matrix_refused, matrix_laid}
use Rattle.sens_dc.proofs.kkt_triplets.Goals as goal

pub returns-in_err-solved : goal.returns-in_err-solved
returns-in_err-solved c = let e : c.from_residual.result ≡ Err c.in_err-solved.field-0.0 = grind arith in
    rw e (matrix_refused _ _ _ _ _ _ c.in_err-solved.ensures.number _ (refused c.in_err-solved.field-0.0))

pub returns : goal.returns
returns c = let a = c.in_ok-solved.ensures in
    rw (a.accepted.counts, a.accepted.wiring, a.accepted.readings, a.accepted.term_index, a.accepted.term_coefficient, a.lent_sheet) at c.lay_kkt.ensures
    ∙ matrix_laid _ _ _ _ _ _ a.number refl
