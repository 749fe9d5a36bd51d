-- `sens_parameters::parameter_jacobian` meets its contract: a law for each return. Assumes nothing.
use mathlib.Core.Path.{◌≡◌, refl, sym, ◌∙◌}
use native.Mathlib.Omega.{arith}
use Rattle.std.specs.Prelude.{Err}
use Rattle.sequence.proofs.Answers.{refused}
use Rattle.sens_parameters.proofs.Returns.{jacobian_refused, jacobian_served, jacobian_empty, jacobian_unknown}
use Rattle.sens_parameters.proofs.parameter_jacobian.Goals as goal

pub returns-in_err-solved : goal.returns-in_err-solved
returns-in_err-solved c = let a = c.args in
    let r = c.in_err-solved in
    let e : c.from_residual.result ≡ Err r.field-0.0 = grind arith in
    rw e (jacobian_refused _ _ a.p a.columns.now a.sheet.now r.ensures.number (refused r.field-0.0))

pub returns-in-None : goal.returns-in-None
returns-in-None c = let a = c.args in
    jacobian_empty _ _ a.p a.columns.now a.sheet.now c.in_ok-solved.ensures.number refl (sym c.served_of.ensures ∙ c.in-None.is) (grind arith)

pub returns-in-None-2 : goal.returns-in-None-2
returns-in-None-2 c = let a = c.args in
    jacobian_unknown _ _ a.p a.columns.now a.sheet.now c.in_ok-solved.ensures.number refl (sym c.served_of.ensures ∙ c.in-None-2.is) (grind arith)

pub returns-in-Some : goal.returns-in-Some
returns-in-Some c = let a = c.args in
    let h = c.in_ok-solved.ensures in
    rw (h.accepted.counts, h.accepted.wiring, h.accepted.readings, h.accepted.term_index, h.accepted.term_coefficient, h.lent_sheet) at c.served_columns.ensures
    ∙ jacobian_served _ _ a.p a.columns.now a.sheet.now h.number refl _ (sym c.served_of.ensures ∙ c.in-Some.is)
