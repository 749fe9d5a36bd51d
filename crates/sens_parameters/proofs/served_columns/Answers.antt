-- `sens_parameters::served_columns` meets its contract: a law for each return. Assumes nothing.
use mathlib.Core.Path.{◌≡◌, refl, ◌∙◌}
use native.Mathlib.Omega.{arith}
use Rattle.std.specs.Prelude.{Err}
use Rattle.sequence.proofs.Answers.{refused}
use Rattle.sens_parameters.proofs.Returns.{served_refused, served_laid}
use Rattle.sens_parameters.proofs.served_columns.Goals as goal

pub returns-in_err-accept_columns : goal.returns-in_err-accept_columns
returns-in_err-accept_columns c = let a = c.args in
    let s = a.solved.now.site in
    let g = s.grid.plan in
    let r = c.in_err-accept_columns in
    let e : c.from_residual.result ≡ Err r.field-0.0 = grind arith in
    rw e (served_refused g.counts g.wiring.now s.term_index.now s.term_coefficient.now g.readings.now a.solved.now.sheet.now a.parameter a.columns.now a.sheet.now r.ensures.number (refused r.field-0.0))

pub returns : goal.returns
returns c = let a = c.args in
    let s = a.solved.now.site in
    let g = s.grid.plan in
    c.lay_columns.ensures ∙ served_laid g.counts g.wiring.now s.term_index.now s.term_coefficient.now g.readings.now a.solved.now.sheet.now a.parameter a.columns.now a.sheet.now c.in_ok-accept_columns.ensures.number refl
