-- `sens_operands::operand_selector` meets its contract: a law for each return. Assumes nothing.
use mathlib.Core.Path.{◌≡◌, refl, sym, ◌∙◌}
use native.Mathlib.Omega.{arith}
use Rattle.std.specs.Prelude.{Err}
use Rattle.sequence.proofs.Answers.{refused}
use Rattle.sens_operands.specs.Calls.{selection}
use Rattle.sens_operands.proofs.Returns.{some_of, none_of, selector_refused, selector_unknown, selector_served}
use Rattle.sens_operands.proofs.operand_selector.Goals as goal

pub returns-in_err-site : goal.returns-in_err-site
returns-in_err-site c = let a = c.args in
    let e : c.from_residual.result ≡ Err c.in_err-site.field-0.0 = grind arith in
    rw e (selector_refused _ a.o (selection a.sign.now a.entries.now a.rows.now a.weights.now) c.in_err-site.ensures.number (refused c.in_err-site.field-0.0))

pub returns-in_err-k : goal.returns-in_err-k
returns-in_err-k c = let a = c.args in
    let e : c.from_residual-in_err-k.result ≡ Err c.in_err-k.field-0.0 = grind arith in
    let n = none_of _ _ c.ok_or.ensures.value c.in_err-k.was in
    rw (e, n.1) (selector_unknown _ a.o (selection a.sign.now a.entries.now a.rows.now a.weights.now) c.in_ok-site.ensures.number refl (sym c.served_of.ensures ∙ n.0))

pub returns : goal.returns
returns c = let a = c.args in
    let h = c.in_ok-site.ensures in
    rw (h.accepted.counts, h.accepted.wiring, h.accepted.readings) at c.lay_selector.ensures
    ∙ selector_served _ a.o (selection a.sign.now a.entries.now a.rows.now a.weights.now) h.number refl _ (sym c.served_of.ensures ∙ some_of _ _ c.ok_or.ensures.value c.in_ok-k.was)
