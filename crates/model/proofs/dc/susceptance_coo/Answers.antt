-- `model::dc::susceptance_coo` meets its contract: a law for each return. Assumes nothing.
use mathlib.Core.Path.{◌≡◌, refl, ◌∙◌}
use native.Mathlib.Omega.{arith}
use Rattle.std.specs.Prelude.{Err}
use Rattle.sequence.proofs.Answers.{refused}
use Rattle.model.proofs.Calls.{numbered, list_refused, list_laid}
use Rattle.model.proofs.dc.susceptance_coo.Goals as goal

pub returns-in_err-site : goal.returns-in_err-site
returns-in_err-site c = let e : c.from_residual.result ≡ Err c.in_err-site.field-0.0 = grind arith in
    rw e (list_refused _ _ _ _ _ (numbered _ c.in_err-site.ensures.number) (refused c.in_err-site.field-0.0))

pub returns : goal.returns
returns c = let s = c.in_ok-site.ensures in
    rw (s.accepted.counts, s.accepted.wiring, s.accepted.readings) at c.lay_susceptance.ensures ∙ list_laid _ _ _ _ _ (numbered _ s.number) refl
