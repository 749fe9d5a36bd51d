-- `sens::contraction_first` meets its contract: refused by a test, or the mode's count and sheet. Assumes nothing.
use mathlib.Core.Path.{◌≡◌, refl, ◌∙◌}
use native.Mathlib.Omega.{arith}
use Rattle.std.specs.Prelude.{Err}
use Rattle.sequence.proofs.Answers.{refused}
use Rattle.network.specs.Sites.{network_in}
use Rattle.contraction.specs.Selectors.{selector_in}
use Rattle.selector_check.proofs.Selecting.{dim_in}
use Rattle.sens.proofs.Returns.{forward_count, never_auto, first_refused, first_forward, first_adjoint}
use Rattle.sens.proofs.contraction_first.Goals as goal

pub returns-in_err-site : goal.returns-in_err-site
returns-in_err-site c = let e : c.from_residual.result ≡ Err c.in_err-site.field-0.0 = grind arith in
    rw e (first_refused _ _ _ _ _ c.in_err-site.ensures.number (refused c.in_err-site.field-0.0))

pub overflow_mul-result : goal.overflow_mul-result
overflow_mul-result c = let s = c.in_ok-site.ensures in
    omega (arith, forward_count (network_in c.args.lent) c.args.mode (selector_in c.args.selector) c.args.columns s.first_accepted c.in-Forward.is (dim_in s.accepted c.site_dim-dim.ensures))

pub invariant_of-lay_selection : goal.invariant_of-lay_selection
invariant_of-lay_selection c = let s = c.in_ok-site.ensures in
    rw (dim_in s.accepted c.site_dim-dim.ensures) (record { entered = s.first_accepted.entered })

pub returns-in-Forward : goal.returns-in-Forward
returns-in-Forward c = let s = c.in_ok-site.ensures in
    first_forward _ _ _ _ _ s.number refl c.in-Forward.is (dim_in s.accepted c.site_dim-dim.ensures)

pub returns-in-Adjoint : goal.returns-in-Adjoint
returns-in-Adjoint c = let s = c.in_ok-site.ensures in
    c.lay_selection.ensures ∙ first_adjoint _ _ _ _ _ s.number refl c.in-Adjoint.is (dim_in s.accepted c.site_dim-dim.ensures)

pub returns-in-Auto : goal.returns-in-Auto
returns-in-Auto c = absurd (never_auto _ _ _ _ c.in_ok-site.ensures.first_accepted c.in-Auto.is)
