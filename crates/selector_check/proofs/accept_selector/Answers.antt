-- `selector_check::accept_selector` meets its contract: the network's tests with the selector's sizes and values, then the mode, then the rows. Assumes nothing.
use mathlib.Core.Path.{refl, sym, ◌∙◌}
use Rattle.std.proofs.lemmas.Result.{err_from_is_err_and}
use Rattle.sequence.proofs.Answers.{refused}
use Rattle.selector_check.proofs.Selecting.{auto_is, selector_stands, selector_auto, selector_out, selector_passes, selected, dim_in}
use Rattle.selector_check.proofs.accept_selector.Goals as goal

pub returns-in_err-site-clause-number : goal.returns-in_err-site-clause-number
returns-in_err-site-clause-number c = let p = err_from_is_err_and c.from_residual.result c.from_residual.ensures.1 in
    rw (p.1, p.2) (selector_stands _ _ _ _ _ c.selector_is_long.ensures c.selector_holds.ensures c.in_err-site.ensures.number (refused _))

pub returns-then-eq-clause-number : goal.returns-then-eq-clause-number
returns-then-eq-clause-number c =
    selector_auto _ _ _ _ _ c.selector_is_long.ensures c.selector_holds.ensures c.in_ok-site.ensures.number refl (sym (auto_is _ c.eq.ensures) ∙ c.if-eq.true)

pub returns-then-rows_below-clause-number : goal.returns-then-rows_below-clause-number
returns-then-rows_below-clause-number c = let s = c.in_ok-site.ensures in
    selector_passes _ _ _ _ _ c.selector_is_long.ensures c.selector_holds.ensures s.number refl (sym (auto_is _ c.eq.ensures) ∙ c.if-eq.false) (dim_in s.accepted c.site_dim.ensures) c.rows_below.ensures c.if-rows_below.true

pub returns-then-rows_below-clause-selected : goal.returns-then-rows_below-clause-selected
returns-then-rows_below-clause-selected c = let s = c.in_ok-site.ensures in
    selected _ _ c.args.values _ _ c.selector_is_long.ensures c.selector_holds.ensures s.number refl (sym (auto_is _ c.eq.ensures) ∙ c.if-eq.false) (dim_in s.accepted c.site_dim.ensures) c.rows_below.ensures c.if-rows_below.true

pub returns-else-rows_below-clause-number : goal.returns-else-rows_below-clause-number
returns-else-rows_below-clause-number c = let s = c.in_ok-site.ensures in
    selector_out _ _ _ _ _ c.selector_is_long.ensures c.selector_holds.ensures s.number refl (sym (auto_is _ c.eq.ensures) ∙ c.if-eq.false) (dim_in s.accepted c.site_dim.ensures) c.rows_below.ensures c.if-rows_below.false
