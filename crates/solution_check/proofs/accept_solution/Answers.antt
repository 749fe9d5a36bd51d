-- `solution_check::accept_solution` meets its contract: the network with the sheet's length, then the sheet's words. Assumes nothing.
use mathlib.Core.Path.{refl, sym, ap, ◌∙◌}
use mathlib.Core.Bool.{Bool, true, cond}
use native.Mathlib.Omega.{arith}
use Rattle.std.proofs.lemmas.Result.{err_from_is_err_and}
use Rattle.solution_check.specs.Tests.{solution_holds}
use Rattle.solution_check.proofs.Own.{before_refused, before_accepted, solved, site_sheet}
use Rattle.solution_check.proofs.accept_solution.Goals as goal

pub returns-in_err-site-clause-number : goal.returns-in_err-site-clause-number
returns-in_err-site-clause-number c = let p = err_from_is_err_and c.from_residual.result c.from_residual.ensures.1 in
    rw (p.1, p.2) (before_refused _ _ _ _ c.sheet_is_long-sizes.ensures _ c.in_err-site.ensures.number)

pub invariant_of-solved : goal.invariant_of-solved
invariant_of-solved c = let a = c.in_ok-site.ensures in
    record { sheet_laid = site_sheet a.accepted (solved _ _ a.accepted.accepted (before_accepted _ _ _ true c.sheet_is_long-sizes.ensures a.number).0) refl }

pub sheet_holds-requires : goal.sheet_holds-requires
sheet_holds-requires c = let a = c.in_ok-site.ensures in
    let s = solved _ _ a.accepted.accepted (before_accepted _ _ _ true c.sheet_is_long-sizes.ensures a.number).0 in
    omega (arith, s.laid)

pub returns-then-sheet_holds-clause-number : goal.returns-then-sheet_holds-clause-number
unfolding solution_holds
returns-then-sheet_holds-clause-number c = let a = c.in_ok-site.ensures in
    let h = rw a.accepted.counts at (sym c.sheet_holds.ensures ∙ c.if-sheet_holds.true) in
    sym (ap (λ (v : Bool). cond v 0 3) h) ∙ (before_accepted _ _ _ _ c.sheet_is_long-sizes.ensures a.number).1

pub returns-then-sheet_holds-clause-solved : goal.returns-then-sheet_holds-clause-solved
returns-then-sheet_holds-clause-solved c = let a = c.in_ok-site.ensures in
    solved _ _ a.accepted.accepted (before_accepted _ _ _ true c.sheet_is_long-sizes.ensures a.number).0

pub returns-else-sheet_holds-clause-number : goal.returns-else-sheet_holds-clause-number
unfolding solution_holds
returns-else-sheet_holds-clause-number c = let a = c.in_ok-site.ensures in
    let h = rw a.accepted.counts at (sym c.sheet_holds.ensures ∙ c.if-sheet_holds.false) in
    sym (ap (λ (v : Bool). cond v 0 3) h) ∙ (before_accepted _ _ _ _ c.sheet_is_long-sizes.ensures a.number).1
