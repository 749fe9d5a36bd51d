-- `sens::contraction_third` meets its contract: refused by a test, short, or contracted. Assumes nothing.
use mathlib.Core.Path.{◌≡◌, refl}
use Prim.Native.Nat.{◌*◌, ◌≤◌}
use native.Mathlib.Omega.{arith}
use lib.ListN.{length}
use borrow.Author.Tests.{leb-true}
use Rattle.std.specs.Prelude.{Err}
use Rattle.sequence.proofs.Lists.{failed, held}
use Rattle.sequence.proofs.Answers.{refused}
use Rattle.selector_check.proofs.Selecting.{dim_in}
use Rattle.sens.proofs.Returns.{third_refused, third_short, third_done}
use Rattle.sens.proofs.contraction_third.Goals as goal

pub returns-in_err-site : goal.returns-in_err-site
returns-in_err-site c = let e : c.from_residual.result ≡ Err c.in_err-site.field-0.0 = grind arith in
    rw e (third_refused _ _ _ _ _ _ _ c.in_err-site.ensures.number (refused c.in_err-site.field-0.0))

pub returns-then-not-fits : goal.returns-then-not-fits
returns-then-not-fits c = third_short _ _ _ _ _ _ _ c.in_ok-site.ensures.number refl (failed c.fits.ensures c.if-not-fits.true)

pub invariant_of-entries : goal.invariant_of-entries
invariant_of-entries c = let s = c.in_ok-site.ensures in
    rw (dim_in s.accepted c.site_dim.ensures) (record { entered = s.third_accepted.entered })

pub invariant_of-sides : goal.invariant_of-sides
invariant_of-sides c = let s = c.in_ok-site.ensures in
    rw (dim_in s.accepted c.site_dim.ensures) (record { sided = s.third_accepted.sided })

pub contract-requires : goal.contract-requires
contract-requires c = leb-true _ _ (held c.fits.ensures c.if-not-fits.false)

pub overflow_mul-result : goal.overflow_mul-result
overflow_mul-result c = let h : length c.args.selector.counts.now * c.args.columns ≤ length c.args.out.now = leb-true _ _ (held c.fits.ensures c.if-not-fits.false) in
    omega (arith, h, c.well_formed)

pub returns : goal.returns
returns c = let s = c.in_ok-site.ensures in
    third_done _ _ _ _ _ _ c.args.out.now s.number refl (held c.fits.ensures c.if-not-fits.false) (dim_in s.accepted c.site_dim.ensures) c.contract.ensures
