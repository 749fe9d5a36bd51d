-- `sens::lay_selection` meets its contract: short, or filled. Assumes nothing.
use Prim.Native.Nat.{◌*◌, ◌≤◌}
use native.Mathlib.Omega.{arith}
use lib.ListN.{length}
use borrow.Author.Tests.{leb-true}
use Rattle.sequence.proofs.Lists.{failed, held}
use Rattle.sens.proofs.Returns.{selection_short, selection_done}
use Rattle.sens.proofs.lay_selection.Goals as goal

pub returns-then-not-fits : goal.returns-then-not-fits
returns-then-not-fits c = selection_short _ _ _ (failed c.fits.ensures c.if-not-fits.true)

pub overflow_mul-result : goal.overflow_mul-result
overflow_mul-result c = let a = c.args in
    let h : a.entries.dim * length a.entries.selector.counts.now ≤ length a.selection.now = leb-true _ _ (held c.fits.ensures c.if-not-fits.false) in
    omega (arith, h, c.well_formed)

pub select-requires : goal.select-requires
select-requires c = leb-true _ _ (held c.fits.ensures c.if-not-fits.false)

pub returns : goal.returns
returns c = selection_done _ _ c.args.selection.now (held c.fits.ensures c.if-not-fits.false) c.select.ensures
