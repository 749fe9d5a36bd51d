-- `sens::third_holds` meets its contract: the parameter sheet's front, then the solved columns. Assumes nothing.
use mathlib.Core.Path.{sym, ◌∙◌}
use Prim.Native.Nat.{◌*◌}
use native.Mathlib.Omega.{arith}
use lib.ListN.{length, length-take}
use borrow.Author.Tests.{leb-true, leb-false}
use Rattle.sequence.proofs.Lists.{failed, held, never}
use Rattle.sens.specs.Calls.{third_holds}
use Rattle.sens.proofs.third_holds.Goals.{then-fits, else-fits}
use Rattle.sens.proofs.third_holds.Goals as goal

pub slice_bounds-all_within-end : goal.slice_bounds-all_within-end
slice_bounds-all_within-end c = let a = c.args in
    let h = leb-true (a.dim * a.columns) (length a.parameter.now) (held c.fits.ensures c.if-fits.true) in
    simp length-take (omega (arith, h))

pub returns-then-all_within : goal.returns-then-all_within
unfolding third_holds
returns-then-all_within c = λ h.
    elim c.if-fits.branch [
      | then-fits w ↦ rw (rw w.parameter_limit.ensures.0 at (held w.all_within.ensures (sym w.value-is ∙ c.if-all_within.true))) (rw c.sheet_limit.ensures.0 at c.all_within-then-all_within.ensures)
      | else-fits w ↦ never (sym w.if-fits.false ∙ sym w.value-is ∙ c.if-all_within.true)
    ]

pub returns-else-all_within : goal.returns-else-all_within
unfolding third_holds
returns-else-all_within c = let a = c.args in
    λ h.
    elim c.if-fits.branch [
      | then-fits w ↦ let f = rw w.parameter_limit.ensures.0 at (failed w.all_within.ensures (sym w.value-is ∙ c.if-all_within.false)) in rw f c.if-all_within.false
      | else-fits w ↦ absurd (omega (arith, h, leb-false (a.dim * a.columns) (length a.parameter.now) (failed c.fits.ensures w.if-fits.false)))
    ]
