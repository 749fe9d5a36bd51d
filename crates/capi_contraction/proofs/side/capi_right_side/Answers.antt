-- `capi_contraction::side::capi_right_side` meets its contract: none of slices that do not fit, or the part of what was decoded. Assumes nothing.
use mathlib.Core.Path.{sym, ◌∙◌}
use mathlib.Core.Bool.{Bool}
use mathlib.Core.List.{List}
use lib.Ieee.{Float}
use Rattle.sens.specs.Calls.{side_of}
use Rattle.decoding.specs.Decoding.{fits}
use Rattle.capi_contraction.specs.Contraction.{side_out}
use Rattle.capi_contraction.proofs.Fitting.{beside, left_out, right_out}
use Rattle.capi_contraction.proofs.Sided.{unfit, told_side}
use Rattle.capi_contraction.proofs.side.capi_right_side.Goals as goal

pub returns-in_default : goal.returns-in_default
returns-in_default c = let a = c.args in
    unfit _ _ a.sheet.now (left_out (fits 8 a.selection.now 6544) (sym c.in_default.ensures.fits))

pub returns-in_default-take : goal.returns-in_default-take
returns-in_default-take c = let a = c.args in
    unfit _ _ a.sheet.now (right_out (fits 8 a.parameter.now 6544) (sym c.in_default-take.ensures.fits))

pub returns : goal.returns
returns c = let a = c.args in
    let p = c.in-Some.ensures in
    let q = c.in-Some-take.ensures in
    rw (← c.mode_asked.ensures) (c.side_out.ensures ∙ told_side (λ (b : Bool) (x y : List Float). side_out b (side_of c.mode_asked.result a.count x y) a.sheet.now) (beside (sym p.fits) (sym q.fits)) p.held q.held)
