-- `capi_sensitivity::copy` meets its contract, word by word. Assumes nothing.
use mathlib.Core.Path.{◌≡◌, refl, ap, ◌∙◌}
use mathlib.Core.List.{List}
use native.Mathlib.Omega.{arith}
use lib.ListN.{length}
use lib.Ieee.{Float, nan}
use Rattle.sequence.specs.Lists.{front}
use Rattle.sequence.proofs.Lists.{made_self}
use Rattle.sequence.proofs.Fronts.{none, more}
use Rattle.capi_sensitivity.proofs.copy.Goals as goal

pub loop-i-init : goal.loop-i-init
loop-i-init c = (none _ _, omega arith)

pub loop-i-preserved : goal.loop-i-preserved
loop-i-preserved c = let l = c.loop-i in (more _ (omega arith) l.invariant.0 refl, omega arith)

pub returns : goal.returns
returns c = let l = c.loop-i in
    let part = c.args.part.now in
    let e : l.i ≡ length part = omega arith in
    let p = rw e at l.invariant.0.is in
    p ∙ ap (λ (xs : List Float). front xs c.args.sheet.now) (made_self part nan)
