-- `opf_readback::put_turned` meets its contract: a word more each turn. Assumes nothing.
use mathlib.Core.Path.{refl}
use native.Mathlib.Omega.{arith}
use Rattle.sequence.proofs.Fronts.{none, more}
use Rattle.opf_readback.proofs.Reading.{whole}
use Rattle.opf_readback.proofs.put_turned.Goals as goal

pub loop-i-init : goal.loop-i-init
loop-i-init c = none _ _

pub loop-i-preserved : goal.loop-i-preserved
loop-i-preserved c = more _ (omega (arith, c.loop-i.invariant.kept)) c.loop-i.invariant refl

pub returns : goal.returns
returns c = whole _ _ c.loop-i.invariant (omega (arith, c.loop-i.invariant.kept))
