-- `opf_readback::put_values` meets its contract: a row more each turn. Assumes nothing.
use native.Mathlib.Omega.{arith}
use Rattle.sequence.proofs.Fronts.{none, more}
use Rattle.opf_readback.proofs.Reading.{whole}
use Rattle.opf_readback.proofs.put_values.Goals as goal

pub loop-q-init : goal.loop-q-init
loop-q-init c = none _ _

pub loop-q-preserved : goal.loop-q-preserved
loop-q-preserved c = more _ (omega (arith, c.loop-q.invariant.kept)) c.loop-q.invariant c.evaluate_at.ensures

pub returns : goal.returns
returns c = whole _ _ c.loop-q.invariant (omega (arith, c.loop-q.invariant.kept))
