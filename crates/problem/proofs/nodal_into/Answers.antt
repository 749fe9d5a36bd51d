-- `problem::nodal_into` meets its contract, bus by bus. Assumes nothing.
use native.Mathlib.Omega.{arith}
use Rattle.sequence.proofs.Fronts.{none, more}
use Rattle.opf_readback.proofs.Reading.{whole}
use Rattle.problem.proofs.nodal_into.Goals as goal

pub loop-i-init : goal.loop-i-init
loop-i-init c = none _ _

pub loop-i-preserved : goal.loop-i-preserved
loop-i-preserved c = more _ (omega (arith, c.loop-i.invariant.kept)) c.loop-i.invariant (rw (c.value.ensures, c.reading-base.ensures))

pub returns : goal.returns
returns c = whole _ _ c.loop-i.invariant (omega (arith, c.loop-i.invariant.kept))
