-- `susceptance::mark` meets its contract: its four stores. Assumes nothing.
use mathlib.Core.Path.{refl}
use native.Mathlib.Omega.{arith}
use lib.ListN.{length-set}
use Rattle.susceptance.specs.Incidence.{marked}
use Rattle.susceptance.proofs.mark.Goals as goal

pub bounds-hit-p-2 : goal.bounds-hit-p-2
bounds-hit-p-2 c = simp length-set (omega arith)

pub bounds-hit-q-2 : goal.bounds-hit-q-2
bounds-hit-q-2 c = simp length-set (omega arith)

pub returns : goal.returns
unfolding marked
returns c = refl
