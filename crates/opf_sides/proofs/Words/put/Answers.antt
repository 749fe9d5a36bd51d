-- `opf_sides::Words::put` meets its contract. Assumes nothing.
use mathlib.Core.Path.{refl}
use Rattle.opf_sides.proofs.Storing.{one}
use Rattle.opf_sides.proofs.Words.put.Goals as goal

pub returns : goal.returns
returns c = record { stores = one _ _ c.rhs.ensures; same = refl }
