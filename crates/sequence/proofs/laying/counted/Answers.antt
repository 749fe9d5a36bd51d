-- `sequence::laying::counted` meets its contract. Assumes nothing.
use mathlib.Core.Path.{refl}
use Rattle.sequence.proofs.Sheets as sheets
use Rattle.sequence.proofs.laying.counted.Goals as goal

pub returns : goal.returns
returns g c ts h = (sheets.counted (h _ _ _ refl c.put.ensures).puts).0
