-- `change::place_of` meets its contract: the place lies in the slice. Assumes nothing.
use native.Mathlib.Omega.{arith}
use Rattle.change.proofs.Made.{placed, place_inside}
use Rattle.change.proofs.place_of.Goals as goal

pub overflow_add-result : goal.overflow_add-result
overflow_add-result c = let a = c.args in omega (arith, placed a.c a.field a.index c.field_start.ensures, place_inside a.c a.field a.index c.requires.index_bound, c.requires.few)

pub returns-clause-value : goal.returns-clause-value
returns-clause-value c = let a = c.args in placed a.c a.field a.index c.field_start.ensures

pub returns-clause-inside : goal.returns-clause-inside
returns-clause-inside c = let a = c.args in rw (placed a.c a.field a.index c.field_start.ensures) (place_inside a.c a.field a.index c.requires.index_bound)
