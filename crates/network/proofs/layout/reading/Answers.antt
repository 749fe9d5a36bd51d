-- `network::layout::reading` meets its contract: the place lies in the slice. Assumes nothing.
use native.Mathlib.Omega.{arith}
use Rattle.network.specs.Layout.{reading, place}
use Rattle.network.proofs.Places.{field_inside}
use Rattle.network.proofs.layout.reading.Goals as goal

pub overflow_add-at : goal.overflow_add-at
overflow_add-at c = omega (arith, field_inside c.args.c c.args.f)

pub offset_bounds-readings-at : goal.offset_bounds-readings-at
offset_bounds-readings-at c = omega (arith, field_inside c.args.c c.args.f)

pub bounds-readings-at : goal.bounds-readings-at
bounds-readings-at c = omega (arith, field_inside c.args.c c.args.f)

pub returns : goal.returns
unfolding reading place
returns c = rw c.field_start.ensures
