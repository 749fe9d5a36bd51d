-- `network::layout::word` meets its contract: the place lies in the slice. Assumes nothing.
use native.Mathlib.Omega.{arith}
use Rattle.network.specs.Layout.{wire}
use Rattle.network.proofs.Places.{part_inside}
use Rattle.network.proofs.layout.word.Goals as goal

pub overflow_add-at : goal.overflow_add-at
overflow_add-at c = omega (arith, part_inside c.args.c c.args.p)

pub offset_bounds-wiring-at : goal.offset_bounds-wiring-at
offset_bounds-wiring-at c = omega (arith, part_inside c.args.c c.args.p)

pub bounds-wiring-at : goal.bounds-wiring-at
bounds-wiring-at c = omega (arith, part_inside c.args.c c.args.p)

pub returns : goal.returns
unfolding wire
returns c = (rw (c.wide.ensures.0, c.part_start.ensures), c.wide.ensures.1)
