-- `solution::solved_at` meets its contract: the place lies in the sheet. Assumes nothing.
use native.Mathlib.Omega.{arith}
use Rattle.solution.specs.Sheet.{solved}
use Rattle.solution.proofs.Entries.{entry_inside}
use Rattle.solution.proofs.solved_at.Goals as goal

pub overflow_add-at : goal.overflow_add-at
overflow_add-at c = omega (arith, entry_inside c.args.c c.args.p c.args.e)

pub offset_bounds-sheet-at : goal.offset_bounds-sheet-at
offset_bounds-sheet-at c = omega (arith, entry_inside c.args.c c.args.p c.args.e)

pub bounds-sheet-at : goal.bounds-sheet-at
bounds-sheet-at c = omega (arith, entry_inside c.args.c c.args.p c.args.e)

pub returns : goal.returns
unfolding solved
returns c = rw c.entry_start.ensures
