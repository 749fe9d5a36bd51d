-- `float64::in_range` meets its contract, by its one test. Assumes nothing.
use Rattle.float64.specs.Values.{in_range}
use Rattle.float64.proofs.in_range.Goals as goal

pub returns-then-low-x : goal.returns-then-low-x
unfolding in_range
returns-then-low-x c = rw c.if-low-x.true

pub returns-else-low-x : goal.returns-else-low-x
unfolding in_range
returns-else-low-x c = rw c.if-low-x.false
