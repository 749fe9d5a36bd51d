-- `parameter_column::limit_column` meets its contract. Assumes nothing.
use Rattle.parameter_column.specs.Columns.{valued}
use Rattle.parameter_column.proofs.Touching.{then}
use Rattle.parameter_column.proofs.limit_column.Goals as goal

pub returns : goal.returns
unfolding valued
returns c = let a = c.args in λ w ti tc r. then (rw c.solved_at-lower.ensures at c.touch.ensures) (rw c.solved_at-upper.ensures at c.touch-2.ensures)
