-- `parameter_column::quadratic_column` meets its contract. Assumes nothing.
use lib.Ieee.{of_bits, of_int}
use Rattle.float64.specs.Values.{whole}
use Rattle.parameter_column.specs.Columns.{valued}
use Rattle.parameter_column.proofs.quadratic_column.Goals as goal

pub returns : goal.returns
unfolding valued whole of_int of_bits
returns c = λ w ti tc r. rw c.solved_at.ensures at c.touch.ensures
