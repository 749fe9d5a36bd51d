-- `parameter_column::weight_column` meets its contract: five touches. Assumes nothing.
use Rattle.parameter_column.proofs.Touching.{then}
use Rattle.parameter_column.proofs.weight_column.Goals as goal

pub returns : goal.returns
returns c = let a = c.args in rw (c.word-from.ensures.0, c.word-to.ensures.0) at (then c.touch.ensures (then c.touch-2.ensures (then c.touch-3.ensures (then c.touch-4.ensures c.touch-5.ensures))))
