-- `contraction::adjoint_column` meets its contract: the parameter column is gathered and contracted. Assumes nothing.
use mathlib.Core.Path.{◌∙◌}
use Rattle.contraction.proofs.adjoint_column.Goals as goal

pub contract-requires-clause-dim : goal.contract-requires-clause-dim
contract-requires-clause-dim c = rw (c.gathered.ensures, c.column-words.ensures.long) c.requires.dim

pub returns : goal.returns
returns c = c.contract.ensures ∙ rw (c.gathered.ensures, c.column-words.ensures.long, c.column-words.ensures.is, c.requires.dim)
