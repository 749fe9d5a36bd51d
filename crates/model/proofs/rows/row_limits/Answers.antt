-- `model::rows::row_limits` meets its contract: the mask and the two readings are those of the row. Assumes nothing.
use Rattle.model.specs.Rows.{row_limits}
use Rattle.model.proofs.rows.row_limits.Goals as goal

pub returns : goal.returns
unfolding row_limits
returns c = rw (c.limits_of.ensures, c.word-mask.ensures.0, c.reading-upper.ensures, c.reading-lower.ensures)
