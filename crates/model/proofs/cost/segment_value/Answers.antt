-- `model::cost::segment_value` meets its contract: the two readings are the segment's. Assumes nothing.
use Rattle.model.specs.Quantities.{segment_value}
use Rattle.model.proofs.cost.segment_value.Goals as goal

pub returns : goal.returns
unfolding segment_value
returns c = rw (c.reading.ensures, c.reading-2.ensures)
