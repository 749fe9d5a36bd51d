-- `model::withdrawal::flow_offset_at` meets its contract, by its two readings. Assumes nothing.
use Rattle.model.specs.Quantities.{flow_offset}
use Rattle.model.proofs.withdrawal.flow_offset_at.Goals as goal

pub returns : goal.returns
unfolding flow_offset
returns c = rw (c.reading.ensures, c.reading-2.ensures)
