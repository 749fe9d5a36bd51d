-- `model::cost::quadratic` meets its contract: the three readings are the generator's. Assumes nothing.
use Rattle.model.specs.Quantities.{quadratic}
use Rattle.model.proofs.cost.quadratic.Goals as goal

pub returns : goal.returns
unfolding quadratic
returns c = rw (c.reading-cq.ensures, c.reading-cl.ensures, c.reading-cc.ensures)
