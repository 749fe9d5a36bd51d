-- `model::cost::generator_cost_at` meets its contract, on either way. Assumes nothing.
use borrow.Author.Tests.{ne_eqb}
use Rattle.model.specs.Quantities.{generator_cost}
use Rattle.model.proofs.cost.generator_cost_at.Goals as goal

pub returns-then-count-eq0 : goal.returns-then-count-eq0
unfolding generator_cost
returns-then-count-eq0 c = rw (← c.word-count.ensures.0, c.if-count-eq0.true) c.quadratic.ensures

pub returns-else-count-eq0 : goal.returns-else-count-eq0
unfolding generator_cost
returns-else-count-eq0 c = rw (← c.word-count.ensures.0, ne_eqb _ 0 c.if-count-eq0.false) c.piecewise.ensures
