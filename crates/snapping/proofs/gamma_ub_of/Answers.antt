-- `snapping::gamma_ub_of` meets its contract: the limit's slack and its dual. Assumes nothing.
use Rattle.float64.specs.Values.{nought}
use Rattle.snapping.proofs.gamma_ub_of.Goals as goal

pub returns : goal.returns
returns c = rw (c.limit_value.ensures, c.value.ensures, c.angle.ensures (λ f i. nought), c.reading.ensures)
