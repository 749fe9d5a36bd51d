-- `susceptance::weight` meets its contract: its two readings. Assumes nothing.
use Rattle.susceptance.specs.Susceptance.{weight}
use Rattle.susceptance.proofs.weight.Goals as goal

pub returns : goal.returns
unfolding weight
returns c = rw (c.reading.ensures, c.reading-2.ensures)
