-- `opf_sides::side_if` meets its contract. Assumes nothing.
use Rattle.sequence.specs.Lists.{when}
use Rattle.opf_sides.proofs.side_if.Goals as goal

pub returns-then-on : goal.returns-then-on
unfolding when
returns-then-on c = rw c.if-on.true

pub returns-else-on : goal.returns-else-on
unfolding when
returns-else-on c = rw c.if-on.false
