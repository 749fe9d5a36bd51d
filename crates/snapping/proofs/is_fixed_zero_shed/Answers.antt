-- `snapping::is_fixed_zero_shed` meets its contract: the cap is the definition's. Assumes nothing.
use Rattle.model.specs.Quantities.{shed_cap}
use Rattle.snapping.proofs.is_fixed_zero_shed.Goals as goal

pub returns : goal.returns
unfolding shed_cap
returns c = λ S. rw (c.shed_cap_at.ensures, c.snap_tol.ensures)
