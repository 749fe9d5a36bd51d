-- `opf_layout::sheds_at` meets its contract: the cap is the definition's. Assumes nothing.
use Rattle.opf_layout.specs.Layout.{sheds}
use Rattle.opf_layout.proofs.sheds_at.Goals as goal

pub returns : goal.returns
unfolding sheds
returns c = rw c.shed_cap_at.ensures
