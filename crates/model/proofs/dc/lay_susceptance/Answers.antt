-- `model::dc::lay_susceptance` meets its contract: the list, and its bound. Assumes nothing.
use Rattle.std.proofs.Common.{rules}
use Rattle.susceptance.proofs.Bound.{list_length}
use Rattle.model.proofs.dc.lay_susceptance.Goals as goal

pub returns : goal.returns
returns c = c.lay.ensures _ (λ s after r e p. search rules) (list_length _ _ _)
