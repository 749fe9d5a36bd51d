-- `float64::within` meets its contract: two comparisons test the magnitude. Assumes nothing.
use mathlib.Core.Path.{◌∙◌}
use Rattle.float64.proofs.Order.{within_both}
use Rattle.float64.proofs.within.Goals as goal

pub returns : goal.returns
returns c = c.in_range.ensures ∙ within_both _ _ c.requires
