-- `site_text::solution_b` meets its contract: its literals are the doubles of the definition. Assumes nothing.
use mathlib.Core.Path.{refl}
use lib.Ieee.{of_bits, neg, div}
use Rattle.float64.specs.Values.{whole}
use Rattle.site_text.proofs.solution_b.Goals as goal

pub returns : goal.returns
unfolding of_bits neg whole div
returns c = refl
