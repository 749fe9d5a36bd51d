-- `asked::unknown` meets its contract: a base outside its limits before a number that stands for nothing. Assumes nothing.
use mathlib.Core.Path.{◌≡◌, refl, sym, ◌∙◌}
use mathlib.Core.Bool.{true, false}
use lib.Ieee.{Float}
use Rattle.float64.specs.Values.{base_low, base_high, in_range}
use Rattle.sequence.proofs.Lists.{failed, held}
use Rattle.sequence.proofs.Answers.{passed, holding}
use Rattle.asked.specs.Asked.{unknown_number}
use Rattle.asked.proofs.unknown.Goals as goal

module _ (base : Float) where
  outside : in_range base_low base_high base ≡ false → 3 ≡ unknown_number base
  unfolding unknown_number
  outside h = sym (holding 3 _ _ (rw h))

  inside : in_range base_low base_high base ≡ true → 4 ≡ unknown_number base
  unfolding unknown_number
  inside h = sym (passed 3 _ _ (rw h) ∙ holding 4 _ _ refl)

pub returns-then-not-in_range : goal.returns-then-not-in_range
returns-then-not-in_range c = outside _ (failed (rw (c.base_low.ensures, c.base_high.ensures) at c.in_range.ensures) c.if-not-in_range.true)

pub returns : goal.returns
returns c = inside _ (held (rw (c.base_low.ensures, c.base_high.ensures) at c.in_range.ensures) c.if-not-in_range.false)
