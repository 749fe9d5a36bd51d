-- `float64::max_zero` meets its contract, by its one test. Assumes nothing.
use mathlib.Core.Path.{◌≡◌}
use mathlib.Core.Bool.{true, false}
use lib.Ieee.{lt}
use Rattle.float64.specs.Values.{nought, max_zero}
use Rattle.float64.proofs.max_zero.Goals as goal

pub returns-then-x : goal.returns-then-x
unfolding max_zero
returns-then-x c = let above : lt nought c.args.x ≡ true = c.if-x.true in rw above

pub returns-else-x : goal.returns-else-x
unfolding max_zero
returns-else-x c = let notAbove : lt nought c.args.x ≡ false = c.if-x.false in rw notAbove
