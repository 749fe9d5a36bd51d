-- `selector_check::selector_holds` meets its contract: the sign, then the weights. Assumes nothing.
use Rattle.sequence.proofs.Lists.{failed, held}
use Rattle.selector_check.specs.Tests.{selector_holds}
use Rattle.selector_check.proofs.selector_holds.Goals as goal

pub returns-then-within : goal.returns-then-within
unfolding selector_holds
returns-then-within c = let l = c.raw_limit-limit.ensures.0 in
    rw (rw l at (held c.within.ensures c.if-within.true)) (rw l at c.all_within.ensures)

pub returns-else-within : goal.returns-else-within
unfolding selector_holds
returns-else-within c = let f = rw c.raw_limit-limit.ensures.0 at (failed c.within.ensures c.if-within.false) in rw f c.if-within.false
