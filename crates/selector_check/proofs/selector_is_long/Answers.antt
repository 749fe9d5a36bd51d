-- `selector_check::selector_is_long` meets its contract: the lengths, then the counts' sum. Assumes nothing.
use borrow.Author.Tests.{eq-eqb, ne_eqb}
use Rattle.contraction.specs.Contraction.{entry_start}
use Rattle.selector_check.specs.Tests.{selector_long}
use Rattle.selector_check.proofs.selector_is_long.Goals as goal

pub returns-then-entries-selector : goal.returns-then-entries-selector
unfolding selector_long entry_start
returns-then-entries-selector c = rw (eq-eqb _ _ c.if-entries-selector.true) c.counts_sum.ensures

pub returns-else-entries-selector : goal.returns-else-entries-selector
unfolding selector_long
returns-else-entries-selector c = rw (ne_eqb _ _ c.if-entries-selector.false)
