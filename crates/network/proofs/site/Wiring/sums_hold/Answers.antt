-- `network::site::Wiring::sums_hold` meets its contract, test by test. Assumes nothing.
use mathlib.Core.Path.{sym, ◌∙◌}
use borrow.Author.Tests.{eq-eqb, ne_eqb}
use Rattle.network.specs.Numbers.{sums_hold}
use Rattle.network.proofs.site.Wiring.sums_hold.Goals as goal

pub returns-then-segment_sum-self : goal.returns-then-segment_sum-self
unfolding sums_hold
returns-then-segment_sum-self c = rw (ne_eqb _ _ (λ e. c.if-segment_sum-self.true (c.segment_sum.ensures ∙ e)))

pub returns : goal.returns
unfolding sums_hold
returns c = rw (eq-eqb _ _ (sym c.segment_sum.ensures ∙ c.if-segment_sum-self.false), c.term_sum.ensures)
