-- `model::withdrawal::shed_cap_at` meets its contract, by its one test. Assumes nothing.
use borrow.Author.Tests.{eq-eqb, ne_eqb}
use Rattle.network.specs.Layout.{allow_shed}
use Rattle.model.specs.Quantities.{shed_cap}
use Rattle.model.proofs.withdrawal.shed_cap_at.Goals as goal

pub returns-then-plan-eq1 : goal.returns-then-plan-eq1
unfolding shed_cap
returns-then-plan-eq1 c = let w = c.args.plan.now.wiring.now in rw (eq-eqb (allow_shed w) 1 c.if-plan-eq1.true, c.max_zero.ensures, c.reading.ensures)

pub returns-else-plan-eq1 : goal.returns-else-plan-eq1
unfolding shed_cap
returns-else-plan-eq1 c = let w = c.args.plan.now.wiring.now in rw (ne_eqb (allow_shed w) 1 c.if-plan-eq1.false)
