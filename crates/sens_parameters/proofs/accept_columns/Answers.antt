-- `sens_parameters::accept_columns` meets its contract: a law for each return. Assumes nothing.
use mathlib.Core.Path.{sym, ◌∙◌}
use lib.ListN.{get_or}
use Rattle.sequence.proofs.Lists.{failed, held}
use Rattle.sens_parameters.proofs.Columns.{columns_at, cost_below, number_5, number_plain, number_6, number_cost}
use Rattle.sens_parameters.proofs.accept_columns.Goals as goal
use Rattle.sens_parameters.proofs.accept_columns.Goals.{else-is_cost-via-then-is_cost+else-some_piecewise, else-is_cost-via-else-is_cost}

pub returns-then-not-columns_hold-clause-number : goal.returns-then-not-columns_hold-clause-number
returns-then-not-columns_hold-clause-number c = let a = c.args in number_5 a.plan.now.counts a.plan.now.wiring.now a.k a.columns.now (failed c.columns_hold.ensures c.if-not-columns_hold.true)

pub some_piecewise-requires : goal.some_piecewise-requires
some_piecewise-requires c = let a = c.args in
    λ t l. cost_below a.plan.now.counts a.k (get_or a.columns.now t 0) (held c.is_cost.ensures c.if-is_cost.true) (columns_at a.plan.now.counts a.k a.columns.now (held c.columns_hold.ensures c.if-not-columns_hold.false) t l)

pub returns-then-some_piecewise-clause-number : goal.returns-then-some_piecewise-clause-number
returns-then-some_piecewise-clause-number c = let a = c.args in
    number_6 a.plan.now.counts a.plan.now.wiring.now a.k a.columns.now (held c.columns_hold.ensures c.if-not-columns_hold.false) (held c.is_cost.ensures c.if-is_cost.true) (sym c.some_piecewise.ensures ∙ c.if-some_piecewise.true)

pub returns-clause-number : goal.returns-clause-number
returns-clause-number c = let a = c.args in
    let h = held c.columns_hold.ensures c.if-not-columns_hold.false in
    elim c.else-is_cost.branch [
      | else-is_cost-via-then-is_cost+else-some_piecewise w ↦ number_cost a.plan.now.counts a.plan.now.wiring.now a.k a.columns.now h (held c.is_cost.ensures w.if-is_cost.true) (sym w.some_piecewise.ensures ∙ w.if-some_piecewise.false)
      | else-is_cost-via-else-is_cost w ↦ number_plain a.plan.now.counts a.plan.now.wiring.now a.k a.columns.now h (failed c.is_cost.ensures w.if-is_cost.false)
    ]

pub returns-clause-by_index : goal.returns-clause-by_index
returns-clause-by_index c = let a = c.args in columns_at a.plan.now.counts a.k a.columns.now (held c.columns_hold.ensures c.if-not-columns_hold.false)
