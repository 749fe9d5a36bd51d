-- `kkt_index::linear_rows` meets its contract: the iterator sums the rows of each linear row. Assumes nothing.
use Rattle.std.proofs.Common.{rules, ◌≡◌, arith}
use Rattle.sequence.specs.Lists.{before}
use Rattle.sequence.proofs.Sums.{range_sum, range_fits}
use Rattle.kkt_index.specs.Index.{rows_at, linear_start}
use Rattle.kkt_index.proofs.Starts.{few_rows}
use Rattle.kkt_index.proofs.linear_rows.Goals as goal

pub sum-requires-clause-fits : goal.sum-requires-clause-fits
unfolding linear_start
sum-requires-clause-fits c =
    range_fits _ (rows_at c.args.plan.now.counts c.args.plan.now.wiring.now c.args.plan.now.readings.now) c.args.plan.now.counts.rows c.map.ensures.source c.map.ensures.closure (λ x r q k. search rules) _
    (omega (arith, few_rows c.args.plan.now.counts c.args.plan.now.wiring.now c.args.plan.now.readings.now))

pub returns : goal.returns
unfolding linear_start
returns c =
    let e : c.sum.result ≡ before (rows_at c.args.plan.now.counts c.args.plan.now.wiring.now c.args.plan.now.readings.now) c.args.plan.now.counts.rows = range_sum _ _ _ c.map.ensures.source c.map.ensures.closure (λ x r q k. search rules) _ c.sum.ensures.ran in
    (e, omega (arith, e, few_rows c.args.plan.now.counts c.args.plan.now.wiring.now c.args.plan.now.readings.now))
