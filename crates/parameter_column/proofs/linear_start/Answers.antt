-- `parameter_column::linear_start` meets its contract: the iterator sums the rows of the linear rows before. Assumes nothing.
use Rattle.std.proofs.Common.{rules, ◌≡◌, arith}
use Rattle.sequence.proofs.Lists.{before_le}
use Rattle.sequence.proofs.Sums.{range_sum, range_fits}
use Rattle.kkt_index.specs.Index.{rows_at, linear_start}
use Rattle.kkt_index.proofs.Starts.{few_rows}
use Rattle.parameter_column.proofs.linear_start.Goals as goal

pub sum-requires-clause-fits : goal.sum-requires-clause-fits
unfolding linear_start
sum-requires-clause-fits c =
    let a = c.args in
    let p = a.plan.now in
    range_fits _ (rows_at p.counts p.wiring.now p.readings.now) a.q c.map.ensures.source c.map.ensures.closure (λ x r q k. search rules) _
    (omega (arith, p.wiring_laid.few, before_le (rows_at p.counts p.wiring.now p.readings.now) a.q p.counts.rows (omega arith), few_rows p.counts p.wiring.now p.readings.now))

pub returns : goal.returns
unfolding linear_start
returns c =
    let a = c.args in
    let p = a.plan.now in
    let e : c.sum.result ≡ linear_start p.counts p.wiring.now p.readings.now a.q = range_sum _ (rows_at p.counts p.wiring.now p.readings.now) _ c.map.ensures.source c.map.ensures.closure (λ x r q k. search rules) _ c.sum.ensures.ran in
    (e, omega (arith, e, p.wiring_laid.few, before_le (rows_at p.counts p.wiring.now p.readings.now) a.q p.counts.rows (omega arith), few_rows p.counts p.wiring.now p.readings.now))
