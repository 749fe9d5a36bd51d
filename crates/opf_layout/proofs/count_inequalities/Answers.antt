-- `opf_layout::count_inequalities` meets its contract: the iterator sums the inequalities of each linear row. Assumes nothing.
use Rattle.std.proofs.Common.{rules, ◌≡◌, arith}
use Rattle.sequence.proofs.Sums.{range_sum, range_fits}
use Rattle.opf_layout.specs.Layout.{inequality_rank}
use Rattle.opf_layout.proofs.Ranks.{limit, inequality_few}
use Rattle.opf_layout.proofs.count_inequalities.Goals as goal

pub sum-requires-clause-fits : goal.sum-requires-clause-fits
unfolding inequality_rank
sum-requires-clause-fits c =
    range_fits _ (limit c.args.plan.now.counts c.args.plan.now.wiring.now c.args.plan.now.readings.now) c.args.plan.now.counts.rows c.map.ensures.source c.map.ensures.closure (λ x r q k. search rules) _
    (omega (arith, inequality_few c.args.plan.now.counts c.args.plan.now.wiring.now c.args.plan.now.readings.now c.args.plan.now.counts.rows))

pub returns : goal.returns
unfolding inequality_rank
returns c =
    let e : c.sum.result ≡ inequality_rank c.args.plan.now.counts c.args.plan.now.wiring.now c.args.plan.now.readings.now c.args.plan.now.counts.rows = range_sum _ (limit c.args.plan.now.counts c.args.plan.now.wiring.now c.args.plan.now.readings.now) _ c.map.ensures.source c.map.ensures.closure (λ x r q k. search rules) _ c.sum.ensures.ran in
    (e, omega (arith, e, inequality_few c.args.plan.now.counts c.args.plan.now.wiring.now c.args.plan.now.readings.now c.args.plan.now.counts.rows))
