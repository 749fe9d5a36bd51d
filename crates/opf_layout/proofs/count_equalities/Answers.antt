-- `opf_layout::count_equalities` meets its contract: the iterator sums the equalities of each linear row. Assumes nothing.
use Rattle.std.proofs.Common.{rules, ◌≡◌, arith}
use Rattle.sequence.proofs.Sums.{range_sum, range_fits}
use Rattle.opf_layout.specs.Layout.{equality_rank}
use Rattle.opf_layout.proofs.Ranks.{equal, equality_few}
use Rattle.opf_layout.proofs.count_equalities.Goals as goal

pub sum-requires-clause-fits : goal.sum-requires-clause-fits
unfolding equality_rank
sum-requires-clause-fits c =
    range_fits _ (equal c.args.plan.now.counts c.args.plan.now.wiring.now c.args.plan.now.readings.now) c.args.plan.now.counts.rows c.map.ensures.source c.map.ensures.closure (λ x r q k. search rules) _
    (omega (arith, equality_few c.args.plan.now.counts c.args.plan.now.wiring.now c.args.plan.now.readings.now c.args.plan.now.counts.rows))

pub returns : goal.returns
unfolding equality_rank
returns c =
    let e : c.sum.result ≡ equality_rank c.args.plan.now.counts c.args.plan.now.wiring.now c.args.plan.now.readings.now c.args.plan.now.counts.rows = range_sum _ (equal c.args.plan.now.counts c.args.plan.now.wiring.now c.args.plan.now.readings.now) _ c.map.ensures.source c.map.ensures.closure (λ x r q k. search rules) _ c.sum.ensures.ran in
    (e, omega (arith, e, equality_few c.args.plan.now.counts c.args.plan.now.wiring.now c.args.plan.now.readings.now c.args.plan.now.counts.rows))
