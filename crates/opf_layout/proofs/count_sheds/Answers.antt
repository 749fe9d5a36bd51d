-- `opf_layout::count_sheds` meets its contract: the iterator counts the buses that have a shed column. Assumes nothing.
use Rattle.std.proofs.Common.{rules, ◌≡◌, arith}
use Rattle.sequence.proofs.Sums.{range_sum, range_fits}
use Rattle.opf_layout.specs.Layout.{active_rank, sheds}
use Rattle.opf_layout.proofs.Ranks.{one_of, rank_few}
use Rattle.opf_layout.proofs.count_sheds.Goals as goal

pub sum-requires-clause-fits : goal.sum-requires-clause-fits
unfolding active_rank
sum-requires-clause-fits c =
    range_fits _ (one_of (sheds c.args.plan.now.counts c.args.plan.now.wiring.now c.args.plan.now.readings.now)) c.args.plan.now.counts.buses c.map.ensures.source c.map.ensures.closure (λ x r q k. search rules) _
    (omega (arith, rank_few (sheds c.args.plan.now.counts c.args.plan.now.wiring.now c.args.plan.now.readings.now) c.args.plan.now.counts.buses))

pub returns : goal.returns
unfolding active_rank
returns c =
    let e : c.sum.result ≡ active_rank (sheds c.args.plan.now.counts c.args.plan.now.wiring.now c.args.plan.now.readings.now) c.args.plan.now.counts.buses = range_sum _ (one_of (sheds c.args.plan.now.counts c.args.plan.now.wiring.now c.args.plan.now.readings.now)) _ c.map.ensures.source c.map.ensures.closure (λ x r q k. search rules) _ c.sum.ensures.ran in
    (e, omega (arith, e, rank_few (sheds c.args.plan.now.counts c.args.plan.now.wiring.now c.args.plan.now.readings.now) c.args.plan.now.counts.buses))
