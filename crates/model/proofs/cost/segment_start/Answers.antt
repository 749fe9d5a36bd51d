-- `model::cost::segment_start` meets its contract: the iterator sums the segments of the generators before. Assumes nothing.
use Rattle.std.proofs.Common.{rules, ◌≡◌, arith}
use Rattle.sequence.proofs.Sums.{range_sum, range_fits}
use Rattle.network.specs.Layout.{segments_at, segment_start}
use Rattle.model.proofs.Runs.{segments_within}
use Rattle.model.proofs.cost.segment_start.Goals as goal

pub sum-requires-clause-fits : goal.sum-requires-clause-fits
unfolding segment_start
sum-requires-clause-fits c = let a = c.args in
    range_fits _ (segments_at a.c a.wiring.now) a.j c.map.ensures.source c.map.ensures.closure (λ x r q k. search rules) _
    (omega (arith, segments_within c.requires.wired a.j c.requires.j_le_generators, c.requires.wired.laid.few))

pub returns : goal.returns
unfolding segment_start
returns c = let a = c.args in
    let e : c.sum.result ≡ segment_start a.c a.wiring.now a.j = range_sum _ (segments_at a.c a.wiring.now) _ c.map.ensures.source c.map.ensures.closure (λ x r q k. search rules) _ c.sum.ensures.ran in
    (e, omega (arith, e, segments_within c.requires.wired a.j c.requires.j_le_generators))
