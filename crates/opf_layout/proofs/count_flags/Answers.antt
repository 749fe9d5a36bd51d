-- `opf_layout::count_flags` meets its contract: the iterator counts the flags that are set. Assumes nothing.
use Rattle.std.proofs.Common.{rules, ◌≡◌, ℕ, ◌∙◌, ap, arith}
use Rattle.sequence.proofs.Sums.{range_sum, range_fits}
use Rattle.network.specs.Layout.{part_size}
use Rattle.opf_layout.specs.Layout.{active_rank, flagged}
use Rattle.opf_layout.proofs.Ranks.{one_of, rank_few}
use Rattle.opf_layout.proofs.count_flags.Goals as goal

pub sum-requires-clause-fits : goal.sum-requires-clause-fits
unfolding active_rank
sum-requires-clause-fits c =
    range_fits _ (one_of (flagged c.args.wiring.now.counts c.args.wiring.now.words.now c.args.p)) (part_size c.args.wiring.now.counts c.args.p) (c.map.ensures.source ∙ ap (λ (k : ℕ). record { start = 0; end = k }) c.part_size.ensures) c.map.ensures.closure (λ x r q k. search rules) _
    (omega (arith, rank_few (flagged c.args.wiring.now.counts c.args.wiring.now.words.now c.args.p) (part_size c.args.wiring.now.counts c.args.p)))

pub returns : goal.returns
unfolding active_rank
returns c =
    let e : c.sum.result ≡ active_rank (flagged c.args.wiring.now.counts c.args.wiring.now.words.now c.args.p) (part_size c.args.wiring.now.counts c.args.p) = range_sum _ (one_of (flagged c.args.wiring.now.counts c.args.wiring.now.words.now c.args.p)) _ (c.map.ensures.source ∙ ap (λ (k : ℕ). record { start = 0; end = k }) c.part_size.ensures) c.map.ensures.closure (λ x r q k. search rules) _ c.sum.ensures.ran in
    (e, omega (arith, e, rank_few (flagged c.args.wiring.now.counts c.args.wiring.now.words.now c.args.p) (part_size c.args.wiring.now.counts c.args.p)))
