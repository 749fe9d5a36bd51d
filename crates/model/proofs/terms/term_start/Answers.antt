-- `model::terms::term_start` meets its contract: the iterator sums the terms of the rows before. Assumes nothing.
use Rattle.std.proofs.Common.{rules, ◌≡◌, arith}
use Rattle.sequence.proofs.Sums.{range_sum, range_fits}
use Rattle.network.specs.Layout.{row_terms, term_start}
use Rattle.model.proofs.Runs.{terms_within}
use Rattle.model.proofs.terms.term_start.Goals as goal

pub sum-requires-clause-fits : goal.sum-requires-clause-fits
unfolding term_start
sum-requires-clause-fits c = let a = c.args in
    range_fits _ (row_terms a.c a.wiring.now) a.q c.map.ensures.source c.map.ensures.closure (λ x r q k. search rules) _
    (omega (arith, terms_within c.requires.wired a.q c.requires.q_le_rows, c.requires.wired.laid.few))

pub returns : goal.returns
unfolding term_start
returns c = let a = c.args in
    let e : c.sum.result ≡ term_start a.c a.wiring.now a.q = range_sum _ (row_terms a.c a.wiring.now) _ c.map.ensures.source c.map.ensures.closure (λ x r q k. search rules) _ c.sum.ensures.ran in
    (e, omega (arith, e, terms_within c.requires.wired a.q c.requires.q_le_rows))
