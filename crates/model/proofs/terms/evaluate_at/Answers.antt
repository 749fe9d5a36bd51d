-- `model::terms::evaluate_at` meets its contract: the row's terms lie in the slices and name branches and generators. Assumes nothing.
use Rattle.model.specs.Quantities.{evaluate}
use Rattle.model.proofs.Runs.{flow_run, generation_run}
use Rattle.model.proofs.terms.evaluate_at.Goals as goal

pub term_sum-requires-clause-count_in_bounds : goal.term_sum-requires-clause-count_in_bounds
term_sum-requires-clause-count_in_bounds c = let whole = flow_run c.requires.wired c.requires.termed _ c.requires.q_lt_rows c.term_start-at.ensures.0 c.word-flows.ensures.0 c.requires.f_len in whole.0

pub term_sum-requires-clause-count_in_bounds_2 : goal.term_sum-requires-clause-count_in_bounds_2
term_sum-requires-clause-count_in_bounds_2 c = let whole = flow_run c.requires.wired c.requires.termed _ c.requires.q_lt_rows c.term_start-at.ensures.0 c.word-flows.ensures.0 c.requires.f_len in whole.1.0

pub term_sum-requires-clause-by_index : goal.term_sum-requires-clause-by_index
term_sum-requires-clause-by_index c = let whole = flow_run c.requires.wired c.requires.termed _ c.requires.q_lt_rows c.term_start-at.ensures.0 c.word-flows.ensures.0 c.requires.f_len in whole.1.1

pub term_sum-requires-2-clause-count_in_bounds : goal.term_sum-requires-2-clause-count_in_bounds
term_sum-requires-2-clause-count_in_bounds c = let whole = generation_run c.requires.wired c.requires.termed _ c.requires.q_lt_rows (rw (c.term_start-at.ensures.0, c.word-flows.ensures.0)) c.word-generations.ensures.0 c.requires.pg_len in whole.0

pub term_sum-requires-2-clause-count_in_bounds_2 : goal.term_sum-requires-2-clause-count_in_bounds_2
term_sum-requires-2-clause-count_in_bounds_2 c = let whole = generation_run c.requires.wired c.requires.termed _ c.requires.q_lt_rows (rw (c.term_start-at.ensures.0, c.word-flows.ensures.0)) c.word-generations.ensures.0 c.requires.pg_len in whole.1.0

pub term_sum-requires-2-clause-by_index : goal.term_sum-requires-2-clause-by_index
term_sum-requires-2-clause-by_index c = let whole = generation_run c.requires.wired c.requires.termed _ c.requires.q_lt_rows (rw (c.term_start-at.ensures.0, c.word-flows.ensures.0)) c.word-generations.ensures.0 c.requires.pg_len in whole.1.1

pub returns : goal.returns
unfolding evaluate
returns c = rw (c.term_sum-2.ensures, c.term_sum.ensures, c.term_start-at.ensures.0, c.word-flows.ensures.0, c.word-generations.ensures.0)
