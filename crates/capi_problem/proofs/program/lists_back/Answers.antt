-- `capi_problem::program::lists_back` meets its contract. Assumes nothing.
use mathlib.Core.Path.{ap}
use Rattle.decoding.specs.Exports.{Outs, laid_out}
use Rattle.capi_problem.proofs.program.lists_back.Goals as goal

pub returns-clause-p_rows_after : goal.returns-clause-p_rows_after
unfolding laid_out
returns-clause-p_rows_after c = let p = c.encode_list.ensures in
    let a = c.encode_list-2.ensures in (ap (λ (o : Outs). o.rows) p, ap (λ (o : Outs). o.cols) p, ap (λ (o : Outs). o.values) p)

pub returns-clause-a_rows_after : goal.returns-clause-a_rows_after
unfolding laid_out
returns-clause-a_rows_after c = let p = c.encode_list.ensures in
    let a = c.encode_list-2.ensures in (ap (λ (o : Outs). o.rows) a, ap (λ (o : Outs). o.cols) a, ap (λ (o : Outs). o.values) a)
