-- `capi_problem::sheets::capi_nodal_marginal_values` meets its contract: refused at once, or the call on what was decoded. Assumes nothing.
use Rattle.std.proofs.Common.{sym}
use Rattle.problem.specs.Calls.{nodal_call}
use Rattle.decoding.proofs.Answered.{unsized_beside, wholly_own}
use Rattle.decoding.proofs.Filled.{exported_at}
use Rattle.capi_problem.proofs.Filled.{nodal_answer, nodal_count, nodal_one, unread_solution}
use Rattle.capi_problem.proofs.sheets.capi_nodal_marginal_values.Goals as goal

pub fill_from_solution-requires-clause-call : goal.fill_from_solution-requires-clause-call
fill_from_solution-requires-clause-call c =
    record { may = λ l x r s e. tt; within = λ l x a y r p. nodal_count _ _ c.args.sheet.now x.now r p.2.1 }

pub returns : goal.returns
returns c = let a = c.args in
    exported_at _ a.solution.now nodal_call
    (λ h. nodal_one _ _ _ _ _ (unread_solution a.wiring.now a.readings.now a.term_index.now a.term_coefficient.now a.solution.now (sym h)))
    (λ h. nodal_one _ _ _ _ _ (unsized_beside _ _ a.solution.now _ h))
    (λ h o. wholly_own a.solution.now 6017 o (sym h))
    (λ l s x a y r p. nodal_answer _ _ c.args.sheet.now x.now r p.1)
    c.fill_from_solution.ensures
