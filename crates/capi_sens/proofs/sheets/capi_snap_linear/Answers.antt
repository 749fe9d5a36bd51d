-- `capi_sens::sheets::capi_snap_linear` meets its contract: refused at once, or the call on what was decoded. Assumes nothing.
use Rattle.std.proofs.Common.{sym}
use Rattle.sens_snap.specs.Calls.{snap_linear_call}
use Rattle.decoding.proofs.Answered.{unsized_beside, wholly_own}
use Rattle.decoding.proofs.Filled.{exported_at}
use Rattle.capi_sens.proofs.Solved.{dual_few, solved_answer, solved_count, solved_one, unread_solution}
use Rattle.capi_sens.proofs.sheets.capi_snap_linear.Goals as goal

pub fill_from_solution-requires-clause-call : goal.fill_from_solution-requires-clause-call
fill_from_solution-requires-clause-call c =
    record { may = λ l x r s e. tt; within = λ l x a y r p. solved_count _ _ _ (dual_few _ _) c.args.sheet.now x.now r p.2.1 }

pub returns : goal.returns
returns c = let a = c.args in
    exported_at _ a.solution.now snap_linear_call
    (λ h. solved_one _ _ _ _ _ _ (unread_solution a.wiring.now a.readings.now a.term_index.now a.term_coefficient.now a.solution.now (sym h)))
    (λ h. solved_one _ _ _ _ _ _ (unsized_beside _ _ a.solution.now _ h))
    (λ h o. wholly_own a.solution.now 6017 o (sym h))
    (λ l s x a y r p. solved_answer _ _ _ (dual_few _ _) c.args.sheet.now x.now r p.1)
    c.fill_from_solution.ensures
