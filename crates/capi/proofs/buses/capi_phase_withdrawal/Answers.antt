-- `capi::buses::capi_phase_withdrawal` meets its contract: refused at once, or the call on what was decoded. Assumes nothing.
use Rattle.model.specs.Calls.{phase_call}
use Rattle.decoding.proofs.Answered.{bus_answer, bus_count, bus_one, unsized}
use Rattle.decoding.proofs.Filled.{exported}
use Rattle.capi.proofs.buses.capi_phase_withdrawal.Goals as goal

pub fill_sheet-requires-clause-call : goal.fill_sheet-requires-clause-call
fill_sheet-requires-clause-call c = record { may = λ l x r. tt; within = λ l x a y r p. bus_count _ _ c.args.sheet.now x.now r p.1 }

pub returns : goal.returns
returns c =
    exported _ phase_call (λ h. bus_one _ _ _ _ _ (unsized _ _ h)) (λ o. o) (λ l x a y r p. bus_answer _ _ c.args.sheet.now x.now r p.1) c.fill_sheet.ensures
