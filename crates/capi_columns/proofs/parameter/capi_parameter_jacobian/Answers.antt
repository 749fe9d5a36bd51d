-- `capi_columns::parameter::capi_parameter_jacobian` meets its contract: refused at once, or the call on what was decoded. Assumes nothing.
use Rattle.words.specs.Words.{doubles_of}
use Rattle.decoding.proofs.Decoded.{network, wholes}
use Rattle.decoding.proofs.Answered.{unsized_beside, unsized_own}
use Rattle.solution_check.proofs.Own.{long_few}
use Rattle.capi_columns.proofs.Column.{column_one}
use Rattle.capi_columns.proofs.parameter.capi_parameter_jacobian.Goals as goal

pub returns-in_default : goal.returns-in_default
returns-in_default c = rw c.pack_answer.ensures (column_one _ _ _ _ _ _ _ (unsized_beside _ _ c.args.solution.now _ c.in_default.ensures.refused))

pub returns-in_default-take : goal.returns-in_default-take
returns-in_default-take c = rw c.pack_answer-in_default-take.ensures (let a = c.args in
    let N = network a.wiring.now a.readings.now a.term_index.now a.term_coefficient.now in
    column_one N _ _ _ _ _ _ (unsized_own N (wholes a.wiring.now a.readings.now a.term_index.now a.term_coefficient.now) a.solution.now _ (long_few N (doubles_of a.solution.now)) c.in_default-take.ensures.fits))
