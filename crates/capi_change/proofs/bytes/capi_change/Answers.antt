-- `capi_change::bytes::capi_change` meets its contract: refused at once, or the call on what was decoded. Assumes nothing.
use mathlib.Core.Path.{refl, ap}
use Rattle.words.specs.Words.{words_of, doubles_of}
use Rattle.network.specs.Numbers.{Network}
use Rattle.kkt.specs.Slots.Rule.{first_place}
use Rattle.solution_check.proofs.Own.{long_few}
use Rattle.decoding.proofs.Decoded.{network, wholes}
use Rattle.decoding.proofs.Answered.{unsized_beside, unsized_own}
use Rattle.job_book.specs.Book.{change, given, words}
use Rattle.capi_change.proofs.Carried.{change_one, read_whole}
use Rattle.capi_change.proofs.bytes.capi_change.Goals as goal

pub returns-in_default : goal.returns-in_default
returns-in_default c = let a = c.args in
    let g = given (words_of a.wiring.now) (words_of a.term_index.now) (doubles_of a.term_coefficient.now) (doubles_of a.solution.now) in
    let u = words (doubles_of a.readings.now) (words_of a.rows.now) (words_of a.cols.now) (doubles_of a.values.now) in
    let n = network a.wiring.now a.readings.now a.term_index.now a.term_coefficient.now in
    let w = wholes a.wiring.now a.readings.now a.term_index.now a.term_coefficient.now in
    rw c.pack_answer.ensures (change_one g first_place u.readings (change a.head a.low a.high) u refl _ _ _ _ _ (unsized_beside n w a.solution.now _ c.in_default.ensures.refused))

pub returns-in_default-take : goal.returns-in_default-take
returns-in_default-take c = let a = c.args in
    let g = given (words_of a.wiring.now) (words_of a.term_index.now) (doubles_of a.term_coefficient.now) (doubles_of a.solution.now) in
    let u = words (doubles_of a.readings.now) (words_of a.rows.now) (words_of a.cols.now) (doubles_of a.values.now) in
    let n = network a.wiring.now a.readings.now a.term_index.now a.term_coefficient.now in
    let w = wholes a.wiring.now a.readings.now a.term_index.now a.term_coefficient.now in
    rw c.pack_answer-in_default-take.ensures
    (change_one g first_place u.readings (change a.head a.low a.high) u refl _ _ _ _ _ (unsized_own n w a.solution.now _ (long_few n (doubles_of a.solution.now)) c.in_default-take.ensures.fits))

pub change_out-requires-clause-readings_value : goal.change_out-requires-clause-readings_value
change_out-requires-clause-readings_value c = let a = c.args in
    let h = c.in-Some.ensures.decoded in
    read_whole a.wiring.now a.readings.now a.term_index.now a.term_coefficient.now h.0 (ap (λ (N : Network). N.readings) h.1)
