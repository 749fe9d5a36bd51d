-- `decoding::Arrays::hold` meets its contract: a slice that does not fit is refused, and four that fit are the network. Assumes nothing.
use native.Mathlib.Omega.{arith}
use Rattle.decoding.proofs.Decoded.{unread, no_wiring, no_readings, no_indexes, no_coefficients}
use Rattle.decoding.proofs.Arrays.hold.Goals as goal

pub returns-in_err-take_front : goal.returns-in_err-take_front
returns-in_err-take_front c = let a = c.args in
    unread c.from_residual.ensures (no_wiring a.wiring.now a.readings.now a.term_index.now a.term_coefficient.now _ c.in_err-take_front.ensures.fits (omega arith))

pub returns-in_err-take_front-2 : goal.returns-in_err-take_front-2
returns-in_err-take_front-2 c = let a = c.args in
    unread c.from_residual-in_err-take_front-2.ensures (no_readings a.wiring.now a.readings.now a.term_index.now a.term_coefficient.now _ c.in_err-take_front-2.ensures.fits (omega arith))

pub returns-in_err-take_front-3 : goal.returns-in_err-take_front-3
returns-in_err-take_front-3 c = let a = c.args in
    unread c.from_residual-in_err-take_front-3.ensures (no_indexes a.wiring.now a.readings.now a.term_index.now a.term_coefficient.now _ c.in_err-take_front-3.ensures.fits (omega arith))

pub returns-in_err-take_front-4 : goal.returns-in_err-take_front-4
returns-in_err-take_front-4 c = let a = c.args in
    unread c.from_residual-in_err-take_front-4.ensures (no_coefficients a.wiring.now a.readings.now a.term_index.now a.term_coefficient.now _ c.in_err-take_front-4.ensures.fits (omega arith))
