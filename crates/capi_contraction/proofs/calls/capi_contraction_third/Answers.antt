-- `capi_contraction::calls::capi_contraction_third` meets its contract: refused at once, or the call on what was decoded. Assumes nothing.
use mathlib.Core.Path.{sym, ◌∙◌}
use mathlib.Core.Bool.{Bool, ◌&&◌}
use mathlib.Core.List.{List}
use lib.Ieee.{Float}
use Rattle.words.specs.Words.{doubles_of}
use Rattle.network.specs.Numbers.{Network}
use Rattle.contraction.specs.Contraction.{Selector}
use Rattle.sens.specs.Calls.{third_call}
use Rattle.decoding.specs.Exports.{all_whole, filled_out}
use Rattle.decoding.specs.Decoding.{fits}
use Rattle.decoding.proofs.Answered.{cut_cells}
use Rattle.capi_contraction.specs.Contraction.{entries_fit, sheets_fit}
use Rattle.capi_contraction.proofs.Fitting.{beside, left_out, right_out, missed, told_sheets}
use Rattle.capi_contraction.proofs.Third.{third_one, unfit}
use Rattle.capi_contraction.proofs.calls.capi_contraction_third.Goals as goal

pub returns-in_default : goal.returns-in_default
returns-in_default c = rw c.pack_answer.ensures (third_one _ _ _ _ _ (doubles_of c.args.sheet.now) _ _ (missed (entries_fit c.args.rows.now c.args.weights.now && sheets_fit c.args.parameter.now c.args.solved.now) c.in_default.ensures))

pub returns-in_default-selector : goal.returns-in_default-selector
returns-in_default-selector c = let a = c.args in
    rw c.pack_answer-in_default-selector.ensures (unfit _ _ a.sheet.now (right_out (all_whole a.wiring a.readings a.term_index a.term_coefficient) (left_out (sheets_fit a.parameter.now a.solved.now) (sym c.in_default-selector.ensures.fit))))

pub returns-in_default-take : goal.returns-in_default-take
returns-in_default-take c = let a = c.args in
    rw c.pack_answer-in_default-take.ensures (unfit _ _ a.sheet.now (right_out (all_whole a.wiring a.readings a.term_index a.term_coefficient) (right_out (entries_fit a.rows.now a.weights.now) (left_out (fits 8 a.solved.now 6544) (sym c.in_default-take.ensures.fits)))))

pub returns-in_default-take-2 : goal.returns-in_default-take-2
returns-in_default-take-2 c = let a = c.args in
    rw c.pack_answer-in_default-take-2.ensures (unfit _ _ a.sheet.now (right_out (all_whole a.wiring a.readings a.term_index a.term_coefficient) (right_out (entries_fit a.rows.now a.weights.now) (right_out (fits 8 a.parameter.now 6544) (sym c.in_default-take-2.ensures.fits)))))

pub third_out-requires-clause-cells : goal.third_out-requires-clause-cells
third_out-requires-clause-cells c = let n = c.cells_for-n.ensures in cut_cells _ n.below n

pub returns : goal.returns
returns c = let a = c.args in
    let h = c.in-Some.ensures.decoded in
    let p = c.in-Some-selector.ensures in
    let x = c.in-Some-take.ensures in
    let y = c.in-Some-take-2.ensures in
    let m = c.mode_asked.result in
    rw (← c.mode_asked.ensures) (c.third_out.ensures ∙ told_sheets (λ (b : Bool) (N : Network) (S : Selector) (u v : List Float). filled_out b (third_call N m S 1 u v (doubles_of a.sheet.now)) a.sheet.now) (beside h.0 (beside (sym p.fit) (beside (sym x.fits) (sym y.fits)))) h.1 p.read x.held y.held)
