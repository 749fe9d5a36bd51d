-- `capi_contraction::calls::capi_contraction_first` meets its contract: refused at once, or the call on what was decoded. Assumes nothing.
use mathlib.Core.Path.{sym, ◌∙◌}
use mathlib.Core.Bool.{Bool}
use Rattle.words.specs.Words.{doubles_of}
use Rattle.network.specs.Numbers.{Network}
use Rattle.contraction.specs.Contraction.{Selector}
use Rattle.sens.specs.Calls.{first_call}
use Rattle.decoding.specs.Exports.{all_whole}
use Rattle.decoding.proofs.Answered.{cut_cells}
use Rattle.capi_contraction.specs.Contraction.{entries_fit, first_out}
use Rattle.capi_contraction.proofs.Fitting.{beside, right_out, missed, told_entries}
use Rattle.capi_contraction.proofs.First.{first_one, unfit}
use Rattle.capi_contraction.proofs.calls.capi_contraction_first.Goals as goal

pub returns-in_default : goal.returns-in_default
returns-in_default c = rw c.pack_answer.ensures (first_one _ _ _ (doubles_of c.args.selection.now) _ _ (missed (entries_fit c.args.rows.now c.args.weights.now) c.in_default.ensures))

pub returns-in_default-selector : goal.returns-in_default-selector
returns-in_default-selector c = let a = c.args in
    rw c.pack_answer-in_default-selector.ensures (unfit _ _ _ a.selection.now (right_out (all_whole a.wiring a.readings a.term_index a.term_coefficient) (sym c.in_default-selector.ensures.fit)))

pub first_out-requires-clause-cells : goal.first_out-requires-clause-cells
first_out-requires-clause-cells c = let n = c.cells_for-n.ensures in cut_cells _ n.below n

pub returns : goal.returns
returns c = let a = c.args in
    let h = c.in-Some.ensures.decoded in
    let p = c.in-Some-selector.ensures in
    let m = c.mode_asked.result in
    rw (← c.mode_asked.ensures) (c.first_out.ensures ∙ told_entries (λ (b : Bool) (N : Network) (S : Selector). first_out b m (first_call N m S 1 (doubles_of a.selection.now)) a.selection.now) (beside h.0 (sym p.fit)) h.1 p.read)
