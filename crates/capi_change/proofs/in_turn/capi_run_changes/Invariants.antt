-- `capi_change::in_turn::capi_run_changes` meets its contract: the loop goes by the last call. Assumes nothing.
use Rattle.capi_change.specs.Told.{leaves}
use Rattle.capi_change.specs.InTurn.{fed}
use Rattle.capi_change.proofs.InTurn.{Calling}
use Rattle.capi_change.proofs.in_turn.capi_run_changes.Given as goal

abbrev pub invariant-loop-i : goal.invariant-loop-i
invariant-loop-i l = Calling (fed l.wiring l.term_index l.term_coefficient l.solution l.changes) (leaves 0 l.initial.readings l.initial.rows l.initial.cols l.initial.values) l.initial.numbers l.initial.counted l.i l.readings l.rows l.cols l.values l.numbers l.counted
