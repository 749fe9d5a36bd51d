-- `capi_change::in_turn::capi_run_changes` meets its contract: the loop goes by the last call. Assumes nothing.
use mathlib.Core.Path.{◌∙◌}
use mathlib.Core.Logic.{inl, inr}
use native.Mathlib.Omega.{arith}
use Rattle.std.proofs.Common.{rules}
use Rattle.capi_change.specs.Told.{leaves}
use Rattle.capi_change.specs.InTurn.{fed}
use Rattle.capi_change.proofs.InTurn.{called_by, begin, more, uneven, short, done}
use Rattle.capi_change.proofs.in_turn.capi_run_changes.Goals as goal
use Rattle.capi_change.proofs.in_turn.capi_run_changes.Goals.{then-numbers-n-via-then-numbers-n, then-numbers-n-via-else-numbers-n+then-counted-n}

pub returns-then-not-is_empty : goal.returns-then-not-is_empty
returns-then-not-is_empty c = let a = c.args in
    let f = fed a.wiring.now a.term_index.now a.term_coefficient.now a.solution.now a.changes.now in
    let b = leaves 0 a.readings.now a.rows.now a.cols.now a.values.now in
    rw c.number.ensures (uneven f b a.numbers.now a.counted.now (search rules))

pub returns-then-numbers-n : goal.returns-then-numbers-n
returns-then-numbers-n c = let a = c.args in
    let f = fed a.wiring.now a.term_index.now a.term_coefficient.now a.solution.now a.changes.now in
    let b = leaves 0 a.readings.now a.rows.now a.cols.now a.values.now in
    let n = c.as_chunks.ensures.front_len in
    rw c.number-then-numbers-n.ensures (short f b a.numbers.now a.counted.now (search rules) (elim c.then-numbers-n.branch [
      | then-numbers-n-via-then-numbers-n w ↦ inl (rw n at w.if-numbers-n.true)
      | then-numbers-n-via-else-numbers-n+then-counted-n w ↦ inr (rw n at w.if-numbers-n.false, rw n at w.if-counted-n.true)
    ]))

pub loop-i-init : goal.loop-i-init
loop-i-init c = let a = c.args in
    let f = fed a.wiring.now a.term_index.now a.term_coefficient.now a.solution.now a.changes.now in
    let b = leaves 0 a.readings.now a.rows.now a.cols.now a.values.now in
    begin f b a.numbers.now a.counted.now

pub loop-i-preserved : goal.loop-i-preserved
loop-i-preserved c = let a = c.args in
    let f = fed a.wiring.now a.term_index.now a.term_coefficient.now a.solution.now a.changes.now in
    let b = leaves 0 a.readings.now a.rows.now a.cols.now a.values.now in
    let l = c.loop-i in
    let n = c.as_chunks.ensures.front_len in
    more f b (omega (arith, c.loop-i-test, c.if-numbers-n)) (omega (arith, c.loop-i-test, c.if-counted-n)) l.invariant
    (c.capi_change-answer.ensures ∙ called_by f (leaves 0 l.readings l.rows l.cols l.values) l.i c.as_chunks.ensures.front (omega (arith, n, c.loop-i-test)) c.word32-head.ensures c.word32-low.ensures c.word32-high.ensures)
    c.put.ensures c.put-in-loop-i.ensures

pub returns : goal.returns
returns c = let a = c.args in
    let f = fed a.wiring.now a.term_index.now a.term_coefficient.now a.solution.now a.changes.now in
    let b = leaves 0 a.readings.now a.rows.now a.cols.now a.values.now in
    let n = c.as_chunks.ensures.front_len in
    done f b a.numbers.now a.counted.now (search rules) (rw n at c.if-numbers-n.false) (rw n at c.if-counted-n.false) (omega (arith, n, c.loop-i-test, c.loop-i.auto)) c.loop-i.invariant
