-- `change_run::run_changes` meets its contract: the loop goes by the run's last change. Assumes nothing.
use mathlib.Core.List.{[]}
use native.Mathlib.Omega.{arith}
use Rattle.kkt.specs.Slots.Rule.{first_place}
use Rattle.job_book.specs.Book.{given, words}
use Rattle.std.proofs.Common.{rules}
use Rattle.change_run.proofs.Run.{begin, more, change_is, run_uneven, run_short, run_done}
use Rattle.change_run.proofs.run_changes.Goals as goal

pub returns-then-not-is_empty : goal.returns-then-not-is_empty
returns-then-not-is_empty c = let a = c.args in
    let g = given a.wiring.now a.term_index.now a.term_coefficient.now a.solution.now in
    let u = words a.readings.now a.rows.now a.cols.now a.values.now in
    run_uneven g first_place (λ W h. []) u a.changes.now a.numbers.now a.counted.now (search rules)

pub returns-then-numbers-n : goal.returns-then-numbers-n
returns-then-numbers-n c = let a = c.args in
    let g = given a.wiring.now a.term_index.now a.term_coefficient.now a.solution.now in
    let u = words a.readings.now a.rows.now a.cols.now a.values.now in
    run_short g first_place (λ W h. []) u a.changes.now a.numbers.now a.counted.now (search rules) (rw c.as_chunks.ensures.front_len at c.then-numbers-n.either)

pub loop-i-init : goal.loop-i-init
loop-i-init c = let a = c.args in
    let g = given a.wiring.now a.term_index.now a.term_coefficient.now a.solution.now in
    let u = words a.readings.now a.rows.now a.cols.now a.values.now in
    begin g first_place (λ W h. []) u a.changes.now a.numbers.now a.counted.now

pub loop-i-preserved : goal.loop-i-preserved
loop-i-preserved c = let a = c.args in
    let g = given a.wiring.now a.term_index.now a.term_coefficient.now a.solution.now in
    more g first_place (λ W h. []) (omega (arith, c.loop-i-test, c.if-numbers-n)) (omega (arith, c.loop-i-test, c.if-counted-n)) c.loop-i.invariant
    (rw (c.of.ensures, change_is a.changes.now c.loop-i.i c.as_chunks.ensures.front (omega (arith, c.as_chunks.ensures.front_len, c.loop-i-test))) at c.change-answer.ensures.values_after) c.number.ensures c.count.ensures

pub returns : goal.returns
returns c = let a = c.args in
    let g = given a.wiring.now a.term_index.now a.term_coefficient.now a.solution.now in
    let u = words a.readings.now a.rows.now a.cols.now a.values.now in
    let n = c.as_chunks.ensures.front_len in
    rw n (run_done g first_place (λ W h. []) u a.changes.now a.numbers.now a.counted.now (search rules) (omega (arith, n, c.if-numbers-n)) (omega (arith, n, c.if-counted-n)) (omega (arith, n, c.loop-i-test, c.loop-i.auto)) c.loop-i.invariant)
