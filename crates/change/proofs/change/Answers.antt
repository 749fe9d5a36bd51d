-- `change::change` meets its contract: a law for each return. Assumes nothing.
use mathlib.Core.Path.{refl, ◌∙◌}
use Rattle.std.proofs.lemmas.Result.{err_from_is_err_and}
use Rattle.sequence.proofs.Answers.{refused}
use Rattle.kkt.specs.Slots.Rule.{first_place}
use Rattle.job_book.specs.Book.{given, words}
use Rattle.change.proofs.Made.{step_refused, step_own, step_made}
use Rattle.change.proofs.change.Goals as goal

pub returns-in_err-counts-clause-values_after : goal.returns-in_err-counts-clause-values_after
returns-in_err-counts-clause-values_after c = let a = c.args in
    let g = given a.wiring.now a.term_index.now a.term_coefficient.now a.solution.now in
    let u = words a.readings.now a.rows.now a.cols.now a.values.now in
    let h = a.asked in
    let p = err_from_is_err_and c.from_residual.result c.from_residual.ensures.1 in
    rw (p.1, p.2) (step_refused g first_place u h c.in_err-counts.ensures.number (refused _))

pub returns-in_err-field-clause-values_after : goal.returns-in_err-field-clause-values_after
returns-in_err-field-clause-values_after c = let a = c.args in
    let g = given a.wiring.now a.term_index.now a.term_coefficient.now a.solution.now in
    let u = words a.readings.now a.rows.now a.cols.now a.values.now in
    let h = a.asked in
    let n = c.in_ok-counts.ensures in
    let p = err_from_is_err_and c.from_residual-in_err-field.result c.from_residual-in_err-field.ensures.1 in
    rw (p.1, p.2) (step_own g first_place u h n.number refl (rw (n.accepted.counts) at c.in_err-field.ensures.number) (refused _))

pub returns-clause-values_after : goal.returns-clause-values_after
returns-clause-values_after c = let a = c.args in
    let g = given a.wiring.now a.term_index.now a.term_coefficient.now a.solution.now in
    let u = words a.readings.now a.rows.now a.cols.now a.values.now in
    let h = a.asked in
    let n = c.in_ok-counts.ensures in
    let o = c.in_ok-field.ensures in
    rw (c.place_of-at.ensures.value, o.accepted.0, o.accepted.1.0, n.accepted.counts) at c.make.ensures.values_after
    ∙ step_made g first_place u h n.number refl (rw (n.accepted.counts) at o.number) refl
