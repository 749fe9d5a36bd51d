-- `change::Fixed::make` meets its contract: the list of the readings with the change, and the old value put back where it doesn't fit. Assumes nothing.
use mathlib.Core.Path.{sym, ◌∙◌}
use lib.ListN.{set}
use lib.Ieee.{nan}
use Rattle.kkt.specs.Slots.Rule.{first_place}
use Rattle.job_book.specs.Book.{words}
use Rattle.change.proofs.Made.{number_err, number_ok, list_laid, list_refused, restored}
use Rattle.change.proofs.Fixed.make.Goals as goal

pub returns-then-is_err-clause-values_after : goal.returns-then-is_err-clause-values_after
returns-then-is_err-clause-values_after c = let a = c.args in
    let w = c.with.ensures in
    (list_refused first_place a.self.now.counts a.self.now.wiring.now a.self.now.term_index.now a.self.now.term_coefficient.now a.self.now.solution.now (set a.readings.now a.at a.value) (words a.readings.now a.rows.now a.cols.now a.values.now) a.self.now.wired
    (rw (w.counts, w.wiring, w.readings, w.term_index, w.term_coefficient, w.sheet) at c.lay_kkt-answer.ensures) (number_err _ (sym c.is_err.ensures.value ∙ c.if-is_err.true)) (restored a.readings.now a.at a.value nan)).0

pub returns-else-is_err-clause-values_after : goal.returns-else-is_err-clause-values_after
returns-else-is_err-clause-values_after c = let a = c.args in
    let w = c.with.ensures in
    (list_laid first_place a.self.now.counts a.self.now.wiring.now a.self.now.term_index.now a.self.now.term_coefficient.now a.self.now.solution.now (set a.readings.now a.at a.value) (words a.readings.now a.rows.now a.cols.now a.values.now) a.self.now.wired
    (rw (w.counts, w.wiring, w.readings, w.term_index, w.term_coefficient, w.sheet) at c.lay_kkt-answer.ensures) (number_ok _ (sym c.is_err.ensures.value ∙ c.if-is_err.false))).0

pub returns-else-is_err-clause-few : goal.returns-else-is_err-clause-few
returns-else-is_err-clause-few c = let a = c.args in
    let w = c.with.ensures in
    (list_laid first_place a.self.now.counts a.self.now.wiring.now a.self.now.term_index.now a.self.now.term_coefficient.now a.self.now.solution.now (set a.readings.now a.at a.value) (words a.readings.now a.rows.now a.cols.now a.values.now) a.self.now.wired
    (rw (w.counts, w.wiring, w.readings, w.term_index, w.term_coefficient, w.sheet) at c.lay_kkt-answer.ensures) (number_ok _ (sym c.is_err.ensures.value ∙ c.if-is_err.false))).1
