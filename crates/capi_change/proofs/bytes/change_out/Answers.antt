-- `capi_change::bytes::change_out` meets its contract: the cells hold the list that the bytes get. Assumes nothing.
use mathlib.Core.Path.{sym, ◌∙◌}
use native.Mathlib.Omega.{arith}
use Rattle.kkt.specs.Slots.Rule.{first_place}
use Rattle.job_book.specs.Book.{given}
use Rattle.change.proofs.Made.{number_err, number_ok}
use Rattle.capi_change.proofs.Carried.{change_count, change_refused, change_taken, packed_err}
use Rattle.capi_change.proofs.bytes.change_out.Goals as goal

pub returns-then-is_err : goal.returns-then-is_err
returns-then-is_err c = let a = c.args in
    let g = given a.wiring.now a.term_index.now a.term_coefficient.now a.solution.now in
    let h = a.asked in
    let e = sym c.is_err.ensures.value ∙ c.if-is_err.true in
    change_refused g first_place a.readings.now h a.rows.now a.cols.now a.values.now a.row_cells.now a.col_cells.now a.value_cells.now c.requires.list_cells c.change-answer.ensures.values_after (number_err _ e) (c.pack_answer.ensures ∙ packed_err _ e) a.read.now

pub encode_list-requires-clause-count_in_bounds : goal.encode_list-requires-clause-count_in_bounds
encode_list-requires-clause-count_in_bounds c = let a = c.args in
    let g = given a.wiring.now a.term_index.now a.term_coefficient.now a.solution.now in
    let h = a.asked in
    let t = c.change-answer in
    let l = change_count g first_place a.readings.now h a.rows.now a.cols.now a.values.now a.row_cells.now a.col_cells.now a.value_cells.now c.requires.list_cells t.ensures.values_after in omega (arith, l, t.ensures.few, c.requires.list_cells.in_rows, c.requires.list_cells.in_cols, c.requires.list_cells.in_values, t.auto)

pub encode_list-requires-clause-count_in_bounds_2 : goal.encode_list-requires-clause-count_in_bounds_2
encode_list-requires-clause-count_in_bounds_2 c = let a = c.args in
    let g = given a.wiring.now a.term_index.now a.term_coefficient.now a.solution.now in
    let h = a.asked in
    let t = c.change-answer in
    let l = change_count g first_place a.readings.now h a.rows.now a.cols.now a.values.now a.row_cells.now a.col_cells.now a.value_cells.now c.requires.list_cells t.ensures.values_after in omega (arith, l, t.ensures.few, c.requires.list_cells.in_rows, c.requires.list_cells.in_cols, c.requires.list_cells.in_values, t.auto)

pub returns : goal.returns
returns c = let a = c.args in
    let g = given a.wiring.now a.term_index.now a.term_coefficient.now a.solution.now in
    let h = a.asked in
    let t = c.change-answer in
    let z = number_ok _ (sym c.is_err.ensures.value ∙ c.if-is_err.false) in
    change_taken g first_place a.readings.now h a.rows.now a.cols.now a.values.now a.row_cells.now a.col_cells.now a.value_cells.now c.requires.list_cells t.ensures.values_after z a.read.now c.encode.ensures.out_after (omega (arith, c.requires.readings_value, t.auto)) (rw z at c.encode_list.ensures)
