-- `capi_columns::operand::selector_out` meets its contract: the cells hold the selector that the bytes get. Assumes nothing.
use mathlib.Core.Path.{refl}
use Prim.Native.Nat.{◌≤◌}
use native.Mathlib.Omega.{arith}
use lib.ListN.{length}
use Rattle.sequence.proofs.Answers.{refused}
use Rattle.decoding.proofs.Answered.{cut_count}
use Rattle.capi_columns.proofs.Selector.{passed_room, answer_refused, answer_done}
use Rattle.capi_columns.proofs.operand.selector_out.Goals as goal

pub slice_bounds-encode-end : goal.slice_bounds-encode-end
slice_bounds-encode-end c = let a = c.args in
    let r = c.requires in
    let l = passed_room _ a.sign.now a.counts.now a.rows.now a.weights.now a.sign_cells.now a.count_cells.now a.row_cells.now a.weight_cells.now r.elements.0 r.elements.1 r.entries.0 r.entries.1 a.operand c.in-Ok.ensures refl in
    omega (arith, l.0, c.operand_selector.auto)

pub slice_bounds-encode-end-in-Ok : goal.slice_bounds-encode-end-in-Ok
slice_bounds-encode-end-in-Ok c = let a = c.args in
    let r = c.requires in
    let l = passed_room _ a.sign.now a.counts.now a.rows.now a.weights.now a.sign_cells.now a.count_cells.now a.row_cells.now a.weight_cells.now r.elements.0 r.elements.1 r.entries.0 r.entries.1 a.operand c.in-Ok.ensures refl in
    let h : 1 ≤ length c.operand_selector.new.sign = omega (arith, l.0, c.operand_selector.auto) in
    omega (arith, l.0, r.elements.0, cut_count 1 c.operand_selector.new.sign h)

pub encode-requires : goal.encode-requires
encode-requires c = let a = c.args in
    let r = c.requires in
    let l = passed_room _ a.sign.now a.counts.now a.rows.now a.weights.now a.sign_cells.now a.count_cells.now a.row_cells.now a.weight_cells.now r.elements.0 r.elements.1 r.entries.0 r.entries.1 a.operand c.in-Ok.ensures refl in
    let h : 1 ≤ length c.operand_selector.new.sign = omega (arith, l.0, c.operand_selector.auto) in
    omega (arith, l.0, r.elements.0, cut_count 1 c.operand_selector.new.sign h)

pub encode_list-requires-clause-count_in_bounds : goal.encode_list-requires-clause-count_in_bounds
encode_list-requires-clause-count_in_bounds c = let a = c.args in
    let r = c.requires in
    let l = passed_room _ a.sign.now a.counts.now a.rows.now a.weights.now a.sign_cells.now a.count_cells.now a.row_cells.now a.weight_cells.now r.elements.0 r.elements.1 r.entries.0 r.entries.1 a.operand c.in-Ok.ensures refl in
    omega (arith, l, r.elements.1, r.entries, c.operand_selector.auto)

pub encode_list-requires-clause-count_in_bounds_2 : goal.encode_list-requires-clause-count_in_bounds_2
encode_list-requires-clause-count_in_bounds_2 c = let a = c.args in
    let r = c.requires in
    let l = passed_room _ a.sign.now a.counts.now a.rows.now a.weights.now a.sign_cells.now a.count_cells.now a.row_cells.now a.weight_cells.now r.elements.0 r.elements.1 r.entries.0 r.entries.1 a.operand c.in-Ok.ensures refl in
    omega (arith, l, r.elements.1, r.entries)

pub returns-in-Ok : goal.returns-in-Ok
returns-in-Ok c = let a = c.args in
    let r = c.requires in
    answer_done _ a.sign.now a.counts.now a.rows.now a.weights.now a.sign_cells.now a.count_cells.now a.row_cells.now a.weight_cells.now r.elements.0 r.elements.1 r.entries.0 r.entries.1 a.operand c.in-Ok.ensures refl c.encode.ensures.out_after c.encode_list.ensures

pub returns-in-Err : goal.returns-in-Err
returns-in-Err c = let a = c.args in
    let r = c.requires in
    answer_refused _ a.sign.now a.counts.now a.rows.now a.weights.now a.sign_cells.now a.count_cells.now a.row_cells.now a.weight_cells.now r.elements.0 r.elements.1 r.entries.0 r.entries.1 a.operand c.in-Err.ensures (refused c.in-Err.refusal) c.pack_answer.ensures
