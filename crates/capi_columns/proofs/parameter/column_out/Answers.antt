-- `capi_columns::parameter::column_out` meets its contract: the cells hold the column that the bytes get. Assumes nothing.
use mathlib.Core.Path.{refl}
use Prim.Native.Nat.{◌≤◌}
use native.Mathlib.Omega.{arith}
use lib.ListN.{length}
use Rattle.sequence.proofs.Answers.{refused}
use Rattle.decoding.proofs.Answered.{cut_count}
use Rattle.capi_columns.proofs.Column.{passed_size, passed_room, passed_count, answer_refused, answer_done}
use Rattle.capi_columns.proofs.parameter.column_out.Goals as goal

pub slice_bounds-encode-end : goal.slice_bounds-encode-end
slice_bounds-encode-end c = let a = c.args in
    let d = c.dim_of.ensures (passed_size _ _ _ a.parameter a.sheet.now a.cells.now c.requires c.in-Ok.ensures refl) in
    let l = passed_room _ _ _ a.parameter a.sheet.now a.cells.now c.requires c.in-Ok.ensures refl in
    omega (arith, d, l, c.parameter_jacobian.auto)

pub slice_bounds-encode-end-in-Ok : goal.slice_bounds-encode-end-in-Ok
slice_bounds-encode-end-in-Ok c = let a = c.args in
    let d = c.dim_of.ensures (passed_size _ _ _ a.parameter a.sheet.now a.cells.now c.requires c.in-Ok.ensures refl) in
    let l = passed_room _ _ _ a.parameter a.sheet.now a.cells.now c.requires c.in-Ok.ensures refl in
    cut_count _ _ (omega (arith, d, l, c.parameter_jacobian.auto))

pub encode-requires : goal.encode-requires
encode-requires c = let a = c.args in
    let d = c.dim_of.ensures (passed_size _ _ _ a.parameter a.sheet.now a.cells.now c.requires c.in-Ok.ensures refl) in
    let l = passed_room _ _ _ a.parameter a.sheet.now a.cells.now c.requires c.in-Ok.ensures refl in
    let h : c.dim_of.result ≤ length c.parameter_jacobian.new.sheet = omega (arith, d, l, c.parameter_jacobian.auto) in
    omega (arith, d, l, c.requires.within, cut_count c.dim_of.result c.parameter_jacobian.new.sheet h)

pub pack_answer-requires : goal.pack_answer-requires
pack_answer-requires c = let a = c.args in
    omega (arith, passed_count _ _ _ a.parameter a.sheet.now a.cells.now c.requires c.in-Ok.ensures refl)

pub returns-in-Ok : goal.returns-in-Ok
returns-in-Ok c = let a = c.args in
    let d = c.dim_of.ensures (passed_size _ _ _ a.parameter a.sheet.now a.cells.now c.requires c.in-Ok.ensures refl) in
    answer_done _ _ _ a.parameter a.sheet.now a.cells.now c.requires c.in-Ok.ensures refl d c.encode.ensures.out_after c.pack_answer.ensures

pub returns-in-Err : goal.returns-in-Err
returns-in-Err c = let a = c.args in
    answer_refused _ _ _ a.parameter a.sheet.now a.cells.now c.requires c.in-Err.ensures (refused c.in-Err.refusal) c.pack_answer-in-Err.ensures
