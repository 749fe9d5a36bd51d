-- `capi_contraction::calls::first_out` meets its contract: the cells hold the selection sheet that the bytes get. Assumes nothing.
use Prim.Native.Nat.{◌≤◌}
use native.Mathlib.Omega.{arith}
use lib.ListN.{length}
use Rattle.decoding.proofs.Answered.{cut_count}
use Rattle.capi_contraction.proofs.First.{first_answer, first_count, first_written}
use Rattle.capi_contraction.proofs.calls.first_out.Goals as goal

pub slice_bounds-encode-end : goal.slice_bounds-encode-end
slice_bounds-encode-end c = let a = c.args in
    let w = rw c.count.ensures at c.written_words-n.ensures in
    omega (arith, w, first_written _ _ _ c.requires.one a.selection.now a.cells.now c.requires.cells c.contraction_first-answer.ensures, c.contraction_first-answer.auto)

pub slice_bounds-encode-end-2 : goal.slice_bounds-encode-end-2
slice_bounds-encode-end-2 c = let a = c.args in
    let w = rw c.count.ensures at c.written_words-n.ensures in
    cut_count _ _ (omega (arith, w, first_written _ _ _ c.requires.one a.selection.now a.cells.now c.requires.cells c.contraction_first-answer.ensures, c.contraction_first-answer.auto))

pub encode-requires : goal.encode-requires
encode-requires c = let a = c.args in
    let w = rw c.count.ensures at c.written_words-n.ensures in
    let f = first_written _ _ _ c.requires.one a.selection.now a.cells.now c.requires.cells c.contraction_first-answer.ensures in
    let h : c.written_words-n.result ≤ length c.contraction_first-answer.new.selection = omega (arith, w, f, c.contraction_first-answer.auto) in
    omega (arith, w, f, cut_count c.written_words-n.result c.contraction_first-answer.new.selection h, c.requires.cells.within)

pub pack_answer-requires : goal.pack_answer-requires
pack_answer-requires c = let a = c.args in
    omega (arith, first_count _ _ _ c.requires.one a.selection.now a.cells.now c.requires.cells c.contraction_first-answer.ensures)

pub returns : goal.returns
returns c = let a = c.args in
    let w = rw c.count.ensures at c.written_words-n.ensures in
    first_answer _ _ _ c.requires.one a.selection.now a.cells.now c.requires.cells c.contraction_first-answer.ensures c.pack_answer.ensures w c.encode.ensures.out_after
