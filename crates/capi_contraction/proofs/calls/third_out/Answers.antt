-- `capi_contraction::calls::third_out` meets its contract: the cell holds the word that the bytes get. Assumes nothing.
use native.Mathlib.Omega.{arith}
use mathlib.Core.Path.{◌∙◌}
use Rattle.capi_contraction.proofs.Third.{third_answer, third_count}
use Rattle.capi_contraction.proofs.calls.third_out.Goals as goal

pub encode_answer-requires : goal.encode_answer-requires
encode_answer-requires c = let a = c.args in
    omega (arith, third_count _ _ _ _ _ c.requires.one a.sheet.now a.cells.now c.requires.cells c.contraction_third-answer.ensures, c.requires.cells.below, c.requires.cells.within)

pub returns : goal.returns
returns c = let a = c.args in
    c.encode_answer.ensures ∙ third_answer _ _ _ _ _ c.requires.one a.sheet.now a.cells.now c.requires.cells c.contraction_third-answer.ensures
