-- `capi_terms::evaluate_out` meets its contract: the cells hold the result that the bytes get. Assumes nothing.
use native.Mathlib.Omega.{arith}
use mathlib.Core.Path.{◌∙◌}
use Rattle.decoding.proofs.Answered.{element_answer, element_count}
use Rattle.capi_terms.proofs.evaluate_out.Goals as goal

pub encode_answer-requires : goal.encode_answer-requires
encode_answer-requires c = let e = c.evaluate-answer.ensures in
    omega (arith, element_count _ _ _ _ _ _ c.args.sheet.now c.args.cells.now c.requires e, c.requires.below, c.requires.within)

pub returns : goal.returns
returns c = let e = c.evaluate-answer.ensures in
    c.encode_answer.ensures ∙ element_answer _ _ _ _ _ _ c.args.sheet.now c.args.cells.now c.requires e
