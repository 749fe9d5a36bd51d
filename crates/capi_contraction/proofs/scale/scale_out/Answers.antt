-- `capi_contraction::scale::scale_out` meets its contract: the cell holds the scale that the bytes get. Assumes nothing.
use native.Mathlib.Omega.{arith}
use mathlib.Core.Path.{◌∙◌}
use Rattle.interface.specs.Codes.{operand_of, parameter_of}
use Rattle.capi_contraction.proofs.Scaled.{scaled_answer, scaled_count}
use Rattle.capi_contraction.proofs.scale.scale_out.Goals as goal

pub encode_answer-requires : goal.encode_answer-requires
encode_answer-requires c = let a = c.args in
    omega (arith, scaled_count a.base a.sheet.now a.cells.now c.requires (operand_of a.operand) (parameter_of a.parameter) c.scale-answer.ensures, c.requires.below, c.requires.within)

pub returns : goal.returns
returns c = let a = c.args in
    c.encode_answer.ensures
    ∙ scaled_answer a.base a.sheet.now a.cells.now c.requires (operand_of a.operand) (parameter_of a.parameter) c.scale-answer.ensures
