-- `capi_problem::program::capi_assemble_opf` meets its contract: refused at once, or the call on what was decoded. Assumes nothing.
use mathlib.Core.Path.{◌∙◌}
use mathlib.Core.Bool.{Bool}
use Rattle.network.specs.Numbers.{Network}
use Rattle.decoding.proofs.Answered.{unsized, told}
use Rattle.opf_problem.specs.Calls.{parts_of, assemble_call}
use Rattle.capi_problem.specs.Assembled.{bytes, words_in, assembled_out}
use Rattle.capi_problem.proofs.Carried.{assembly_one}
use Rattle.capi_problem.proofs.program.capi_assemble_opf.Goals as goal

pub returns-in_default : goal.returns-in_default
returns-in_default c = rw c.pack_both.ensures (let a = c.args in
    let B = bytes a.p_rows.now a.p_cols.now a.p_values.now a.a_rows.now a.a_cols.now a.a_values.now a.q.now a.b.now a.cones.now in
    assembly_one _ (words_in B) _ B (unsized _ _ c.in_default.ensures.refused))

pub returns : goal.returns
returns c = let a = c.args in
    let B = bytes a.p_rows.now a.p_cols.now a.p_values.now a.a_rows.now a.a_cols.now a.a_values.now a.q.now a.b.now a.cones.now in
    let h = c.in-Some.ensures.decoded in
    c.assemble_out.ensures ∙ told (λ (b : Bool) (N : Network). assembled_out b (parts_of N) (assemble_call N (words_in B)) B) h.0 h.1
