-- `capi_problem::program::problem_assemble_opf` meets its contract: the call's answer, in one word. Assumes nothing.
use native.Mathlib.Omega.{arith}
use Rattle.opf_problem.specs.Calls.{program}
use Rattle.capi_problem.proofs.Assembling.{counts_small, packs}
use Rattle.capi_problem.proofs.program.problem_assemble_opf.Goals as goal

pub pack_both-requires : goal.pack_both-requires
pack_both-requires c = let a = c.args in
    let s = program a.p_rows.now a.p_cols.now a.p_values.now a.a_rows.now a.a_cols.now a.a_values.now a.q.now a.b.now a.cones.now in
    let h = counts_small _ s c.assemble_opf.ensures in
    (omega (arith, h.0), omega (arith, h.1))

pub returns : goal.returns
returns c = packs c.pack_both.ensures c.assemble_opf.ensures
