-- `capi_problem::program::assemble_cells` meets its contract: the cells hold the program that the bytes get. Assumes nothing.
use mathlib.Core.Path.{◌≡◌, refl}
use native.Mathlib.Omega.{arith}
use Rattle.std.specs.Prelude.{Err}
use Rattle.sequence.proofs.Answers.{refused}
use Rattle.opf_problem.specs.Calls.{program}
use Rattle.capi_problem.specs.Assembled.{bytes}
use Rattle.capi_problem.proofs.Carried.{assembly_accepted, assembly_fits, assembly_refused, assembly_done}
use Rattle.capi_problem.proofs.program.assemble_cells.Goals as goal

pub returns-in_default : goal.returns-in_default
returns-in_default c = let a = c.args in
    let t = program a.pr.now a.pc.now a.pv.now a.ar.now a.ac.now a.av.now a.qs.now a.bs.now a.ks.now in
    let B = bytes a.p_rows.now a.p_cols.now a.p_values.now a.a_rows.now a.a_cols.now a.a_values.now a.q.now a.b.now a.cones.now in
    let e : c.assemble_opf-answer.result ≡ Err c.in_default.field-0 = grind arith in
    assembly_refused _ B t c.requires c.in_default.ensures (refused c.in_default.field-0) (rw e at c.pack_both.ensures)

pub side_lengths-k-requires-clause-wiring_laid : goal.side_lengths-k-requires-clause-wiring_laid
side_lengths-k-requires-clause-wiring_laid c = let a = c.args in
    let t = program a.pr.now a.pc.now a.pv.now a.ar.now a.ac.now a.av.now a.qs.now a.bs.now a.ks.now in
    let B = bytes a.p_rows.now a.p_cols.now a.p_values.now a.a_rows.now a.a_cols.now a.a_values.now a.q.now a.b.now a.cones.now in
    let h = assembly_accepted _ B t c.requires c.in-Ok.ensures refl in h.wired.laid

pub side_lengths-k-requires-clause-readings_laid : goal.side_lengths-k-requires-clause-readings_laid
side_lengths-k-requires-clause-readings_laid c = let a = c.args in
    let t = program a.pr.now a.pc.now a.pv.now a.ar.now a.ac.now a.av.now a.qs.now a.bs.now a.ks.now in
    let B = bytes a.p_rows.now a.p_cols.now a.p_values.now a.a_rows.now a.a_cols.now a.a_values.now a.q.now a.b.now a.cones.now in
    let h = assembly_accepted _ B t c.requires c.in-Ok.ensures refl in h.read

pub program_back-requires-clause-list_fits : goal.program_back-requires-clause-list_fits
program_back-requires-clause-list_fits c = let a = c.args in
    let t = program a.pr.now a.pc.now a.pv.now a.ar.now a.ac.now a.av.now a.qs.now a.bs.now a.ks.now in
    let B = bytes a.p_rows.now a.p_cols.now a.p_values.now a.a_rows.now a.a_cols.now a.a_values.now a.q.now a.b.now a.cones.now in
    let whole = assembly_fits _ B t c.requires c.in-Ok.ensures refl c.side_lengths-k.ensures in whole.0

pub program_back-requires-clause-list_fits_2 : goal.program_back-requires-clause-list_fits_2
program_back-requires-clause-list_fits_2 c = let a = c.args in
    let t = program a.pr.now a.pc.now a.pv.now a.ar.now a.ac.now a.av.now a.qs.now a.bs.now a.ks.now in
    let B = bytes a.p_rows.now a.p_cols.now a.p_values.now a.a_rows.now a.a_cols.now a.a_values.now a.q.now a.b.now a.cones.now in
    let whole = assembly_fits _ B t c.requires c.in-Ok.ensures refl c.side_lengths-k.ensures in whole.1.0

pub program_back-requires-clause-sides_fit : goal.program_back-requires-clause-sides_fit
program_back-requires-clause-sides_fit c = let a = c.args in
    let t = program a.pr.now a.pc.now a.pv.now a.ar.now a.ac.now a.av.now a.qs.now a.bs.now a.ks.now in
    let B = bytes a.p_rows.now a.p_cols.now a.p_values.now a.a_rows.now a.a_cols.now a.a_values.now a.q.now a.b.now a.cones.now in
    let whole = assembly_fits _ B t c.requires c.in-Ok.ensures refl c.side_lengths-k.ensures in whole.1.1

pub returns : goal.returns
returns c = let a = c.args in
    let t = program a.pr.now a.pc.now a.pv.now a.ar.now a.ac.now a.av.now a.qs.now a.bs.now a.ks.now in
    let B = bytes a.p_rows.now a.p_cols.now a.p_values.now a.a_rows.now a.a_cols.now a.a_values.now a.q.now a.b.now a.cones.now in
    assembly_done _ B t c.requires c.in-Ok.ensures refl c.side_lengths-k.ensures c.program_back.ensures
