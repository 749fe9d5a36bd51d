-- `opf_rows::put_written` meets its contract: one run, then the other. Assumes nothing.
use mathlib.Core.Path.{refl}
use Prim.Native.Nat.{◌+◌}
use native.Mathlib.Omega.{arith}
use Rattle.model.proofs.Runs.{flow_run, generation_run}
use Rattle.opf_rows.proofs.Rows.{both_terms}
use Rattle.opf_rows.proofs.put_written.Goals as goal

pub put_terms-requires-clause-count_in_bounds : goal.put_terms-requires-clause-count_in_bounds
put_terms-requires-clause-count_in_bounds c = let u = c.requires in
    let f = c.args.row.now.site.opf.grid.wired.laid.few in
    let a = flow_run c.args.row.now.site.opf.grid.wired c.args.row.now.site.termed c.args.row.now.q c.args.row.now.below c.args.row.now.begins c.word-flows.ensures.0 refl in (a.0, a.1.0, omega (arith, a.0, c.args.row.now.site.termed.indexes_long, f.terms))

pub overflow_add-start : goal.overflow_add-start
overflow_add-start c = let u = c.requires in
    let a = flow_run c.args.row.now.site.opf.grid.wired c.args.row.now.site.termed c.args.row.now.q c.args.row.now.below c.args.row.now.begins c.word-flows.ensures.0 refl in
    omega (arith, a.0, c.args.row.now.site.termed.indexes_long, c.args.row.now.site.opf.grid.wired.laid.few.terms)

pub put_terms-requires-2-clause-count_in_bounds : goal.put_terms-requires-2-clause-count_in_bounds
put_terms-requires-2-clause-count_in_bounds c = let u = c.requires in
    let f = c.args.row.now.site.opf.grid.wired.laid.few in
    let n = c.word-flows.ensures.0 in
    let a = generation_run c.args.row.now.site.opf.grid.wired c.args.row.now.site.termed c.args.row.now.q c.args.row.now.below {at = c.args.row.now.start + c.word-flows.result} (rw (c.args.row.now.begins, n)) c.word-generations.ensures.0 refl in (a.0, a.1.0, omega (arith, a.0, c.args.row.now.site.termed.indexes_long, f.terms))

pub put_terms-requires-2-clause-row_bound : goal.put_terms-requires-2-clause-row_bound
put_terms-requires-2-clause-row_bound c = let u = c.requires in
    let f = c.args.row.now.site.opf.grid.wired.laid.few in
    let n = c.word-flows.ensures.0 in
    let a = generation_run c.args.row.now.site.opf.grid.wired c.args.row.now.site.termed c.args.row.now.q c.args.row.now.below {at = c.args.row.now.start + c.word-flows.result} (rw (c.args.row.now.begins, n)) c.word-generations.ensures.0 refl in (u.0, omega (arith, u.1, c.put_terms.ensures.most, a.0, c.args.row.now.site.termed.indexes_long, f.terms))

pub returns-clause-puts : goal.returns-clause-puts
returns-clause-puts c = let u = c.requires in
    let a = c.args in
    let n = c.word-flows.ensures.0 in
    both_terms a.row.now.site.opf.layout a.row.now.site.opf.grid.plan.counts a.row.now.site.opf.grid.plan.wiring.now a.row.now.site.term_index.now a.row.now.site.term_coefficient.now a.b a.at a.sign a.row.now.q c.args.row.now.begins n c.word-generations.ensures.0 c.put_terms.ensures.puts c.put_terms-2.ensures.puts

pub returns-clause-most : goal.returns-clause-most
returns-clause-most c = let u = c.requires in
    let a = c.args in
    let n = c.word-flows.ensures.0 in
    let g = generation_run c.args.row.now.site.opf.grid.wired c.args.row.now.site.termed a.row.now.q c.args.row.now.below {at = a.row.now.start + c.word-flows.result} (rw (c.args.row.now.begins, n)) c.word-generations.ensures.0 refl in omega (arith, g.0, c.args.row.now.site.termed.indexes_long, c.args.row.now.site.opf.grid.wired.laid.few.terms, c.put_terms.ensures.most, c.put_terms-2.ensures.most)
