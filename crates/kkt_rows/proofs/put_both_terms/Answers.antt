-- `kkt_rows::put_both_terms` meets its contract: one run, then the other. Assumes nothing.
use mathlib.Core.Path.{refl}
use Prim.Native.Nat.{◌+◌}
use native.Mathlib.Omega.{arith}
use Rattle.network.specs.Layout.{reading}
use Rattle.solution.specs.Sheet.{solved}
use Rattle.model.proofs.Runs.{terms_inside, flow_run, generation_run}
use Rattle.kkt_rows.proofs.Sides.{both_terms}
use Rattle.kkt_rows.proofs.put_both_terms.Goals as goal

pub put_terms-requires-clause-in_terms : goal.put_terms-requires-clause-in_terms
put_terms-requires-clause-in_terms c = let x = c.args.at.now.line.site in
    omega (arith, terms_inside x.kkt.grid.wired c.args.at.now.line.q c.args.at.now.line.q_lt_rows, c.args.at.now.line.begins, c.word-flows.ensures.0)

pub put_terms-requires-clause-by_index : goal.put_terms-requires-clause-by_index
put_terms-requires-clause-by_index c = let x = c.args.at.now.line.site in
    let a = flow_run x.kkt.grid.wired x.termed c.args.at.now.line.q c.args.at.now.line.q_lt_rows c.args.at.now.line.begins c.word-flows.ensures.0 refl in
    λ t h. omega (arith, a.1.1 t h, x.kkt.grid.wired.laid.few.branches)

pub overflow_add-start : goal.overflow_add-start
overflow_add-start c = let x = c.args.at.now.line.site in
    omega (arith, terms_inside x.kkt.grid.wired c.args.at.now.line.q c.args.at.now.line.q_lt_rows, c.args.at.now.line.begins, c.word-flows.ensures.0, x.kkt.grid.wired.laid.few.terms)

pub put_terms-requires-2-clause-in_terms : goal.put_terms-requires-2-clause-in_terms
put_terms-requires-2-clause-in_terms c = let x = c.args.at.now.line.site in
    omega (arith, terms_inside x.kkt.grid.wired c.args.at.now.line.q c.args.at.now.line.q_lt_rows, c.args.at.now.line.begins, c.word-flows.ensures.0, c.word-generations.ensures.0)

pub put_terms-requires-2-clause-by_index : goal.put_terms-requires-2-clause-by_index
put_terms-requires-2-clause-by_index c = let x = c.args.at.now.line.site in
    let a = generation_run x.kkt.grid.wired x.termed c.args.at.now.line.q c.args.at.now.line.q_lt_rows {at = c.args.at.now.line.start + c.word-flows.result} (rw (c.args.at.now.line.begins, c.word-flows.ensures.0)) c.word-generations.ensures.0 refl in
    λ t h. omega (arith, a.1.1 t h, x.kkt.grid.wired.laid.few.generators)

pub put_terms-requires-2-clause-at_bound : goal.put_terms-requires-2-clause-at_bound
put_terms-requires-2-clause-at_bound c = let x = c.args.at.now.line.site in
    omega (arith, c.requires, c.put_terms.ensures.most, terms_inside x.kkt.grid.wired c.args.at.now.line.q c.args.at.now.line.q_lt_rows, c.args.at.now.line.begins, c.word-flows.ensures.0, x.kkt.grid.wired.laid.few.terms)

pub returns-clause-puts : goal.returns-clause-puts
returns-clause-puts c = let a = c.args in
    let k = a.at.now.line.site.kkt in
    let n = k.grid.plan.counts in
    both_terms k.index (reading n k.grid.plan.readings.now) (solved n k.index.pieces k.sheet.now) n k.grid.plan.wiring.now a.at.now.line.site.term_index.now a.at.now.line.site.term_coefficient.now a.at.now.side a.at.now.line.q a.at.now.row c.args.at.now.line.begins c.word-flows.ensures.0 c.word-generations.ensures.0 c.put_terms.ensures.puts c.put_terms-2.ensures.puts

pub returns-clause-most : goal.returns-clause-most
returns-clause-most c = let x = c.args.at.now.line.site in
    omega (arith, terms_inside x.kkt.grid.wired c.args.at.now.line.q c.args.at.now.line.q_lt_rows, c.args.at.now.line.begins, c.word-flows.ensures.0, c.word-generations.ensures.0, x.kkt.grid.wired.laid.few.terms, c.put_terms.ensures.most, c.put_terms-2.ensures.most)
