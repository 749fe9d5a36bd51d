-- `kkt_rows::put_rows` meets its contract: a linear row more each turn. Assumes nothing.
use mathlib.Core.Path.{refl}
use native.Mathlib.Omega.{arith}
use Rattle.network.specs.Layout.{reading}
use Rattle.model.specs.Rows.{row_limits}
use Rattle.model.proofs.Runs.{terms_none, terms_more, terms_within}
use Rattle.solution.specs.Sheet.{solved}
use Rattle.kkt_index.specs.Index.{start_in, shape_of}
use Rattle.kkt_index.proofs.Blocks.{rows_few}
use Rattle.kkt.proofs.Emitted.{puts_begin, puts_more, puts_done}
use Rattle.kkt_rows.proofs.Sides.{placed}
use Rattle.kkt_rows.proofs.Duals.{start_none, start_more}
use Rattle.kkt_rows.proofs.put_rows.Goals as goal

pub loop-q-init : goal.loop-q-init
loop-q-init c = let k = c.args.site.now.kkt in
    let n = k.grid.plan.counts in
    (puts_begin (start_in k.index) (reading n k.grid.plan.readings.now) (solved n k.index.pieces k.sheet.now) _, omega arith, omega arith, refl, start_none _ _ _, omega arith, terms_none _ _)

pub invariant_of-line : goal.invariant_of-line
invariant_of-line c = let v = c.loop-q.invariant in
    record { q_lt_rows = omega (arith, c.loop-q-test.true, v.3); begins = v.6 }

pub put_row-requires : goal.put_row-requires
put_row-requires c = let v = c.loop-q.invariant in
    let h = c.loop-q-test.true in
    let f = c.args.site.now.kkt.grid.wired.laid.few.rows in
    (omega (arith, h, v.3, v.5, f), omega (arith, h, v.1, v.3, f, c.requires))

pub row_limits-requires : goal.row_limits-requires
row_limits-requires c = omega (arith, c.loop-q-test.true, c.loop-q.invariant.3)

pub overflow_add-row : goal.overflow_add-row
overflow_add-row c = let v = c.loop-q.invariant in
    omega (arith, c.rows_of-row.ensures, rows_few c.row_limits.result, c.loop-q-test.true, v.3, v.5, c.args.site.now.kkt.grid.wired.laid.few.rows)

pub row_terms-start-requires : goal.row_terms-start-requires
row_terms-start-requires c = omega (arith, c.loop-q-test.true, c.loop-q.invariant.3)

pub overflow_add-start : goal.overflow_add-start
overflow_add-start c = let v = c.loop-q.invariant in
    let h = c.args.site.now.kkt.grid.wired in
    omega (arith, c.row_terms-start.ensures.1, v.6, terms_within h c.loop-q.q (omega (arith, c.loop-q-test.true, v.3)), h.laid.few.terms)

pub overflow_step-q : goal.overflow_step-q
overflow_step-q c = omega (arith, c.loop-q-test.true, c.loop-q.invariant.3, c.args.site.now.kkt.grid.wired.laid.few.rows)

pub loop-q-smaller : goal.loop-q-smaller
loop-q-smaller c = omega (arith, c.loop-q-test.true)

pub loop-q-preserved : goal.loop-q-preserved
loop-q-preserved c = let l = c.loop-q in
    let v = l.invariant in
    let x = c.args.site.now in
    let g = x.kkt.grid.plan in
    let R = reading g.counts g.readings.now in
    let S = solved g.counts x.kkt.index.pieces x.kkt.sheet.now in (
      puts_more (start_in x.kkt.index) R S _ l.q v.0 (placed x.kkt.index R S g.counts g.wiring.now x.term_index.now x.term_coefficient.now (shape_of (row_limits g.counts g.wiring.now g.readings.now l.q)) l.q v.4 c.put_row.ensures.puts),
      omega (arith, c.put_row.ensures.most, v.1),
      omega (arith, c.loop-q-test.true),
      v.3,
      rw (start_more, ← v.4, c.rows_of-row.ensures, c.row_limits.ensures),
      omega (arith, v.5, c.rows_of-row.ensures, rows_few c.row_limits.result),
      rw (terms_more, ← v.6, c.row_terms-start.ensures.0),
    )

pub returns-clause-puts : goal.returns-clause-puts
returns-clause-puts c = let v = c.loop-q.invariant in
    let k = c.args.site.now.kkt in
    let n = k.grid.plan.counts in
    puts_done (start_in k.index) (reading n k.grid.plan.readings.now) (solved n k.index.pieces k.sheet.now) _ (omega (arith, v.2, v.3)) (omega (arith, c.loop-q-test.false, v.3)) v.0

pub returns-clause-most : goal.returns-clause-most
returns-clause-most c = let v = c.loop-q.invariant in
    omega (arith, v.1, v.2, v.3, c.args.site.now.kkt.grid.wired.laid.few.rows)
