-- `kkt_rows::put_terms` meets its contract: a pair more each turn. Assumes nothing.
use Prim.Native.Nat.{◌+◌}
use native.Mathlib.Omega.{arith}
use Rattle.network.specs.Layout.{reading}
use Rattle.solution.specs.Sheet.{solved}
use Rattle.sequence.proofs.Sinks.{begin, more}
use Rattle.kkt_rows.proofs.Pairs.{pair_put, pairs_done}
use Rattle.kkt_rows.proofs.put_terms.Goals as goal

pub loop-t-init : goal.loop-t-init
loop-t-init c = (begin _, omega arith, omega arith)

pub overflow_add-start : goal.overflow_add-start
overflow_add-start c = omega (arith, c.requires.in_terms, c.args.at.now.line.site.kkt.grid.wired.laid.few.terms, c.loop-t-test.true)

pub bounds-site-start : goal.bounds-site-start
bounds-site-start c = omega (arith, c.requires.in_terms, c.args.at.now.line.site.termed.indexes_long, c.loop-t-test.true)

pub bounds-site-start-in-loop-t : goal.bounds-site-start-in-loop-t
bounds-site-start-in-loop-t c = omega (arith, c.requires.in_terms, c.args.at.now.line.site.termed.coefficients_long, c.loop-t-test.true)

pub put_all-requires : goal.put_all-requires
put_all-requires c = omega (arith, c.loop-t.invariant, c.requires.in_terms, c.args.at.now.line.site.kkt.grid.wired.laid.few.terms, c.requires.at_bound)

pub loop-t-preserved : goal.loop-t-preserved
loop-t-preserved c = let a = c.args in (
  more _ _ c.loop-t.invariant.0 (pair_put a.at.now.line.site.kkt.index a.at.now.line.site.term_index.now a.at.now.line.site.term_coefficient.now a.at.now.side a.at.now.row a.b (a.start + c.loop-t.t) a.at.now.dual c.wide-i.ensures.0 c.row_times-in_row.ensures c.column_times-in_column.ensures c.entry.ensures c.entry-in-loop-t.ensures c.put_all.ensures.puts),
  omega (arith, c.put_all.ensures.most, c.loop-t.invariant.1),
  omega (arith, c.loop-t-test),
)

pub returns-clause-puts : goal.returns-clause-puts
returns-clause-puts c = let a = c.args in
    let k = a.at.now.line.site.kkt in
    let n = k.grid.plan.counts in
    pairs_done k.index (reading n k.grid.plan.readings.now) (solved n k.index.pieces k.sheet.now) n k.grid.plan.wiring.now a.at.now.line.site.term_index.now a.at.now.line.site.term_coefficient.now a.at.now.side a.at.now.line.q a.at.now.row a.b a.start c.args.at.now.dual_is c.loop-t.invariant.2 c.loop-t-test.false c.loop-t.invariant.0

pub returns-clause-most : goal.returns-clause-most
returns-clause-most c = omega (arith, c.loop-t.invariant)
