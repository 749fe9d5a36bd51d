-- `opf_rows::put_terms` meets its contract: an entry more each turn. Assumes nothing.
use native.Mathlib.Omega.{arith}
use Rattle.opf_rows.proofs.Rows.{terms_begin, terms_more}
use Rattle.opf_rows.proofs.put_terms.Goals as goal

pub loop-t-init : goal.loop-t-init
loop-t-init c = let a = c.args in
    (terms_begin a.site.now.opf.layout a.site.now.term_index.now a.site.now.term_coefficient.now a.b a.at a.sign a.col a.start, omega arith, omega arith)

pub loop-t-preserved : goal.loop-t-preserved
loop-t-preserved c = let a = c.args in
    let l = c.loop-t in (
      terms_more a.site.now.opf.layout a.site.now.term_index.now a.site.now.term_coefficient.now a.b a.at a.sign a.col a.start l.t c.wide-j.ensures.0 l.invariant.0 (rw c.entry.ensures at c.put.ensures.puts),
      omega (arith, c.put.ensures.most, l.invariant.1),
      omega (arith, c.loop-t-test),
    )
