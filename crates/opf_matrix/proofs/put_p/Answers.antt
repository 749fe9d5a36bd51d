-- `opf_matrix::put_p` meets its contract: an entry more each turn. Assumes nothing.
use mathlib.Core.Path.{refl}
use native.Mathlib.Omega.{arith}
use lib.Ieee.{of_bits, of_int}
use Rattle.float64.specs.Values.{whole}
use Rattle.sequence.proofs.Sinks.{begin, more}
use Rattle.opf_layout.specs.declared.OpfColumn.TheVariants.{Pg}
use Rattle.opf_layout.specs.Layout.{column_in}
use Rattle.opf_matrix.proofs.Whole.{quad_put, quad_done}
use Rattle.opf_matrix.proofs.put_p.Goals as goal

pub loop-j-init : goal.loop-j-init
loop-j-init c = (begin _, omega arith, omega arith, refl)

pub loop-j-preserved : goal.loop-j-preserved
unfolding whole of_int of_bits
loop-j-preserved c = let a = c.args in
    let l = c.loop-j in
    let p = quad_put a.c a.readings.now (column_in a.lay Pg) l.j c.column.ensures.0 c.reading-v.ensures (rw c.quad.ensures at c.put.ensures.puts) in
    (more _ _ l.invariant.0 p, omega (arith, c.put.ensures.most, l.invariant.1), omega (arith, c.loop-j-test), l.invariant.3)

pub returns-clause-puts : goal.returns-clause-puts
returns-clause-puts c = let a = c.args in
    let v = c.loop-j.invariant in λ d h. quad_done a.c d a.readings.now h.pg_start (omega (arith, v.2, v.3)) (omega (arith, c.loop-j-test, v.3)) v.0
