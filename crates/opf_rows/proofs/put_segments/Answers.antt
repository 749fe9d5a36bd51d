-- `opf_rows::put_segments` meets its contract: two entries more each turn. Assumes nothing.
use mathlib.Core.Path.{refl}
use native.Mathlib.Omega.{arith}
use Rattle.network.specs.Layout.{reading}
use Rattle.opf_layout.specs.Layout.{column_in, row_in}
use Rattle.opf_assembly.specs.Assembly.{blank}
use Rattle.opf_program.proofs.Triplets.{puts_begin, puts_more}
use Rattle.opf_rows.proofs.Rows.{segment_of, segment_put}
use Rattle.opf_rows.proofs.put_segments.Goals as goal

pub loop-t-init : goal.loop-t-init
loop-t-init c = let a = c.args in
    (puts_begin (row_in a.opf.now.layout) (column_in a.opf.now.layout) (reading a.opf.now.grid.plan.counts a.opf.now.grid.plan.readings.now) blank _, omega arith, omega arith)

pub loop-t-preserved : goal.loop-t-preserved
loop-t-preserved c = let a = c.args in
    let l = c.loop-t in (
      puts_more (row_in a.opf.now.layout) (column_in a.opf.now.layout) (reading a.opf.now.grid.plan.counts a.opf.now.grid.plan.readings.now) blank (segment_of a.j a.g a.start) l.t l.invariant.0 (segment_put a.opf.now.layout a.opf.now.grid.plan.counts a.opf.now.grid.plan.wiring.now a.opf.now.grid.plan.readings.now a.j a.g a.start l.t c.reading-slope.ensures (rw (c.entry.ensures, c.entry-in-loop-t.ensures) refl) c.put_all.ensures.puts),
      omega (arith, c.put_all.ensures.most, l.invariant.1),
      omega (arith, c.loop-t-test),
    )
