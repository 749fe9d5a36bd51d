-- `sens_snap::sheet::put_generator_duals` meets its contract: a segment more each turn. Assumes nothing.
use mathlib.Core.Path.{◌≡◌}
use native.Mathlib.Omega.{arith}
use Rattle.network.specs.Layout.{segments_at}
use Rattle.model.proofs.Runs.{segments_inside}
use Rattle.kkt_index.proofs.Segments.{segment_inside}
use Rattle.snapping.specs.Snap.{segment_words}
use Rattle.sequence.proofs.Fronts.{none, more}
use Rattle.sens_snap.proofs.Stores.{all_made}
use Rattle.sens_snap.proofs.sheet.put_generator_duals.Goals as goal

pub loop-t-init : goal.loop-t-init
loop-t-init c = none _ _

pub overflow_add-start : goal.overflow_add-start
overflow_add-start c = let e = c.requires.j_lt_generators in
    omega (arith, segments_inside c.args.counted.now.point.grid.wired c.args.j e.0, e, c.requires.out_len, c.args.counted.now.point.grid.plan.readings_laid.few)

pub segment_dual-requires-clause-j_lt_generators : goal.segment_dual-requires-clause-j_lt_generators
segment_dual-requires-clause-j_lt_generators c = let e = c.requires.j_lt_generators in
    let i = segment_inside c.args.counted.now.point.grid.wired c.args.j c.loop-t.t e.0 (rw c.requires.out_len at c.loop-t-test.true) in (e.0, rw (c.args.counted.now.pieces_are, e.1) i.1, rw e.2 i.0)

pub loop-t-preserved : goal.loop-t-preserved
loop-t-preserved c = more _ c.loop-t-test.true c.loop-t.invariant c.segment_dual.ensures

pub returns : goal.returns
unfolding segment_words
returns c = let l = c.loop-t in
    let a = c.args.counted.now.point.grid.plan in
    let e = c.requires.j_lt_generators in
    let q : l.t ≡ segments_at a.counts a.wiring.now c.args.j = omega (arith, c.requires.out_len) in
    let r = rw q at l.invariant in
    rw (← e.1, ← e.2) (all_made r c.requires.out_len)
