-- `sens_snap::sheet::put_segment_duals` meets its contract: a generator more each turn, its rank and its first segment carried along. Assumes nothing.
use mathlib.Core.Path.{◌≡◌, refl, sym, ap, ◌∙◌}
use mathlib.Core.List.{List}
use Prim.Native.Nat.{◌+◌, ◌-◌, ◌≤◌}
use native.Mathlib.Omega.{arith}
use lib.Ieee.{Float}
use lib.ListN.{length}
use borrow.Rule.Slice.PartMut.{put_mid}
use Rattle.network.specs.Layout.{segment_start}
use Rattle.sequence.proofs.Lists.{before_none}
use Rattle.model.proofs.Runs.{segments_none}
use Rattle.solution.specs.Sheet.{piece_rank}
use Rattle.solution.proofs.Entries.{piece_more}
use Rattle.kkt_index.proofs.Segments.{start_more}
use Rattle.snapping.proofs.Words.{segment_long}
use Rattle.sens_snap.proofs.Stores.{no_run, run_front, all_runs, part_long, part_back}
use Rattle.sens_snap.proofs.sheet.put_segment_duals.Goals as goal

pub loop-j-init : goal.loop-j-init
unfolding piece_rank
loop-j-init c = (no_run _ _ _, omega arith, refl, omega (arith, c.args.counted.now.point.grid.plan.readings_laid.few), before_none _, omega arith, segments_none _ _, omega arith)

pub overflow_add-end : goal.overflow_add-end
overflow_add-end c = let l = c.loop-j in
    omega (arith, (start_more c.args.counted.now.point.grid.wired l.j (omega arith) l.invariant.6 c.word-count.ensures.0).1)

pub slice_bounds-put_generator_duals-end : goal.slice_bounds-put_generator_duals-end
slice_bounds-put_generator_duals-end c = let i = c.loop-j.invariant in
    let m = start_more c.args.counted.now.point.grid.wired c.loop-j.j (omega arith) i.6 c.word-count.ensures.0 in omega (arith, m.1.0, i.0.kept, c.requires)

pub offset_bounds-out-start : goal.offset_bounds-out-start
offset_bounds-out-start c = let i = c.loop-j.invariant in
    let m = start_more c.args.counted.now.point.grid.wired c.loop-j.j (omega arith) i.6 c.word-count.ensures.0 in omega (arith, m.1.0, i.0.kept, c.requires)

pub put_generator_duals-requires-clause-j_lt_generators : goal.put_generator_duals-requires-clause-j_lt_generators
put_generator_duals-requires-clause-j_lt_generators c = let i = c.loop-j.invariant in
    (omega arith, i.4, i.6)

pub put_generator_duals-requires-clause-out_len : goal.put_generator_duals-requires-clause-out_len
put_generator_duals-requires-clause-out_len c = let l = c.loop-j in
    let m = start_more c.args.counted.now.point.grid.wired l.j (omega arith) l.invariant.6 c.word-count.ensures.0 in
    let h : l.start + c.word-count.result ≤ length l.out = omega (arith, m.1.0, l.invariant.0.kept, c.requires) in
    part_long l.start c.word-count.result l.out h ∙ c.word-count.ensures.0

pub loop-j-preserved : goal.loop-j-preserved
unfolding piece_rank
loop-j-preserved c = let l = c.loop-j in
    let i = l.invariant in
    let a = c.args.counted.now.point in
    let p = a.grid.plan in
    let w = c.word-count.ensures.0 in
    let r = piece_more _ _ l.j i.4 i.5 w c.next_piece-g.ensures in
    let m = start_more a.grid.wired l.j (omega arith) i.6 w in
    let k = c.word-count.result in
    let h : l.start + k ≤ length l.out = omega (arith, m.1.0, i.0.kept, c.requires) in
    let n = segment_long p.counts p.wiring.now a.pieces p.readings.now a.sheet.now l.j ∙ sym w in
    let q = ap (λ (y : List Float). put_mid l.start ((l.start + k) - l.start) l.out y) c.put_generator_duals.ensures ∙ part_back l.start k l.out _ n h in
    (run_front k i.0 n q, omega arith, i.2, i.3, r.0, r.1, m.0, m.1.1)

pub returns : goal.returns
unfolding segment_start
returns c = let l = c.loop-j in
    let e : l.j ≡ c.args.counted.now.point.grid.plan.counts.generators = omega arith in
    let r = rw e at l.invariant.0 in
    all_runs r (c.requires ∙ sym (rw e at l.invariant.6 ∙ c.args.counted.now.point.grid.wired.segments_sum))
