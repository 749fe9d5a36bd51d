-- `sens_snap::sheet::snap_into` meets its contract: an entry more each turn, its place carried along. Assumes nothing.
use mathlib.Core.Path.{◌≡◌, refl, sym, ap, ◌∙◌}
use mathlib.Core.List.{List}
use Prim.Native.Nat.{◌+◌, ◌-◌, ◌≤◌}
use native.Mathlib.Nat.{le_trans, le_of_eq}
use native.Mathlib.Omega.{arith}
use lib.Ieee.{Float}
use lib.ListN.{length, get_or}
use borrow.Rule.Slice.PartMut.{put_mid}
use Rattle.solution.specs.declared.Entry.TheVariants.{Va}
use Rattle.solution.specs.Sheet.{entries}
use Rattle.snapping.specs.Snap.{snap_sheet}
use Rattle.snapping.proofs.Words.{entry_inside, entry_small, entry_next, entry_long, snap_long}
use Rattle.sens_snap.proofs.Stores.{no_run, run_front, fronted, part_long, part_back}
use Rattle.sens_snap.proofs.sheet.snap_into.Goals as goal

pub loop-e-init : goal.loop-e-init
loop-e-init c = (no_run _ _ _, refl)

pub overflow_add-end : goal.overflow_add-end
overflow_add-end c = let l = c.loop-e in
    let y = c.args.counted.now.point.sheet_laid in
    rw c.entry_size.ensures (entry_small c.args.counted.now.point.grid.plan.counts c.args.counted.now.point.pieces l.e-index c.loop-e-test.true l.invariant.1 y.few y.few_pieces).1

pub slice_bounds-put_entry-end : goal.slice_bounds-put_entry-end
slice_bounds-put_entry-end c = let l = c.loop-e in
    let i = entry_inside c.args.counted.now.point.grid.plan.counts c.args.counted.now.point.pieces l.e-index c.loop-e-test.true l.invariant.1 in
    omega (arith, i, c.requires, l.invariant.0.kept, c.entry_size.ensures)

pub offset_bounds-out-at : goal.offset_bounds-out-at
offset_bounds-out-at c = let l = c.loop-e in
    let i = entry_inside c.args.counted.now.point.grid.plan.counts c.args.counted.now.point.pieces l.e-index c.loop-e-test.true l.invariant.1 in
    omega (arith, i, c.requires, l.invariant.0.kept, c.entry_size.ensures)

pub put_entry-requires : goal.put_entry-requires
put_entry-requires c = let l = c.loop-e in
    let k = c.entry_size.result in
    let i = entry_inside c.args.counted.now.point.grid.plan.counts c.args.counted.now.point.pieces l.e-index c.loop-e-test.true l.invariant.1 in
    let h : l.at + k ≤ length l.out = omega (arith, i, c.requires, l.invariant.0.kept, c.entry_size.ensures) in
    part_long l.at k l.out h ∙ c.entry_size.ensures

pub loop-e-preserved : goal.loop-e-preserved
loop-e-preserved c = let a = c.args.counted.now.point in
    let p = a.grid.plan in
    let l = c.loop-e in
    let z = c.entry_size.ensures in
    let k = c.entry_size.result in
    let i = entry_inside p.counts a.pieces l.e-index c.loop-e-test.true l.invariant.1 in
    let h : l.at + k ≤ length l.out = omega (arith, i, c.requires, l.invariant.0.kept, z) in
    let n = entry_long p.counts p.wiring.now a.pieces p.readings.now a.sheet.now a.grid.wired (get_or entries l.e-index Va) ∙ sym z in
    let q = ap (λ (y : List Float). put_mid l.at ((l.at + k) - l.at) l.out y) c.put_entry.ensures ∙ part_back l.at k l.out _ n h in
    (run_front k l.invariant.0 n q, entry_next p.counts a.pieces l.e-index c.loop-e-test.true l.invariant.1 z)

pub returns-clause-out_after : goal.returns-clause-out_after
unfolding snap_sheet
returns-clause-out_after c = let a = c.args.counted.now.point in
    let l = c.loop-e in
    let e : l.e-index ≡ 18 = omega arith in
    let r = rw e at l.invariant.0 in
    let d = snap_long a.grid.plan.counts a.grid.plan.wiring.now a.pieces a.grid.plan.readings.now a.sheet.now c.args.counted.now.point.grid.wired in
    r.is ∙ fronted _ _ (le_trans (le_of_eq d) c.requires)

pub returns-clause-sheet_len : goal.returns-clause-sheet_len
returns-clause-sheet_len c = let a = c.args.counted.now.point in snap_long a.grid.plan.counts a.grid.plan.wiring.now a.pieces a.grid.plan.readings.now a.sheet.now c.args.counted.now.point.grid.wired
