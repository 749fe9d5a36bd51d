-- `opf_readback::read_into` meets its contract: an entry more each turn, its place carried along. Assumes nothing.
use Prim.Native.Nat.{ℕ, ◌+◌, ◌≤◌}
use mathlib.Core.Path.{◌≡◌, refl, sym, ap, ◌∙◌}
use mathlib.Core.List.{List}
use native.Mathlib.Nat.{le_trans, le_of_eq}
use native.Mathlib.Omega.{arith}
use lib.Ieee.{Float}
use lib.ListN.{length}
use lib.Seq.{sets}
use Rattle.sequence.specs.Layout.{start}
use Rattle.sequence.specs.Lists.{front}
use Rattle.solution.specs.Sheet.{sizes}
use Rattle.snapping.proofs.Rows.{part_length}
use Rattle.snapping.proofs.Words.{entry_inside, entry_small, entry_next}
use Rattle.sens_snap.proofs.Stores.{no_run, run_front, fronted, part_back}
use Rattle.opf_readback.specs.Points.{pieces_in}
use Rattle.opf_readback.proofs.Entries.{entry_long, sheet_is, pieces_are, pieces_few}
use Rattle.opf_readback.proofs.read_into.Goals as goal

pub loop-e-init : goal.loop-e-init
loop-e-init c = (no_run _ _ _, refl)

pub overflow_add-end : goal.overflow_add-end
overflow_add-end c = let p = c.args.point.now in
    let l = c.loop-e in
    let h = p.raw_laid in
    rw (c.entry_size.ensures, pieces_are h) (entry_small p.site.grid.plan.counts (pieces_in p) l.e-index c.loop-e-test.true l.invariant.1 h.bounded.few (pieces_few p.site.grid.plan.counts p.site.grid.plan.wiring.now p.site.grid.plan.readings.now (pieces_in p) h.bounded refl)).1

pub offset_bounds-out-at : goal.offset_bounds-out-at
offset_bounds-out-at c = let p = c.args.point.now in
    let l = c.loop-e in
    let h = p.raw_laid in
    omega (arith, (entry_small p.site.grid.plan.counts (pieces_in p) l.e-index c.loop-e-test.true l.invariant.1 h.bounded.few (pieces_few p.site.grid.plan.counts p.site.grid.plan.wiring.now p.site.grid.plan.readings.now (pieces_in p) h.bounded refl)).0)

pub slice_bounds-put_entry-end : goal.slice_bounds-put_entry-end
slice_bounds-put_entry-end c = let p = c.args.point.now in
    let l = c.loop-e in
    let y = rw (pieces_are p.raw_laid) at c.entry_size.ensures in
    rw y (le_trans (entry_inside p.site.grid.plan.counts (pieces_in p) l.e-index c.loop-e-test.true l.invariant.1) (le_trans c.requires (le_of_eq (sym l.invariant.0.kept))))

pub put_entry-requires : goal.put_entry-requires
put_entry-requires c = let p = c.args.point.now in
    let l = c.loop-e in
    let y = rw (pieces_are p.raw_laid) at c.entry_size.ensures in
    part_length l.out l.at _ _ (ap (λ (n : ℕ). l.at + n) (sym y)) (rw y (le_trans (entry_inside p.site.grid.plan.counts (pieces_in p) l.e-index c.loop-e-test.true l.invariant.1) (le_trans c.requires (le_of_eq (sym l.invariant.0.kept)))))

pub loop-e-preserved : goal.loop-e-preserved
loop-e-preserved c = let p = c.args.point.now in
    let l = c.loop-e in
    let y = rw (pieces_are p.raw_laid) at c.entry_size.ensures in
    let n = entry_long p.site.grid.plan.counts p.site.grid.plan.wiring.now p.site.grid.plan.readings.now p.site.term_index.now p.site.term_coefficient.now p.raw.x.now p.raw.z.now p.raw.objective (pieces_in p) l.e-index ∙ sym y in
    let i : l.at + c.entry_size.result ≤ length l.out = rw y (le_trans (entry_inside p.site.grid.plan.counts (pieces_in p) l.e-index c.loop-e-test.true l.invariant.1) (le_trans c.requires (le_of_eq (sym l.invariant.0.kept)))) in
    (run_front _ l.invariant.0 n (part_back _ _ _ _ (ap (λ (f : List Float). length f) c.put_entry.ensures ∙ n) i ∙ ap (λ (f : List Float). sets l.out l.at f) c.put_entry.ensures), entry_next p.site.grid.plan.counts (pieces_in p) l.e-index c.loop-e-test.true l.invariant.1 y)

pub returns-clause-out_after : goal.returns-clause-out_after
returns-clause-out_after c = let p = c.args.point.now in
    let l = c.loop-e in
    let e : l.e-index ≡ 18 = omega arith in
    let r = rw e at l.invariant.0 in
    let d = r.long ∙ l.invariant.1 ∙ ap (λ (k : ℕ). start (sizes p.site.grid.plan.counts (pieces_in p)) k) e in
    let w = sheet_is p.site.grid.plan.counts p.site.grid.plan.wiring.now p.site.grid.plan.readings.now p.site.term_index.now p.site.term_coefficient.now p.raw.x.now p.raw.z.now p.raw.objective (pieces_in p) refl in
    r.is ∙ fronted _ _ (le_trans (le_of_eq d) c.requires) ∙ ap (λ (f : List Float). front f c.args.out.now) w

pub returns-clause-raw_len : goal.returns-clause-raw_len
returns-clause-raw_len c = let p = c.args.point.now in
    let l = c.loop-e in
    let e : l.e-index ≡ 18 = omega arith in
    let r = rw e at l.invariant.0 in
    let d = r.long ∙ l.invariant.1 ∙ ap (λ (k : ℕ). start (sizes p.site.grid.plan.counts (pieces_in p)) k) e in
    let w = sheet_is p.site.grid.plan.counts p.site.grid.plan.wiring.now p.site.grid.plan.readings.now p.site.term_index.now p.site.term_coefficient.now p.raw.x.now p.raw.z.now p.raw.objective (pieces_in p) refl in
    ap (λ (f : List Float). length f) (sym w) ∙ d
