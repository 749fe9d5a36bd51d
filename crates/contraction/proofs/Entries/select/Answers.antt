-- `contraction::Entries::select` meets its contract. The loop's invariant: the first elements' columns are stored. Assumes nothing.
-- `t`: the loop's index is an element's. Its item is that element's count of entries.
use mathlib.Core.Path.{◌≡◌, refl, sym, ◌∙◌}
use Prim.Native.Nat.{ℕ, ◌+◌, ◌≤◌, ◌<◌}
use native.Mathlib.Nat.{zero-mul}
use native.Mathlib.Omega.{arith}
use lib.ListN.{length, length-take, length-drop}
use Rattle.std.proofs.Common.{rules}
use Rattle.std.proofs.lemmas.List.{get_or-take}
use Rattle.sens_snap.proofs.Stores.{no_run, run_front, fronted}
use Rattle.contraction.specs.Contraction.{selection_column, selection_sheet}
use Rattle.contraction.specs.Selectors.{selector_in}
use Rattle.contraction.proofs.Columns.{column_room, next_start, part_long, part_stored, starts_none, starts_more, item_is, entered_run, column_is, selected_long, selection_long}
use Rattle.contraction.proofs.Entries.select.Goals as goal

pub loop-entries-init : goal.loop-entries-init
loop-entries-init c = (no_run _ _ _, starts_none _, sym (zero-mul c.args.self.dim))

pub overflow_add-to : goal.overflow_add-to
overflow_add-to c = let l = c.loop-entries in
    let t : l.entries-index < length c.args.self.selector.counts.now = omega (arith, length-take {A = ℕ}, length-drop {A = ℕ}) in
    omega (arith, column_room c.args.self.dim l.entries-index _ _ l.invariant.2 t c.requires)

pub terms-requires : goal.terms-requires
terms-requires c = let l = c.loop-entries in
    let t : l.entries-index < length c.args.self.selector.counts.now = omega (arith, length-take {A = ℕ}, length-drop {A = ℕ}) in
    entered_run c.args.self.entered l.entries-index t l.invariant.1 (search (rules, get_or-take, item_is))

pub slice_bounds-select-end : goal.slice_bounds-select-end
slice_bounds-select-end c = let l = c.loop-entries in
    let t : l.entries-index < length c.args.self.selector.counts.now = omega (arith, length-take {A = ℕ}, length-drop {A = ℕ}) in
    omega (arith, column_room c.args.self.dim l.entries-index _ _ l.invariant.2 t c.requires, l.invariant.0.kept)

pub offset_bounds-sheet-at : goal.offset_bounds-sheet-at
offset_bounds-sheet-at c = let l = c.loop-entries in
    let t : l.entries-index < length c.args.self.selector.counts.now = omega (arith, length-take {A = ℕ}, length-drop {A = ℕ}) in
    omega (arith, column_room c.args.self.dim l.entries-index _ _ l.invariant.2 t c.requires, l.invariant.0.kept)

pub select-requires : goal.select-requires
select-requires c = let l = c.loop-entries in
    let t : l.entries-index < length c.args.self.selector.counts.now = omega (arith, length-take {A = ℕ}, length-drop {A = ℕ}) in
    let d = c.args.self.dim in
    let h : l.at + d ≤ length l.sheet = omega (arith, column_room d l.entries-index _ _ l.invariant.2 t c.requires, l.invariant.0.kept) in
    part_long l.at d l.sheet h ∙ sym c.terms.ensures.dim

pub overflow_add-from : goal.overflow_add-from
overflow_add-from c = let l = c.loop-entries in
    let t : l.entries-index < length c.args.self.selector.counts.now = omega (arith, length-take {A = ℕ}, length-drop {A = ℕ}) in
    let r = entered_run c.args.self.entered l.entries-index t l.invariant.1 refl in
    omega (arith, r.in_rows)

pub loop-entries-preserved : goal.loop-entries-preserved
loop-entries-preserved c = let l = c.loop-entries in
    let t : l.entries-index < length c.args.self.selector.counts.now = omega (arith, length-take {A = ℕ}, length-drop {A = ℕ}) in
    let s = c.args.self in
    let o = l.entries-index in
    let S = selector_in s.selector in
    let h : l.at + s.dim ≤ length l.sheet = omega (arith, column_room s.dim o _ _ l.invariant.2 t c.requires, l.invariant.0.kept) in
    let q = column_is S s.dim o s.entered t l.invariant.1 (part_long l.at s.dim l.sheet h) c.terms.ensures.rows c.terms.ensures.weights (search (rules, get_or-take, item_is)) c.select.ensures in (
      run_front s.dim l.invariant.0 (selected_long S s.dim o) (part_stored l.at s.dim l.sheet (selection_column S s.dim o) h (selected_long S s.dim o) q),
      rw (starts_more, l.invariant.1) (search (rules, get_or-take, item_is)),
      rw (next_start, l.invariant.2),
    )

pub returns : goal.returns
unfolding selection_sheet
returns c = let l = c.loop-entries in
    let s = c.args.self in
    let e : l.entries-index ≡ length s.selector.counts.now = omega (arith, length-take {A = ℕ}, length-drop {A = ℕ}) in
    let r = rw e at l.invariant.0 in
    r.is ∙ fronted _ _ (rw (selection_long (selector_in s.selector) s.dim) c.requires)
