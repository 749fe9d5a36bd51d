-- `contraction::Entries::contract` meets its contract. The loop's invariant: the first elements' words are stored. Assumes nothing.
-- `t`: the loop's index is an element's. Its item is that element's count of entries.
use mathlib.Core.Path.{◌≡◌, refl, sym, ◌∙◌}
use mathlib.Core.List.{[]}
use Prim.Native.Nat.{ℕ, ◌+◌, ◌≤◌, ◌<◌}
use native.Mathlib.Nat.{zero-mul}
use native.Mathlib.Omega.{arith}
use Rattle.std.proofs.Common.{rules}
use lib.ListN.{length, length-take, length-drop}
use Rattle.std.proofs.lemmas.List.{get_or-take}
use Rattle.sens_snap.proofs.Stores.{no_run, run_front, fronted}
use Rattle.interface.specs.declared.Mode.TheVariants.{Forward}
use Rattle.contraction.specs.Contraction.{contracted_row, contracted}
use Rattle.contraction.specs.Selectors.{selector_in}
use Rattle.contraction.proofs.Columns.{row_room, next_start, part_long, part_stored, starts_none, starts_more, item_is, entered_run, row_is, row_long, contracted_long}
use Rattle.contraction.proofs.Entries.contract.Goals as goal

pub loop-count-init : goal.loop-count-init
loop-count-init c = (no_run _ _ _, starts_none _, sym (zero-mul c.args.solved.columns))

pub overflow_add-to : goal.overflow_add-to
overflow_add-to c = let l = c.loop-count in
    let t : l.count-index < length c.args.self.selector.counts.now = omega (arith, length-take {A = ℕ}, length-drop {A = ℕ}) in
    omega (arith, row_room c.args.solved.columns l.count-index _ _ l.invariant.2 t c.requires.columns_in_bounds)

pub terms-requires : goal.terms-requires
terms-requires c = let l = c.loop-count in
    let t : l.count-index < length c.args.self.selector.counts.now = omega (arith, length-take {A = ℕ}, length-drop {A = ℕ}) in
    entered_run c.args.self.entered l.count-index t l.invariant.1 (search (rules, get_or-take, item_is))

pub slice_bounds-contract-end : goal.slice_bounds-contract-end
slice_bounds-contract-end c = let l = c.loop-count in
    let t : l.count-index < length c.args.self.selector.counts.now = omega (arith, length-take {A = ℕ}, length-drop {A = ℕ}) in
    omega (arith, row_room c.args.solved.columns l.count-index _ _ l.invariant.2 t c.requires.columns_in_bounds, l.invariant.0.kept)

pub offset_bounds-out-at : goal.offset_bounds-out-at
offset_bounds-out-at c = let l = c.loop-count in
    let t : l.count-index < length c.args.self.selector.counts.now = omega (arith, length-take {A = ℕ}, length-drop {A = ℕ}) in
    omega (arith, row_room c.args.solved.columns l.count-index _ _ l.invariant.2 t c.requires.columns_in_bounds, l.invariant.0.kept)

pub contract-requires : goal.contract-requires
contract-requires c = let l = c.loop-count in
    let t : l.count-index < length c.args.self.selector.counts.now = omega (arith, length-take {A = ℕ}, length-drop {A = ℕ}) in
    let k = c.args.solved.columns in
    let h : l.at + k ≤ length l.out = omega (arith, row_room k l.count-index _ _ l.invariant.2 t c.requires.columns_in_bounds, l.invariant.0.kept) in
    (c.requires.dim ∙ sym c.terms.ensures.dim, part_long l.at k l.out h)

pub overflow_add-from : goal.overflow_add-from
overflow_add-from c = let l = c.loop-count in
    let t : l.count-index < length c.args.self.selector.counts.now = omega (arith, length-take {A = ℕ}, length-drop {A = ℕ}) in
    let r = entered_run c.args.self.entered l.count-index t l.invariant.1 refl in
    omega (arith, r.in_rows)

pub loop-count-preserved : goal.loop-count-preserved
loop-count-preserved c = let l = c.loop-count in
    let t : l.count-index < length c.args.self.selector.counts.now = omega (arith, length-take {A = ℕ}, length-drop {A = ℕ}) in
    let s = c.args.self in
    let k = c.args.solved.columns in
    let o = l.count-index in
    let w = c.args.solved.words.now in
    let S = selector_in s.selector in
    let n = row_long Forward S s.dim k [] w o in
    let h : l.at + k ≤ length l.out = omega (arith, row_room k o _ _ l.invariant.2 t c.requires.columns_in_bounds, l.invariant.0.kept) in
    let q = row_is S s.dim k w o s.entered t l.invariant.1 c.requires.dim (part_long l.at k l.out h) c.terms.ensures.rows c.terms.ensures.weights (search (rules, get_or-take, item_is)) c.contract.ensures in (
      run_front k l.invariant.0 n (part_stored l.at k l.out (contracted_row Forward S s.dim k [] w o) h n q),
      rw (starts_more, l.invariant.1) (search (rules, get_or-take, item_is)),
      rw (next_start, l.invariant.2),
    )

pub returns : goal.returns
unfolding contracted
returns c = let l = c.loop-count in
    let a = c.args in
    let e : l.count-index ≡ length a.self.selector.counts.now = omega (arith, length-take {A = ℕ}, length-drop {A = ℕ}) in
    let r = rw e at l.invariant.0 in
    r.is ∙ fronted _ _ (rw (contracted_long Forward (selector_in a.self.selector) a.self.dim a.solved.columns [] a.solved.words.now) c.requires.columns_in_bounds)
