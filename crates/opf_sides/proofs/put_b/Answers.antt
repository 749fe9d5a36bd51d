-- `opf_sides::put_b` meets its contract: the balances, then a block more each turn, and in it an element more. Assumes nothing.
use Prim.Native.Nat.{ℕ, suc, ◌+◌, ◌≤◌}
use mathlib.Core.Path.{◌≡◌, refl, sym, ap, ◌∙◌}
use mathlib.Core.List.{List, ◌++◌}
use native.Mathlib.Nat.{le_trans, le_of_eq}
use native.Mathlib.Omega.{arith}
use lib.Ieee.{Float}
use lib.ListN.{length, get_or}
use Rattle.sequence.specs.Lists.{each, made, front}
use Rattle.sequence.proofs.Lists.{made_length, each_add, each_same}
use Rattle.network.specs.declared.Counts.{Counts}
use Rattle.model.specs.Quantities.{fixed_at}
use Rattle.sens_snap.proofs.Stores.{fronted}
use Rattle.opf_layout.specs.declared.OpfRow.TheVariants.{Balance}
use Rattle.opf_layout.specs.Layout.{rows}
use Rattle.opf_layout.proofs.Blocks.{row_rank_of}
use Rattle.opf_assembly.specs.Assembly.{right_sides, row_elements, row_words, b_sheet}
use Rattle.opf_sides.specs.Walks.{Stores}
use Rattle.opf_sides.proofs.Storing.{then, words_begin, words_more, turn_room, room_next, made_turns, from_begin, whole}
use Rattle.opf_sides.proofs.put_b.Goals as goal

abbrev block : Counts → List ℕ → List Float → ℕ → List Float
block c w r k = row_words c w r (get_or rows k Balance)

-- the balances have room, and are the first block

first_room : (c : Counts) (w : List ℕ) (r : List Float) (room : ℕ) → length (b_sheet c w r) ≤ room → c.buses ≤ room
unfolding b_sheet each
first_room c w r room h =
    let p = turn_room (block c w r) 0 14 0 room (omega arith) (from_begin (b_sheet c w r) h) refl in
    let q = ap (λ (l : List Float). length l) (sym (made_turns (fixed_at c w r) c.buses)) ∙ made_length (fixed_at c w r) c.buses in
    omega (arith, p, q)

first_block : (c : Counts) (w : List ℕ) (r : List Float) {old new : List Float} → new ≡ front (made (fixed_at c w r) c.buses) old → length new ≡ length old → c.buses ≤ length old
    → Stores (each 1 (block c w r)) 0 old new c.buses
unfolding each
first_block c w r {old} {new} e k h =
    let m = made_turns (fixed_at c w r) c.buses in
    let n = made_length (fixed_at c w r) c.buses in
    record {
      is = e ∙ sym (fronted (made (fixed_at c w r) c.buses) old (le_trans (le_of_eq n) h)) ∙ rw m;
      next = sym (ap (λ (l : List Float). length l) (sym m) ∙ n) ∙ omega arith;
      kept = k;
    }

-- the other blocks

abbrev later : Counts → List ℕ → List Float → ℕ → List Float
later c w r k = block c w r (suc k)

all_blocks : (c : Counts) (w : List ℕ) (r : List Float) → b_sheet c w r ≡ each 1 (block c w r) ++ each 13 (later c w r)
unfolding b_sheet
all_blocks c w r =
    each_add (block c w r) 1 13
    ∙ ap (λ (l : List Float). each 1 (block c w r) ++ l) (each_same 13 (λ k. block c w r (1 + k)) (later c w r) (λ k h. let e : 1 + k ≡ suc k = omega arith in ap (block c w r) e))

later_room : (c : Counts) (w : List ℕ) (r : List Float) {old new : List Float} → Stores (each 1 (block c w r)) 0 old new c.buses → length (b_sheet c w r) ≤ length old
    → c.buses + length (each 13 (later c w r)) ≤ length new
later_room c w r {old} p h = room_next (each 13 (later c w r)) p (from_begin (each 1 (block c w r) ++ each 13 (later c w r)) (rw (all_blocks c w r) at h))

pub fixed_into-requires : goal.fixed_into-requires
fixed_into-requires c = let a = c.args in first_room a.grid.now.plan.counts a.grid.now.plan.wiring.now a.grid.now.plan.readings.now _ c.requires

pub loop-block-init : goal.loop-block-init
loop-block-init c = words_begin _ _

pub loop-i-init : goal.loop-i-init
loop-i-init c = words_begin _ _

pub sides_of-requires : goal.sides_of-requires
sides_of-requires c = let o = c.loop-block in
    (omega (arith, c.loop-i-test.true, c.row_elements-i-end.ensures), omega (arith, row_rank_of (suc o.block-index) (omega (arith, c.loop-block-test.true))))

pub put_sides-requires : goal.put_sides-requires
put_sides-requires c = let a = c.args in
    let o = c.loop-block in
    let l = c.loop-i in
    let t = c.loop-block-test.true in
    let b = get_or rows (suc o.block-index) Balance in
    let g = later_room a.grid.now.plan.counts a.grid.now.plan.wiring.now a.grid.now.plan.readings.now (first_block a.grid.now.plan.counts a.grid.now.plan.wiring.now a.grid.now.plan.readings.now c.fixed_into.ensures.out_after c.fixed_into.ensures.out_len_unchanged (first_room a.grid.now.plan.counts a.grid.now.plan.wiring.now a.grid.now.plan.readings.now _ c.requires)) c.requires in
    let h = turn_room (later a.grid.now.plan.counts a.grid.now.plan.wiring.now a.grid.now.plan.readings.now) o.block-index 13 a.grid.now.plan.counts.buses (length o.words.sheet.now) t (rw o.invariant.stores.kept g) o.invariant.stores.next in
    rw c.sides_of.ensures (turn_room (right_sides a.grid.now.plan.counts a.grid.now.plan.wiring.now a.grid.now.plan.readings.now b) l.i (row_elements a.grid.now.plan.counts b) o.words.at (length l.words.sheet.now) (omega (arith, c.loop-i-test.true, c.row_elements-i-end.ensures)) (rw l.invariant.stores.kept h) l.invariant.stores.next)

pub loop-i-preserved : goal.loop-i-preserved
loop-i-preserved c = let q = rw c.sides_of.ensures at c.put_sides.ensures in
    words_more _ c.loop-i.i c.loop-i.invariant q

pub loop-block-preserved : goal.loop-block-preserved
loop-block-preserved c = let e : c.loop-i.i ≡ row_elements c.args.grid.now.plan.counts (get_or rows (suc c.loop-block.block-index) Balance) = omega (arith, c.row_elements-i-end.ensures) in
    words_more _ c.loop-block.block-index c.loop-block.invariant (rw e at c.loop-i.invariant)

pub returns : goal.returns
returns c = let a = c.args in
    let l = c.loop-block in
    let e : l.block-index ≡ 13 = omega arith in
    let p = first_block a.grid.now.plan.counts a.grid.now.plan.wiring.now a.grid.now.plan.readings.now c.fixed_into.ensures.out_after c.fixed_into.ensures.out_len_unchanged (first_room a.grid.now.plan.counts a.grid.now.plan.wiring.now a.grid.now.plan.readings.now _ c.requires) in
    let q = then p (rw e at l.invariant.stores) in
    rw (c.b-in-loop-block-1.given.1.1 (sym l.invariant.same)) (whole (rw (← (all_blocks a.grid.now.plan.counts a.grid.now.plan.wiring.now a.grid.now.plan.readings.now)) at q) c.requires)
