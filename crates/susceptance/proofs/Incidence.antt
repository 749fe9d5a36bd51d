-- The laws of branches by bus: where their ends are, and that a walk along bus i's chain makes row i of the susceptance matrix.
-- Main results: `end_bound`, `sum_at`, `mark_at_lem`, `end_taken`, `row_begin`, `row_more`, `row_done`, `row_is`. Assumes nothing.
use mathlib.Core.Path.{◌≡◌, refl, sym, ap, ◌∙◌}
use mathlib.Core.Bool.{Bool, true, false, cond, not, ◌&&◌, ◌||◌, and-true, and-false, or-true}
use mathlib.Core.List.{List}
use Prim.Native.Nat.{ℕ, zero, suc, ◌+◌, ◌*◌, ◌/◌, ◌%◌, ◌≤◌, ◌<◌}
use native.Mathlib.Omega.{arith}
use lib.ListN.{length, get_or, set, length-set}
use lib.Seq.{get_or-set_other}
use lib.Dec.{eqb}
use lib.Ieee.{Float, nan, eq}
use borrow.Author.Tests.{eq-eqb, ne_eqb}
use Rattle.float64.specs.Values.{nought, add_at, sub_at}
use Rattle.sequence.specs.Lists.{each, turns, some}
use Rattle.sequence.specs.Links.{First}
use Rattle.sequence.proofs.Lists.{each_same, turns_more, turns_same, turns_skip, turns_pairs, stored_at}
use Rattle.sequence.proofs.Sheets.{emit_item}
use Rattle.network.specs.declared.Counts.{Counts}
use Rattle.network.specs.declared.Part.TheVariants.{BrFrom, BrTo}
use Rattle.network.specs.Layout.{wire}
use Rattle.network.specs.Numbers.{Wired}
use Rattle.susceptance.specs.Susceptance.{weight, is_cell, cell_turn, susceptance, touches, touched, susceptance_cell, susceptance_row}
use Rattle.susceptance.specs.Incidence.{end_at, takes, end_turn, walk_turn, cell_sum, cell_mark, sum_turn, mark_turn, mark_at, Covers, marked, Stepped, EndStepped, RowBlank, RowAt, RowHeld, cell_at}

-- ---- the ends

pub end_even : (c : Counts) (w : List ℕ) (e : ℕ) → end_at c w (2 * e) ≡ wire c w BrFrom e
unfolding end_at
end_even c w e =
    let p : 2 * e % 2 ≡ 0 = omega arith in
    let q : 2 * e / 2 ≡ e = omega arith in
    rw (p, q)

pub end_odd : (c : Counts) (w : List ℕ) (e : ℕ) → end_at c w (2 * e + 1) ≡ wire c w BrTo e
unfolding end_at
end_odd c w e =
    let p : (2 * e + 1) % 2 ≡ 1 = omega arith in
    let q : (2 * e + 1) / 2 ≡ e = omega arith in
    rw (p, q)

-- each is at a bus
pub end_bound : (c : Counts) (w : List ℕ) → Wired c w → (x : ℕ) → x < 2 * c.branches → end_at c w x < c.buses
unfolding end_at
end_bound c w y x h = go (eqb (x % 2) 0)
  where
    go : (b : Bool) → cond b (wire c w BrFrom (x / 2)) (wire c w BrTo (x / 2)) < c.buses
    go true = y.froms (x / 2) (omega arith)
    go false = y.tos (x / 2) (omega arith)

-- bus i is at one of the ends of its chain's branches
pub end_of : (c : Counts) (w : List ℕ) (i x : ℕ) {p q : ℕ} → end_at c w x ≡ i → p ≡ wire c w BrFrom (x / 2) → q ≡ wire c w BrTo (x / 2) → eqb i p || eqb i q ≡ true
unfolding end_at
end_of c w i x {p} {q} e ep eq = go (eqb (x % 2) 0) (rw (← ep, ← eq) at e)
  where
    go : (b : Bool) → cond b p q ≡ i → eqb i p || eqb i q ≡ true
    go true h = rw (eq-eqb i p (sym h))
    go false h = rw (eq-eqb i q (sym h), or-true)

-- ---- a branch at every column

-- one of its four stores
bump_at : (op : Bool → Float → Float → Float) → ((x a : Float) → op false x a ≡ a) → (met : Bool) (x : Float) (f j : ℕ) (l : List Float) → f < length l
    → get_or (set l f (op met x (get_or l f nan))) j nan ≡ op (met && eqb j f) x (get_or l j nan)
bump_at op z met x f j l h =
    stored_at (λ y. y ≡ op (met && eqb j f) x (get_or l j nan)) l f (op met x (get_or l f nan)) j nan h
    (λ e. rw (eq-eqb j f e, and-true, e))
    (λ d. rw (ne_eqb j f d, and-false) (sym (z x (get_or l j nan))))

abbrev add_on : Bool → Float → ℕ → List Float → List Float
add_on met x f l = set l f (add_at met x (get_or l f nan))

abbrev sub_on : Bool → Float → ℕ → List Float → List Float
sub_on met x f l = set l f (sub_at met x (get_or l f nan))

pub sum_at : (i p q j : ℕ) (x : Float) (l : List Float) → p < length l → q < length l
    → get_or (sub_on (eqb i q) x p (sub_on (eqb i p) x q (add_on (eqb i q) x q (add_on (eqb i p) x p l)))) j nan ≡ cell_sum i j p q x (get_or l j nan)
sum_at i p q j x l hp hq =
    let l₁ : List Float = add_on (eqb i p) x p l in
    let l₂ : List Float = add_on (eqb i q) x q l₁ in
    let l₃ : List Float = sub_on (eqb i p) x q l₂ in
    bump_at sub_at (λ x a. refl) (eqb i q) x p j l₃ (simp length-set hp)
    ∙ ap (sub_at (is_cell i j q p) x) (bump_at sub_at (λ x a. refl) (eqb i p) x q j l₂ (simp length-set hq)
    ∙ ap (sub_at (is_cell i j p q) x) (bump_at add_at (λ x a. refl) (eqb i q) x q j l₁ (simp length-set hq)
    ∙ ap (add_at (is_cell i j q q) x) (bump_at add_at (λ x a. refl) (eqb i p) x p j l hp)))

-- its marks
module _ (p q : ℕ) (l : List ℕ) (p256 : p < 256) (q256 : q < 256) (hp : 16 + p < length l) (hq : 16 + q < length l) where
  -- the marks of blocks are apart from those of columns
  mark_columns : (j : ℕ) → mark_at (marked p q l) j ≡ mark_at (set (set l (16 + p) 1) (16 + q) 1) j
  unfolding marked
  mark_columns j =
      get_or-set_other (set (set (set l (16 + p) 1) (16 + q) 1) (p / 16) 1) (q / 16) (16 + j) 1 0 (λ e. omega arith)
      ∙ get_or-set_other (set (set l (16 + p) 1) (16 + q) 1) (p / 16) (16 + j) 1 0 (λ e. omega arith)

  pub mark_at_lem : (i j : ℕ) (x : Float) → eq x nought ≡ false → eqb i p || eqb i q ≡ true → mark_at (marked p q l) j ≡ cell_mark i j p q x (mark_at l j)
  unfolding cell_mark touches
  mark_at_lem i j x ex ei =
      rw (mark_columns j, ex, ei)
      (stored_at (λ y. y ≡ cond (eqb j p || eqb j q) 1 (mark_at l j)) (set l (16 + p) 1) (16 + q) 1 (16 + j) 0 (simp length-set hq)
      (λ e. rw (eq-eqb j q (omega arith), or-true))
      (λ d. rw (ne_eqb j q (λ e. d (rw e)))
      (stored_at (λ y. y ≡ cond (eqb j p || false) 1 (mark_at l j)) l (16 + p) 1 (16 + j) 0 hp
      (λ e. rw (eq-eqb j p (omega arith)))
      (λ d'. rw (ne_eqb j p (λ e. d' (rw e)))))))

  pub mark_covers : (n : ℕ) → n ≤ 256 → Covers n l → Covers n (marked p q l)
  unfolding marked
  mark_covers n few h j b =
      stored_at P (set (set (set l (16 + p) 1) (16 + q) 1) (p / 16) 1) (q / 16) 1 (j / 16) 0 (simp length-set (omega arith)) (λ e z. absurd (omega arith))
      (λ d. stored_at P (set (set l (16 + p) 1) (16 + q) 1) (p / 16) 1 (j / 16) 0 (simp length-set (omega arith)) (λ e z. absurd (omega arith))
      (λ d' z. mark_columns j
      ∙ get_or-set_other (set l (16 + p) 1) (16 + q) (16 + j) 1 0 (λ e. d (let f : j ≡ q = omega arith in rw f))
      ∙ get_or-set_other l (16 + p) (16 + j) 1 0 (λ e. d' (let f : j ≡ p = omega arith in rw f))
      ∙ h j b (sym (get_or-set_other l (16 + p) (j / 16) 1 0 (λ e. omega arith)) ∙ sym (get_or-set_other (set l (16 + p) 1) (16 + q) (j / 16) 1 0 (λ e. omega arith)) ∙ z)))
    where
      P : ℕ → Type 0
      P y = y ≡ 0 → mark_at (marked p q l) j ≡ 0

module _ (i p q : ℕ) (x : Float) (acc : List Float) (hit : List ℕ) where
  -- a branch of weight zero is passed, and another is summed and marked
  pub branch_passed : eq x nought ≡ true → Stepped (λ j. cell_turn i j p q x) (λ j. cell_mark i j p q x) acc hit acc hit
  unfolding cell_turn cell_mark touches
  branch_passed e = record { sums = λ j. rw e; marks = λ j. rw e; covers = λ n l h. h }

  pub branch_taken : {acc' : List Float} {hit' : List ℕ} → eq x nought ≡ false → eqb i p || eqb i q ≡ true → p < 256 → q < 256 → 16 + p < length hit → 16 + q < length hit
      → ((j : ℕ) → get_or acc' j nan ≡ cell_sum i j p q x (get_or acc j nan)) → hit' ≡ marked p q hit
      → Stepped (λ j. cell_turn i j p q x) (λ j. cell_mark i j p q x) acc hit acc' hit'
  unfolding cell_turn
  branch_taken e h p256 q256 hp hq s m = record {
    sums = λ j. rw e (s j);
    marks = λ j. rw m (mark_at_lem p q hit p256 q256 hp hq i j x e h);
    covers = rw m (mark_covers p q hit p256 q256 hp hq);
  }

-- ---- an end's step

module _ (c : Counts) (w : List ℕ) (r : List Float) (i x : ℕ) where
  pub end_passed : {p : ℕ} (acc : List Float) (hit : List ℕ) → p ≡ wire c w BrFrom (x / 2) → takes i x p ≡ false → EndStepped c w r i x acc hit acc hit
  unfolding end_turn
  end_passed acc hit e t = record { sums = λ j. rw (← e, t); marks = λ j. rw (← e, t); covers = λ n l h. h }

  pub end_taken : {p q : ℕ} {v : Float} {acc acc' : List Float} {hit hit' : List ℕ} → p ≡ wire c w BrFrom (x / 2) → q ≡ wire c w BrTo (x / 2) → v ≡ weight c r (x / 2)
      → takes i x p ≡ true → Stepped (λ j. cell_turn i j p q v) (λ j. cell_mark i j p q v) acc hit acc' hit' → EndStepped c w r i x acc hit acc' hit'
  unfolding end_turn
  end_taken ep eq ev t s = record { sums = λ j. rw (← ep, t, ← eq, ← ev) (s.sums j); marks = λ j. rw (← ep, t, ← eq, ← ev) (s.marks j); covers = s.covers }

-- ---- a walk along bus i's chain

module _ {A : Type 0} (c : Counts) (w : List ℕ) (i : ℕ) (turn : ℕ → A → A) (v : A) where
  -- it leaves out the ends that are not i's
  pub walk_skip : {k a z : ℕ} → First (end_at c w) k i a z → turns (walk_turn c w i turn) v z ≡ turns (walk_turn c w i turn) v a
  walk_skip {a = a} {z} f = turns_skip _ v a z f.low (λ x p q y. rw (ne_eqb i (end_at c w x) (λ e. f.none x p q (sym e))))

  pub walk_begin : {k z : ℕ} → First (end_at c w) k i 0 z → v ≡ turns (walk_turn c w i turn) v z
  unfolding turns
  walk_begin f = sym (walk_skip f)

  pub walk_more : {k z : ℕ} (x : ℕ) → end_at c w x ≡ i → First (end_at c w) k i (x + 1) z
      → turns (walk_turn c w i turn) v z ≡ end_turn c w i turn x (turns (walk_turn c w i turn) v x)
  walk_more x e f = walk_skip f ∙ turns_more _ v x ∙ rw (eq-eqb i (end_at c w x) (sym e))

  -- and is the scan of every branch, where one with no end at i changes nothing
  pub walk_done : ((e : ℕ) (a : A) → eqb i (wire c w BrFrom e) ≡ false → eqb i (wire c w BrTo e) ≡ false → turn e a ≡ a) → (m : ℕ)
      → turns (walk_turn c w i turn) v (2 * m) ≡ turns turn v m
  unfolding end_turn
  walk_done h m = turns_pairs _ v m ∙ turns_same _ turn v m (λ e l a.
      let s : 2 * e % 2 ≡ 0 = omega arith in
      let t : 2 * e / 2 ≡ e = omega arith in
      let s' : (2 * e + 1) % 2 ≡ 1 = omega arith in
      let t' : (2 * e + 1) / 2 ≡ e = omega arith in
      rw (end_odd c w e, end_even c w e, s, t, s', t') (go e a (eqb i (wire c w BrFrom e)) (eqb i (wire c w BrTo e)) refl refl))
    where
      go : (e : ℕ) (a : A) (p q : Bool) → eqb i (wire c w BrFrom e) ≡ p → eqb i (wire c w BrTo e) ≡ q
          → cond q (cond (not p) (turn e (cond p (turn e a) a)) (cond p (turn e a) a)) (cond p (turn e a) a) ≡ turn e a
      go e a true true ep eq = refl
      go e a true false ep eq = refl
      go e a false true ep eq = refl
      go e a false false ep eq = sym (h e a ep eq)

-- a branch with no end at i leaves row i alone
alike : {A : Type 0} (b : Bool) (a : A) → cond b a a ≡ a
alike true a = refl
alike false a = refl

sum_none : (i j p q : ℕ) (x a : Float) → eqb i p ≡ false → eqb i q ≡ false → cell_turn i j p q x a ≡ a
unfolding cell_turn
sum_none i j p q x a ep et = rw (ep, et) (alike (eq x nought) a)

mark_none : (i j p q : ℕ) (x : Float) (k : ℕ) → eqb i p ≡ false → eqb i q ≡ false → cell_mark i j p q x k ≡ k
unfolding cell_mark touches
mark_none i j p q x k ep eq = rw (ep, eq, and-false)

-- marks that are set and never cleared are a test of some turn
marks_some : (test : ℕ → Bool) (n : ℕ) → turns (λ (e k : ℕ). cond (test e) 1 k) 0 n ≡ cond (some test n) 1 0
unfolding turns some
marks_some test zero = refl
marks_some test (suc n) = rw (marks_some test n) (go (some test n) (test n))
  where
    go : (s t : Bool) → ◌≡◌ {A = ℕ} (cond t 1 (cond s 1 0)) (cond (s || t) 1 0)
    go true true = refl
    go true false = refl
    go false true = refl
    go false false = refl

-- a row with no branch
pub row_blank : {n : ℕ} {acc : List Float} {hit : List ℕ} → ((j : ℕ) → j < n → get_or acc j nan ≡ nought) → ((j : ℕ) → j < 16 + n → get_or hit j 0 ≡ 0) → RowBlank n acc hit
row_blank a b = record { sums = a; marks = λ j l. b (16 + j) (omega arith) }

module _ (c : Counts) (w : List ℕ) (r : List Float) (i : ℕ) where
  pub row_begin : {k z : ℕ} {acc : List Float} {hit : List ℕ} → First (end_at c w) k i 0 z → RowBlank c.buses acc hit → RowAt c w r i z acc hit
  row_begin f b = record {
    sums = λ j l. b.sums j l ∙ walk_begin c w i (sum_turn c w r i j) nought f;
    marks = λ j l. b.marks j l ∙ walk_begin c w i (mark_turn c w r i j) 0 f;
    covers = λ j l z. b.marks j l;
  }

  pub row_more : {k z : ℕ} {acc acc' : List Float} {hit hit' : List ℕ} (x : ℕ) → c.buses ≤ 256 → end_at c w x ≡ i → First (end_at c w) k i (x + 1) z
      → RowAt c w r i x acc hit → EndStepped c w r i x acc hit acc' hit' → RowAt c w r i z acc' hit'
  row_more x n e f a s = record {
    sums = λ j l. s.sums j ∙ rw (a.sums j l) (sym (walk_more c w i (sum_turn c w r i j) nought x e f));
    marks = λ j l. s.marks j ∙ rw (a.marks j l) (sym (walk_more c w i (mark_turn c w r i j) 0 x e f));
    covers = s.covers c.buses n a.covers;
  }

  pub row_done : {acc : List Float} {hit : List ℕ} (x : ℕ) → x ≡ 2 * c.branches → RowAt c w r i x acc hit → RowHeld c w r i acc hit
  unfolding susceptance touched cell_mark
  row_done x e a = record {
    sums = λ j l. a.sums j l ∙ rw e (walk_done c w i (sum_turn c w r i j) nought (λ e b ep eq. sum_none i j _ _ _ b ep eq) c.branches);
    marks = λ j l. a.marks j l ∙ rw e (walk_done c w i (mark_turn c w r i j) 0 (λ e k ep eq. mark_none i j _ _ _ k ep eq) c.branches ∙ marks_some _ c.branches);
    covers = a.covers;
  }

  -- the cells of the row are those of the definition
  pub row_is : {acc : List Float} {hit : List ℕ} → RowHeld c w r i acc hit → each c.buses (cell_at acc hit i) ≡ susceptance_row c w r i
  unfolding cell_at susceptance_row susceptance_cell
  row_is h = each_same c.buses _ _ (λ j l. rw (h.marks j l, h.sums j l, kept (touched c w r i j)) (emit_item (touched c w r i j) _ _ _))
    where
      kept : (b : Bool) → not (eqb (cond b 1 0) 0) ≡ b
      kept true = refl
      kept false = refl
