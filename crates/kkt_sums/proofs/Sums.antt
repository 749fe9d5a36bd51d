-- The laws of the susceptance sums as entries: the expression is the sum, a sum is the same from either bus, and one that no branch touches is +0.
-- Main results: `balance_is`, `symmetric`, `untouched`, `unmarked`, `sum_none`, `span_whole`. Assumes nothing.
use mathlib.Core.Path.{◌≡◌, refl, sym, ap, ◌∙◌}
use mathlib.Core.Bool.{Bool, true, false, cond, not, ◌&&◌, ◌||◌, and-false}
use mathlib.Core.List.{List}
use Prim.Native.Nat.{ℕ, zero, suc, ◌+◌, ◌/◌, ◌<◌}
use native.Mathlib.Nat.{eq-or-lt_of_le, not-suc-le-zero, le_of_suc-le-suc, zero-add}
use native.Mathlib.Omega.{arith}
use mathlib.Core.Logic.{⊎_elim}
use lib.ListN.{get_or}
use lib.Dec.{eqb}
use lib.Ieee.{Float, nan, neg, eq, of_bits}
use Rattle.std.specs.Prelude.{None}
use Rattle.float64.specs.Values.{nought, add_at, sub_at}
use Rattle.sequence.specs.Lists.{each, turns, some}
use Rattle.sequence.specs.declared.Sink.{Sink}
use Rattle.sequence.specs.Sheets.{emit}
use Rattle.sequence.specs.Sinks.{Gains}
use Rattle.sequence.proofs.Lists.{each_same, turns_same, turns_skip, or_none}
use Rattle.network.specs.declared.Counts.{Counts}
use Rattle.network.specs.declared.Part.TheVariants.{BrFrom, BrTo}
use Rattle.network.specs.Layout.{wire, reading}
use Rattle.solution.specs.declared.Entry.{Entry}
use Rattle.susceptance.specs.Susceptance.{weight, is_cell, cell_turn, susceptance, touches, touched}
use Rattle.susceptance.specs.Incidence.{RowHeld}
use Rattle.snapping.specs.Expr.{Expr, eval}
use Rattle.kkt.specs.Slots.{gather_at, branch_parts, balance}
use Rattle.kkt.specs.Walks.{sum_item, span_of}

-- ---- the expression of a sum is the sum

alike : (b : Bool) (a : Float) → a ≡ cond b a a
alike true a = refl
alike false a = refl

-- a step that is not taken where z
abbrev unless : Bool → (Float → Float) → Float → Float
unless z f a = cond z a (f a)

four : (z : Bool) (f g h k : Float → Float) (a : Float) → unless z k (unless z h (unless z g (unless z f a))) ≡ unless z (λ b. k (h (g (f b)))) a
four true f g h k a = refl
four false f g h k a = refl

module _ (c : Counts) (r : List Float) (S : Entry → ℕ → Float) where
  abbrev value : Expr → Float
  value x = eval (reading c r) S x

  up_is : (b : Bool) (e : ℕ) (a : Expr) → value (gather_at b true e a) ≡ unless (eq (weight c r e) nought) (add_at b (weight c r e)) (value a)
  unfolding weight
  up_is true e a = refl
  up_is false e a = alike (eq (weight c r e) nought) (value a)

  down_is : (b : Bool) (e : ℕ) (a : Expr) → value (gather_at b false e a) ≡ unless (eq (weight c r e) nought) (sub_at b (weight c r e)) (value a)
  unfolding weight
  down_is true e a = refl
  down_is false e a = alike (eq (weight c r e) nought) (value a)

  turn_is : (p q s t : Bool) (e : ℕ) (a : Expr)
      → value (gather_at t false e (gather_at s false e (gather_at q true e (gather_at p true e a))))
      ≡ unless (eq (weight c r e) nought) (λ b. sub_at t (weight c r e) (sub_at s (weight c r e) (add_at q (weight c r e) (add_at p (weight c r e) b)))) (value a)
  turn_is p q s t e a =
      let x : Float = weight c r e in
      let z : Bool = eq x nought in
      down_is t e (gather_at s false e (gather_at q true e (gather_at p true e a)))
      ∙ ap (unless z (sub_at t x)) (down_is s e (gather_at q true e (gather_at p true e a))
      ∙ ap (unless z (sub_at s x)) (up_is q e (gather_at p true e a)
      ∙ ap (unless z (add_at q x)) (up_is p e a)))
      ∙ four z (add_at p x) (add_at q x) (sub_at s x) (sub_at t x) (value a)

  module _ (w : List ℕ) (i j : ℕ) where
    pub parts_are : (n : ℕ) → value (branch_parts c w i j n) ≡ turns (λ e a. cell_turn i j (wire c w BrFrom e) (wire c w BrTo e) (weight c r e) a) nought n
    unfolding branch_parts turns cell_turn
    parts_are zero = refl
    parts_are (suc e) =
        let p : ℕ = wire c w BrFrom e in
        let q : ℕ = wire c w BrTo e in
        turn_is (is_cell i j p p) (is_cell i j q q) (is_cell i j p q) (is_cell i j q p) e (branch_parts c w i j e)
        ∙ ap (cell_turn i j p q (weight c r e)) (parts_are e)

    pub balance_is : value (balance c w i j) ≡ susceptance c w r i j
    unfolding susceptance
    balance_is = parts_are c.branches

-- ---- a sum is the same from either bus

both : (a b : Bool) → a && b ≡ b && a
both true true = refl
both true false = refl
both false true = refl
both false false = refl

subs_change : (a b : Bool) (x y : Float) → sub_at a x (sub_at b x y) ≡ sub_at b x (sub_at a x y)
subs_change true true x y = refl
subs_change true false x y = refl
subs_change false true x y = refl
subs_change false false x y = refl

turn_same : (i j p q : ℕ) (x a : Float) → cell_turn i j p q x a ≡ cell_turn j i p q x a
unfolding cell_turn
turn_same i j p q x a =
    rw (both (eqb i q) (eqb j p), both (eqb i p) (eqb j q), both (eqb i q) (eqb j q), both (eqb i p) (eqb j p))
    (ap (cond (eq x nought) a) (subs_change (eqb j p && eqb i q) (eqb j q && eqb i p) x _))

module _ (c : Counts) (w : List ℕ) (r : List Float) where
  pub symmetric : (i j : ℕ) → susceptance c w r i j ≡ susceptance c w r j i
  unfolding susceptance
  symmetric i j = turns_same _ _ nought c.branches (λ e l a. turn_same i j (wire c w BrFrom e) (wire c w BrTo e) (weight c r e) a)

-- ---- a sum that no branch touches is +0

some_not : (test : ℕ → Bool) (n : ℕ) → some test n ≡ false → (i : ℕ) → i < n → test i ≡ false
unfolding some
some_not test zero h i l = absurd (not-suc-le-zero l)
some_not test (suc n) h i l =
    ⊎_elim (λ e. rw e (or_none (some test n) (test n) h).1) (λ k. some_not test n (or_none (some test n) (test n) h).0 i k) (eq-or-lt_of_le (le_of_suc-le-suc l))

turn_none : (i j p q : ℕ) (x a : Float) → touches i j p q x ≡ false → cell_turn i j p q x a ≡ a
unfolding touches cell_turn
turn_none i j p q x a h = go (eq x nought) (eqb i p) (eqb i q) (eqb j p) (eqb j q) h
  where
    none : (b d jp jq : Bool) → jp || jq ≡ false → sub_at (d && jp) x (sub_at (b && jq) x (add_at (d && jq) x (add_at (b && jp) x a))) ≡ a
    none b d jp jq h = rw ((or_none jp jq h).0, (or_none jp jq h).1, and-false b, and-false d)

    go : (z b d jp jq : Bool) → not z && ((b || d) && (jp || jq)) ≡ false → cond z a (sub_at (d && jp) x (sub_at (b && jq) x (add_at (d && jq) x (add_at (b && jp) x a)))) ≡ a
    go true b d jp jq h = refl
    go false true d jp jq h = none true d jp jq h
    go false false true jp jq h = none false true jp jq h
    go false false false jp jq h = refl

module _ (c : Counts) (w : List ℕ) (r : List Float) (i : ℕ) where
  pub untouched : (j : ℕ) → touched c w r i j ≡ false → susceptance c w r i j ≡ nought
  unfolding touched susceptance turns
  untouched j h =
      turns_skip _ nought 0 c.branches (omega arith) (λ e p l a. turn_none i j (wire c w BrFrom e) (wire c w BrTo e) (weight c r e) a (some_not _ c.branches h e l))

  -- none but +0 is held in a block that is not marked
  pub unmarked : {acc : List Float} {hit : List ℕ} → RowHeld c w r i acc hit → (j : ℕ) → j < c.buses → get_or hit (j / 16) 0 ≡ 0 → get_or acc j nan ≡ nought
  unmarked h j l z = h.sums j l ∙ untouched j (go (touched c w r i j) (sym (h.marks j l) ∙ h.covers j l z))
    where
      go : (b : Bool) → ◌≡◌ {A = ℕ} (cond b 1 0) 0 → b ≡ false
      go true e = absurd (omega arith)
      go false e = refl

-- ---- the sums as entries

-- +0 is none
pub sum_none : (less : Bool) (acc : List Float) (from col i : ℕ) → get_or acc i nan ≡ nought → sum_item less acc from col i ≡ None
unfolding eq of_bits neg
sum_none true acc from col i h = rw h
sum_none false acc from col i h = rw h

-- the span from 0 on
pub span_whole : {S₀ S₁ : Sink} (less : Bool) (acc : List Float) (from col n : ℕ)
    → Gains (each n (λ i. emit (sum_item less acc from col i))) S₀ S₁ → Gains (span_of less acc from col 0 n) S₀ S₁
unfolding span_of
span_whole less acc from col n p =
    rw (each_same n (λ i. emit (sum_item less acc from col (0 + i))) (λ i. emit (sum_item less acc from col i)) (λ i l. rw zero-add)) p
