-- How many cells of the susceptance matrix branches touch: at most four for each. Main result: `list_length`. Assumes nothing.
use mathlib.Core.Path.{◌≡◌, refl, ap, ◌∙◌}
use mathlib.Core.Bool.{Bool, true, false, cond, not, ◌&&◌, ◌||◌}
use mathlib.Core.List.{List}
use Prim.Native.Nat.{ℕ, zero, suc, ◌+◌, ◌*◌, ◌≤◌}
use native.Mathlib.Omega.{arith}
use native.Mathlib.Decide.{ℕ_discrete}
use lib.Dec.{eqb}
use lib.ListN.{length, length-append}
use lib.Ieee.{Float, eq}
use borrow.Author.Tests.{ne_eqb}
use Rattle.float64.specs.Values.{nought}
use Rattle.sequence.specs.Lists.{before, each, when, some}
use Rattle.sequence.proofs.Lists.{before_same}
use Rattle.network.specs.declared.Counts.{Counts}
use Rattle.network.specs.declared.Part.TheVariants.{BrFrom, BrTo}
use Rattle.network.specs.Layout.{wire}
use Rattle.susceptance.specs.Susceptance.{weight, touches, touched, susceptance_cell, susceptance_row, susceptance_coo}

-- ---- sums of tests

abbrev bit : Bool → ℕ
bit b = cond b 1 0

bit_or : (a b : Bool) → bit (a || b) ≤ bit a + bit b
bit_or true b = omega arith
bit_or false b = omega arith

bit_and : (a b : Bool) → bit (a && b) ≤ bit b
bit_and true b = omega arith
bit_and false b = omega arith

sum_le : (f g : ℕ → ℕ) (n : ℕ) → ((i : ℕ) → f i ≤ g i) → before f n ≤ before g n
unfolding before
sum_le f g zero h = omega arith
sum_le f g (suc n) h = omega (arith, sum_le f g n h, h n)

sum_add : (f g : ℕ → ℕ) (n : ℕ) → before (λ i. f i + g i) n ≡ before f n + before g n
unfolding before
sum_add f g zero = refl
sum_add f g (suc n) = omega (arith, sum_add f g n)

sum_none : (n : ℕ) → before (λ i. 0) n ≡ 0
unfolding before
sum_none zero = refl
sum_none (suc n) = omega (arith, sum_none n)

-- ---- one number is met once

not_yet : (p n : ℕ) → n ≤ p → before (λ j. bit (eqb j p)) n ≡ 0
unfolding before
not_yet p zero h = refl
not_yet p (suc n) h = rw (not_yet p n (omega arith), ne_eqb n p (λ e. absurd (omega arith)))

once : (p n : ℕ) → before (λ j. bit (eqb j p)) n ≤ 1
unfolding before
once p zero = omega arith
once p (suc n) = go (ℕ_discrete n p) (once p n)
  where
    at_most : (b : Bool) → bit b ≤ 1
    at_most true = omega arith
    at_most false = omega arith

    go : Dec (n ≡ p) → before (λ j. bit (eqb j p)) n ≤ 1 → before (λ j. bit (eqb j p)) n + bit (eqb n p) ≤ 1
    go (yes e) h = omega (arith, not_yet p n (omega arith), at_most (eqb n p))
    go (no e) h = rw (ne_eqb n p e) (omega arith)

twice : (p q n : ℕ) → before (λ j. bit (eqb j p || eqb j q)) n ≤ 2
twice p q n =
    omega (
      arith,
      sum_le (λ j. bit (eqb j p || eqb j q)) (λ j. bit (eqb j p) + bit (eqb j q)) n (λ j. bit_or (eqb j p) (eqb j q)),
      sum_add (λ j. bit (eqb j p)) (λ j. bit (eqb j q)) n,
      once p n,
      once q n,
    )

-- ---- a branch touches at most four cells

across : (b : Bool) (g : ℕ → Bool) (n : ℕ) → before (λ j. bit (g j)) n ≤ 2 → before (λ j. bit (b && g j)) n ≤ bit b + bit b
across true g n h = h
across false g n h = omega (arith, sum_none n)

module _ (p q n : ℕ) (x : Float) where
  touches_row : (i : ℕ) → before (λ j. bit (touches i j p q x)) n ≤ bit (eqb i p || eqb i q) + bit (eqb i p || eqb i q)
  unfolding touches
  touches_row i =
      omega (
        arith,
        sum_le (λ j. bit (touches i j p q x)) (λ j. bit ((eqb i p || eqb i q) && (eqb j p || eqb j q))) n (λ j. bit_and (not (eq x nought)) ((eqb i p || eqb i q) && (eqb j p || eqb j q))),
        across (eqb i p || eqb i q) (λ j. eqb j p || eqb j q) n (twice p q n),
      )

  touches_four : before (λ i. before (λ j. bit (touches i j p q x)) n) n ≤ 4
  touches_four =
      omega (
        arith,
        sum_le (λ i. before (λ j. bit (touches i j p q x)) n) (λ i. bit (eqb i p || eqb i q) + bit (eqb i p || eqb i q)) n touches_row,
        sum_add (λ i. bit (eqb i p || eqb i q)) (λ i. bit (eqb i p || eqb i q)) n,
        twice p q n,
      )

-- m branches touch at most 4m
some_most : (t : ℕ → ℕ → ℕ → Bool) (n : ℕ) → ((e : ℕ) → before (λ i. before (λ j. bit (t e i j)) n) n ≤ 4) → (m : ℕ) → before (λ i. before (λ j. bit (some (λ e. t e i j) m)) n) n ≤ 4 * m
unfolding some
some_most t n h zero = omega (arith, before_same (λ i. before (λ j. 0) n) (λ i. 0) n (λ i l. sum_none n), sum_none n)
some_most t n h (suc m) =
    omega (
      arith,
      some_most t n h m,
      h m,
      sum_le (λ i. before (λ j. bit (some (λ e. t e i j) m || t m i j)) n) (λ i. before (λ j. bit (some (λ e. t e i j) m)) n + before (λ j. bit (t m i j)) n) n
          (λ i. omega (
            arith,
            sum_le (λ j. bit (some (λ e. t e i j) m || t m i j)) (λ j. bit (some (λ e. t e i j) m) + bit (t m i j)) n (λ j. bit_or (some (λ e. t e i j) m) (t m i j)),
            sum_add (λ j. bit (some (λ e. t e i j) m)) (λ j. bit (t m i j)) n,
          )),
      sum_add (λ i. before (λ j. bit (some (λ e. t e i j) m)) n) (λ i. before (λ j. bit (t m i j)) n) n,
    )

-- ---- the list has a triplet for each

each_length : {A : Type 0} (n : ℕ) (f : ℕ → List A) → length (each n f) ≡ before (λ i. length (f i)) n
unfolding each before
each_length zero f = refl
each_length (suc n) f = length-append (each n f) (f n) ∙ ap (λ (k : ℕ). k + length (f n)) (each_length n f)

when_length : {A : Type 0} (b : Bool) (l : List A) → length l ≡ 1 → length (when b l) ≡ bit b
unfolding when
when_length true l h = h
when_length false l h = refl

module _ (c : Counts) (w : List ℕ) (r : List Float) where
  row_length : (i : ℕ) → length (susceptance_row c w r i) ≡ before (λ j. bit (touched c w r i j)) c.buses
  unfolding susceptance_row susceptance_cell
  row_length i = each_length c.buses (susceptance_cell c w r i) ∙ before_same _ _ c.buses (λ j l. when_length (touched c w r i j) _ refl)

  pub list_length : length (susceptance_coo c w r) ≤ 4 * c.branches
  unfolding susceptance_coo touched
  list_length =
      let e : length (susceptance_coo c w r) ≡ before (λ i. before (λ j. bit (touched c w r i j)) c.buses) c.buses =
      each_length c.buses (susceptance_row c w r) ∙ before_same _ _ c.buses (λ i l. row_length i) in
      rw e (some_most (λ e i j. touches i j (wire c w BrFrom e) (wire c w BrTo e) (weight c r e)) c.buses (λ e. touches_four (wire c w BrFrom e) (wire c w BrTo e) c.buses (weight c r e)) c.branches)
