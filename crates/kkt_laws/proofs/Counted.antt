-- How many triplets a list of slots gives: at most as many as there are slots, turn by turn over a loop, and one slot by whether its value is zero.
-- Main results: `count_append`, `count_one`, `count_each`, `each_le`, `turns_le`. Assumes nothing.
use mathlib.Core.Path.{◌≡◌, refl}
use mathlib.Core.Bool.{Bool, true, false, cond, not}
use mathlib.Core.List.{List, [], ◌∷◌, ◌++◌}
use Prim.Native.Nat.{ℕ, zero, suc, ◌+◌, ◌*◌, ◌<◌, ◌≤◌}
use native.Mathlib.Omega.{arith}
use lib.ListN.{length, length-append}
use lib.Ieee.{Float, eq}
use Rattle.std.specs.Prelude.{Some, None}
use Rattle.float64.specs.Values.{nought}
use Rattle.sequence.specs.Lists.{before, each, when}
use Rattle.sequence.specs.declared.Triplet.{Triplet}
use Rattle.sequence.specs.Sheets.{triplet, emit}
use Rattle.network.specs.declared.Field.{Field}
use Rattle.solution.specs.declared.Entry.{Entry}
use Rattle.kkt_index.specs.declared.Block.{Block}
use Rattle.snapping.specs.Expr.{eval}
use Rattle.kkt.specs.Slots.{Slot}
use Rattle.kkt.specs.Matrix.{flat, emitted}
use Rattle.kkt.proofs.Emitted.{emitted_append}
use Rattle.kkt_laws.proofs.Sums.{bit, bit_le, sum_mono, sum_le}

-- whether a value is listed
abbrev pub listed : Float → ℕ
listed x = bit (not (eq x nought))

module _ (start : Block → ℕ) (R : Field → ℕ → Float) (S : Entry → ℕ → Float) where
  abbrev pub count : List Slot → ℕ
  count ss = length (emitted start R S ss)

  pub count_append : (a b : List Slot) → count (a ++ b) ≡ count a + count b
  count_append a b = rw (emitted_append start R S a b) (length-append (emitted start R S a) (emitted start R S b))

  pub count_one : (s : Slot) (ss : List Slot) → count (s ∷ ss) ≡ listed (eval R S s.what) + count ss
  unfolding emitted emit
  count_one s ss = go (not (eq (eval R S s.what) nought)) (triplet (flat start R S s.row) (flat start R S s.col) (eval R S s.what))
    where
      go : (b : Bool) (t : Triplet) → length (emit (cond b (Some t) None) ++ emitted start R S ss) ≡ bit b + count ss
      go true t = omega arith
      go false t = omega arith

  pub count_le : (ss : List Slot) → count ss ≤ length ss
  unfolding emitted
  count_le [] = omega arith
  count_le (s ∷ ss) = omega (arith, count_one s ss, bit_le (not (eq (eval R S s.what) nought)), count_le ss)

  pub count_each : (n : ℕ) (f : ℕ → List Slot) → count (each n f) ≡ before (λ i. count (f i)) n
  unfolding each before emitted
  count_each zero f = refl
  count_each (suc n) f = omega (arith, count_append (each n f) (f n), count_each n f)

  pub count_when : (b : Bool) (l : List Slot) → count (when b l) ≤ length l * bit b
  unfolding when emitted
  count_when true l = omega (arith, count_le l)
  count_when false l = omega arith

  -- n turns, each of a bound of its own; of one bound; and of so many slots
  pub each_le : (n : ℕ) (f : ℕ → List Slot) (g : ℕ → ℕ) → ((i : ℕ) → i < n → count (f i) ≤ g i) → count (each n f) ≤ before g n
  each_le n f g h = omega (arith, count_each n f, sum_mono n (λ i. count (f i)) g h)

  pub turns_le : (n a : ℕ) (f : ℕ → List Slot) → ((i : ℕ) → length (f i) ≡ a) → count (each n f) ≤ a * n
  turns_le n a f h = omega (arith, count_each n f, sum_le n a (λ i. count (f i)) (λ i l. omega (arith, count_le (f i), h i)))
