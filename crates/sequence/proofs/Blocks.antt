-- Blocks of a flat list lie apart: main results `before_start`, `apart`, `inside`, `one_place`, `in_block`. Assumes nothing.
use mathlib.Core.Path.{◌≡◌, refl, sym, ap}
use mathlib.Core.List.{List, [], ◌∷◌}
use Prim.Native.Nat.{ℕ, zero, suc, ◌+◌, ◌-◌, ◌≤◌, ◌<◌}
use native.Mathlib.Omega.{arith}
use native.Mathlib.Decide.{dec_lt}
use lib.ListN.{length, get_or}
use Rattle.sequence.specs.Layout.{total, start}
use Rattle.sequence.specs.Lists.{before}

-- where the next block begins, and so each
pub start_suc : (xs : List ℕ) (k : ℕ) → start xs (suc k) ≡ start xs k + get_or xs k 0
start_suc [] zero = refl
start_suc [] (suc k) = refl
start_suc (x ∷ xs) zero = omega arith
start_suc (x ∷ xs) (suc k) = omega (arith, start_suc xs k)

pub before_start : (xs : List ℕ) (k : ℕ) → before (λ i. get_or xs i 0) k ≡ start xs k
unfolding before
before_start xs zero = refl
before_start xs (suc k) = rw (before_start xs k) (sym (start_suc xs k))

-- a block ends before a later one begins
pub apart : (sizes : List ℕ) (r s : ℕ) → r < s → start sizes r + get_or sizes r 0 ≤ start sizes s
apart [] zero s h = omega arith
apart [] (suc r) s h = omega arith
apart (x ∷ xs) zero zero h = omega arith
apart (x ∷ xs) zero (suc s) h = omega arith
apart (x ∷ xs) (suc r) zero h = omega arith
apart (x ∷ xs) (suc r) (suc s) h =
    let ih : start xs r + get_or xs r 0 ≤ start xs s = apart xs r s (omega arith) in omega arith

-- and within the whole
pub inside : (sizes : List ℕ) (r : ℕ) → start sizes r + get_or sizes r 0 ≤ total sizes
inside [] zero = omega arith
inside [] (suc r) = omega arith
inside (x ∷ xs) zero = omega arith
inside (x ∷ xs) (suc r) = omega (arith, inside xs r)

-- two places that are one place are of one block
pub one_block : (sizes : List ℕ) (r s i j : ℕ) → i < get_or sizes r 0 → j < get_or sizes s 0 → r < s → start sizes r + i ≡ start sizes s + j → ⊥
one_block sizes r s i j hi hj h e = omega (arith, apart sizes r s h)

-- so they have one rank and one index
pub one_place : (sizes : List ℕ) (r s i j : ℕ) → i < get_or sizes r 0 → j < get_or sizes s 0 → start sizes r + i ≡ start sizes s + j → (r ≡ s) × (i ≡ j)
one_place sizes r s i j hi hj e = go (dec_lt r s) (dec_lt s r)
  where
    go : Dec (r < s) → Dec (s < r) → (r ≡ s) × (i ≡ j)
    go (yes h) d = absurd (one_block sizes r s i j hi hj h e)
    go (no h) (yes d) = absurd (one_block sizes s r j i hj hi d (sym e))
    go (no h) (no d) = let q : r ≡ s = omega arith in (q, omega (arith, ap (start sizes) q))

-- a place of the whole, by block: of rank r, at j
pub record Placed (sizes : List ℕ) (i : ℕ) : Type 0 where
  pub rank : ℕ
  pub at : ℕ
  pub ranked : rank < length sizes
  pub below : at < get_or sizes rank 0
  pub place : i ≡ start sizes rank + at

-- every place of the whole lies in a block
pub in_block : (sizes : List ℕ) (i : ℕ) → i < total sizes → Placed sizes i
in_block [] i h = absurd (omega arith)
in_block (x ∷ xs) i h = go (dec_lt i x) (in_block xs (i - x))
  where
    later : x ≤ i → Placed xs (i - x) → Placed (x ∷ xs) i
    later l p = record { rank = suc p.rank; at = p.at; ranked = omega (arith, p.ranked); below = p.below; place = omega (arith, p.place) }

    go : Dec (i < x) → (i - x < total xs → Placed xs (i - x)) → Placed (x ∷ xs) i
    go (yes l) f = record { rank = 0; at = i; ranked = omega arith; below = l; place = omega arith }
    go (no l) f = later (omega arith) (f (omega arith))
