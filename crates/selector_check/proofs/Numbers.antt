-- Sums that are tested without being made: what is left of a number from which the terms are taken.
-- Main results: `too_many`, `left_over`. Assumes nothing.
use mathlib.Core.Path.{◌≡◌, refl, sym}
use mathlib.Core.Bool.{Bool, true, false}
use Prim.Native.Nat.{ℕ, ◌+◌, ◌≤◌, ◌<◌}
use native.Mathlib.Omega.{arith}
use lib.Dec.{eqb}
use Rattle.sequence.specs.Lists.{before}
use Rattle.sequence.proofs.Lists.{before_within}
use borrow.Author.Tests.{eqb-true, eqb-false, eq-eqb, ne_eqb}

-- what is left of n is less than the next term
pub too_many : (f : ℕ → ℕ) (i m l n : ℕ) → i < m → before f i + l ≡ n → l < f i → false ≡ eqb (before f m) n
too_many f i m l n h e g =
    let w : before f i + f i ≤ before f m = before_within f i m h in
    sym (ne_eqb (before f m) n (λ q. omega arith))

-- nothing is left of n where the sum is n
pub left_over : (s l n : ℕ) → s + l ≡ n → eqb l 0 ≡ eqb s n
left_over s l n e = go (eqb l 0) refl
  where
    go : (t : Bool) → eqb l 0 ≡ t → t ≡ eqb s n
    go true h = let z : l ≡ 0 = eqb-true l 0 h in sym (eq-eqb s n (omega arith))
    go false h = sym (ne_eqb s n (λ q. eqb-false l 0 h (omega arith)))
