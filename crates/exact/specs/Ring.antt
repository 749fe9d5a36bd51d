-- Finite sums in a commutative ring, mathlib's `CommRing`: of a list's terms, and of f 0 to f (n - 1).
-- Main definitions: `sum`, `total`, `only`. Assumes nothing.
use Rattle.std.specs.Prelude.{ℕ, zero, suc, Bool, true, false, List, [], ◌∷◌}
use mathlib.Mathlib.Algebra.Ring.Defs.{CommRing}

module _ {R : Type 0} (𝓡 : CommRing R) where
  open 𝓡 use {add as ◌+◌, zero as 𝟘}

  infixl 65 ◌+◌
  -- f a + f b + .. + f z, of a list's elements
  unfoldable pub sum : {A : Type 0} → (A → R) → List A → R
  sum f [] = 𝟘
  sum f (a ∷ l) = f a + sum f l

  -- f 0 + f 1 + .. + f (n - 1)
  unfoldable pub total : (ℕ → R) → ℕ → R
  total f zero = 𝟘
  total f (suc n) = total f n + f n

  -- the value where the test passes, else zero
  unfoldable pub only : Bool → R → R
  only true v = v
  only false v = 𝟘
