-- The books' formulas in exact arithmetic, over any commutative ring: a formula's value, and its value with its derivative as a dual number, by the rules of differentiation.
-- Main definitions: `World`, `exact_of`, `Moves`, `along`. Assumes nothing.
use Rattle.std.specs.Prelude.{ℕ, ◌≡◌, Bool, cond, Float}
use mathlib.Mathlib.Algebra.Ring.Defs.{CommRing}
use Rattle.float64.specs.Values.{nought, one}
use Rattle.network.specs.declared.Field.{Field}
use Rattle.books.specs.Forms.{Place, Form}
use Rattle.books.specs.Forms.Form.{num, rd, var, minus, positive, ◌⊕◌, ◌⊖◌, ◌⊗◌, ◌⊘◌, if_positive}

-- what is read: the number that a double stands for, a reciprocal, what counts as above 0, each reading, each unknown
pub record World (A : Type 0) : Type 0 where
  pub number : Float → A
  pub inverse : A → A
  pub above : A → Bool
  pub reading : Field → ℕ → A
  pub unknown : Place → A

-- how fast each reading and each unknown moves
pub record Moves (A : Type 0) : Type 0 where
  pub readings : Field → ℕ → A
  pub unknowns : Place → A

module _ {A : Type 0} (𝓡 : CommRing A) (W : World A) where
  open 𝓡 use {add as ◌+◌, mul as ◌*◌, neg as less, zero as 𝟘}

  infixl 65 ◌+◌
  infixl 70 ◌*◌
  unfoldable pub exact_of : Form → A
  exact_of (num x) = W.number x
  exact_of (rd f i) = W.reading f i
  exact_of (var p) = W.unknown p
  exact_of (minus x) = less (exact_of x)
  exact_of (positive x) = cond (W.above (exact_of x)) (exact_of x) 𝟘
  exact_of (x ⊕ y) = exact_of x + exact_of y
  exact_of (x ⊖ y) = exact_of x + less (exact_of y)
  exact_of (x ⊗ y) = exact_of x * exact_of y
  exact_of (x ⊘ y) = exact_of x * W.inverse (exact_of y)
  exact_of (if_positive t x) = cond (W.above (exact_of t)) (exact_of x) 𝟘

  -- the derivative: (x y)' = x' y + x y', (x / y)' = x' / y − (x / y) (y' / y), and so on
  unfoldable pub along : Moves A → Form → A
  along M (num x) = 𝟘
  along M (rd f i) = M.readings f i
  along M (var p) = M.unknowns p
  along M (minus x) = less (along M x)
  along M (positive x) = cond (W.above (exact_of x)) (along M x) 𝟘
  along M (x ⊕ y) = along M x + along M y
  along M (x ⊖ y) = along M x + less (along M y)
  along M (x ⊗ y) = along M x * exact_of y + exact_of x * along M y
  along M (x ⊘ y) = along M x * W.inverse (exact_of y) + less (exact_of x * W.inverse (exact_of y) * (along M y * W.inverse (exact_of y)))
  along M (if_positive t x) = cond (W.above (exact_of t)) (along M x) 𝟘

-- 0 and 1 stand for themselves
pub record Sound {A : Type 0} (𝓡 : CommRing A) (W : World A) : Type 0 where
  pub nought_is : W.number nought ≡ 𝓡.zero
  pub one_is : W.number one ≡ 𝓡.one
