-- The laws of a commutative ring by short names, those of its negative among them, and as one list that sorts both sides of an equation alike.
-- Main results: `neg_unique`, `ring`. Assumes nothing.
use mathlib.Core.Path.{◌≡◌, sym, ap, ◌∙◌}
use mathlib.Mathlib.Algebra.Ring.Defs.{CommRing, IsSemiring}
use Rattle.exact.proofs.Sums.{add_assoc, add_comm, zero_add, add_zero, add_mul, zero_mul, mul_assoc, mul_comm}

module _ {A : Type 0} (𝓡 : CommRing A) where
  open 𝓡 use {add as ◌+◌, mul as ◌*◌, neg as less, zero as 𝟘, one as 𝟙}

  infixl 65 ◌+◌
  infixl 70 ◌*◌
  abbrev semiring : IsSemiring A ◌+◌ ◌*◌ 𝟘 𝟙
  semiring = 𝓡.is_comm_ring.is_ring.is_semiring

  pub mul_add : (a b c : A) → a * (b + c) ≡ a * b + a * c
  mul_add = semiring.is_non_unital_semiring.is_non_unital_non_assoc_semiring.left_distrib

  pub mul_zero : (a : A) → a * 𝟘 ≡ 𝟘
  mul_zero = semiring.is_non_unital_semiring.is_non_unital_non_assoc_semiring.mul-zero

  pub one_mul : (a : A) → 𝟙 * a ≡ a
  one_mul = semiring.one-mul

  pub mul_one : (a : A) → a * 𝟙 ≡ a
  mul_one = semiring.mul-one

  pub less_add : (a : A) → less a + a ≡ 𝟘
  less_add = 𝓡.is_comm_ring.is_ring.neg-add_cancel

  pub add_left_comm : (a b c : A) → a + (b + c) ≡ b + (a + c)
  add_left_comm a b c = sym (add_assoc 𝓡 a b c) ∙ ap (λ (x : A). x + c) (add_comm 𝓡 a b) ∙ add_assoc 𝓡 b a c

  pub mul_left_comm : (a b c : A) → a * (b * c) ≡ b * (a * c)
  mul_left_comm a b c = sym (mul_assoc 𝓡 a b c) ∙ ap (λ (x : A). x * c) (mul_comm 𝓡 a b) ∙ mul_assoc 𝓡 b a c

  -- what adds to a to 0 is a's negative
  pub neg_unique : (a b : A) → a + b ≡ 𝟘 → b ≡ less a
  neg_unique a b h =
      sym (zero_add 𝓡 b) ∙ ap (λ (x : A). x + b) (sym (less_add a)) ∙ add_assoc 𝓡 (less a) a b ∙ ap (λ (x : A). less a + x) h ∙ add_zero 𝓡 (less a)

  pub add_less : (a : A) → a + less a ≡ 𝟘
  add_less a = add_comm 𝓡 a (less a) ∙ less_add a

  pub neg_zero : less 𝟘 ≡ 𝟘
  neg_zero = sym (neg_unique 𝟘 𝟘 (zero_add 𝓡 𝟘))

  pub neg_neg : (a : A) → less (less a) ≡ a
  neg_neg a = sym (neg_unique (less a) a (less_add a))

  pub neg_add : (a b : A) → less (a + b) ≡ less a + less b
  neg_add a b =
      sym
      (neg_unique (a + b) (less a + less b)
      (add_assoc 𝓡 a b (less a + less b)
      ∙ ap (λ (x : A). a + x) (add_left_comm b (less a) (less b) ∙ ap (λ (x : A). less a + x) (add_less b) ∙ add_zero 𝓡 (less a))
      ∙ add_less a))

  pub neg_mul : (a b : A) → less a * b ≡ less (a * b)
  neg_mul a b = neg_unique (a * b) (less a * b) (sym (add_mul 𝓡 a (less a) b) ∙ ap (λ (x : A). x * b) (add_less a) ∙ zero_mul 𝓡 b)

  pub mul_neg : (a b : A) → a * less b ≡ less (a * b)
  mul_neg a b = mul_comm 𝓡 a (less b) ∙ neg_mul b a ∙ ap less (mul_comm 𝓡 b a)

-- 0 and 1 leave sums and products
pub ruleset units = (zero_add, add_zero, zero_mul, mul_zero, one_mul, mul_one, neg_zero)

-- sums of products, each product's factors and each sum's terms in one order
pub ruleset ring = (units, add_assoc, add_comm, add_left_comm, mul_assoc, mul_comm, mul_left_comm, mul_add, add_mul, neg_neg, neg_add, neg_mul, mul_neg)

module _ {A : Type 0} (𝓡 : CommRing A) where
  open 𝓡 use {add as ◌+◌, mul as ◌*◌, neg as less, zero as 𝟘, one as 𝟙}

  infixl 65 ◌+◌
  infixl 70 ◌*◌
  -- a branch's four products of ends: (p − q) w (r − s), added one by one
  pub four : (p q r s w x : A) → x + p * r * w + q * s * w + less (p * s * w) + less (q * r * w) ≡ x + (p + less q) * (w * (r + less s))
  four p q r s w x = simp ring
