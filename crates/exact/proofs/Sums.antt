-- The laws of finite sums: a loop's sum, linearity, the exchange of two sums, the sum of one index.
-- Main result: `spread`, a sum by rows of what falls on each row is the sum over the list. Assumes nothing.
use mathlib.Core.Path.{◌≡◌, refl, sym, ap, ap₂, ◌∙◌}
use mathlib.Core.Bool.{Bool, true, false, cond}
use mathlib.Core.List.{List, [], ◌∷◌, map, foldl}
use mathlib.Mathlib.Algebra.Ring.Defs.{CommRing, IsNonUnitalSemiring, IsNonUnitalNonAssocSemiring}
use mathlib.Mathlib.Algebra.Group.Defs.{IsAddMonoid}
use mathlib.Mathlib.Algebra.Group.Basic.{add-add-add_comm}
use Prim.Native.Nat.{ℕ, zero, suc, ◌<◌}
use native.Mathlib.Omega.{arith}
use native.Mathlib.Decide.{ℕ_discrete}
use lib.Dec.{eqb, eqb_refl, eqb→eq, not_T}
use lib.Ieee.Bits.{is_true, is_false}
use Rattle.sequence.specs.Lists.{turns}
use Rattle.sequence.specs.Facts.{All}
use Rattle.sequence.specs.Facts.All.{done, ◌&◌}
use Rattle.exact.specs.Ring.{sum, total, only}

module _ {R : Type 0} (𝓡 : CommRing R) where
  open 𝓡 use {add as ◌+◌, mul as ◌*◌, zero as 𝟘}

  infixl 65 ◌+◌
  infixl 70 ◌*◌
  -- ---- the ring's laws, by short names

  abbrev semiring : IsNonUnitalSemiring R ◌+◌ ◌*◌ 𝟘
  semiring = 𝓡.is_comm_ring.is_ring.is_semiring.is_non_unital_semiring

  abbrev distributive : IsNonUnitalNonAssocSemiring R ◌+◌ ◌*◌ 𝟘
  distributive = semiring.is_non_unital_non_assoc_semiring

  abbrev additive : IsAddMonoid R ◌+◌ 𝟘
  additive = distributive.is_add_comm_monoid.is_add_monoid

  pub add_assoc : (a b c : R) → (a + b) + c ≡ a + (b + c)
  add_assoc = additive.is_add_semigroup.add_assoc

  pub add_comm : (a b : R) → a + b ≡ b + a
  add_comm = distributive.is_add_comm_monoid.add_comm

  pub zero_add : (a : R) → 𝟘 + a ≡ a
  zero_add = additive.zero-add

  pub add_zero : (a : R) → a + 𝟘 ≡ a
  add_zero = additive.add-zero

  pub add_mul : (a b c : R) → (a + b) * c ≡ a * c + b * c
  add_mul = distributive.right_distrib

  pub zero_mul : (a : R) → 𝟘 * a ≡ 𝟘
  zero_mul = distributive.zero-mul

  pub mul_assoc : (a b c : R) → (a * b) * c ≡ a * (b * c)
  mul_assoc = semiring.mul_assoc

  pub mul_comm : (a b : R) → a * b ≡ b * a
  mul_comm = 𝓡.is_comm_ring.mul_comm

  -- a sum of four with the middle two exchanged
  add_add : (a b c d : R) → (a + b) + (c + d) ≡ (a + c) + (b + d)
  add_add = add-add-add_comm (record { add = ◌+◌; is_add_comm_semigroup = record { is_add_semigroup = additive.is_add_semigroup; add_comm = add_comm } })

  -- ---- what loops leave

  module _ {A : Type 0} (f : A → R) where
    -- a loop that adds the terms that pass a test
    pub loop_only : (test : A → Bool) (z : R) (l : List A) → foldl (λ acc a. cond (test a) (acc + f a) acc) z l ≡ z + sum 𝓡 (λ a. only 𝓡 (test a) (f a)) l
    unfolding sum only
    loop_only test z [] = sym (add_zero z)
    loop_only test z (a ∷ l) = loop_only test (cond (test a) (z + f a) z) l ∙ go (test a)
      where
        go : (b : Bool) → cond b (z + f a) z + sum 𝓡 (λ a. only 𝓡 (test a) (f a)) l ≡ z + (only 𝓡 b (f a) + sum 𝓡 (λ a. only 𝓡 (test a) (f a)) l)
        go true = add_assoc z (f a) _
        go false = ap (λ (v : R). z + v) (sym (zero_add _))

    -- a loop that adds every term
    pub loop : (z : R) (l : List A) → foldl (λ acc a. acc + f a) z l ≡ z + sum 𝓡 f l
    unfolding only
    loop z l = loop_only (λ a. true) z l

  -- a loop that leaves out terms that are zero
  pub loop_skip : (f : ℕ → R) (skip : ℕ → Bool) → ((r : ℕ) → skip r ≡ true → f r ≡ 𝟘) → (n : ℕ) → turns (λ r acc. cond (skip r) acc (acc + f r)) 𝟘 n ≡ total 𝓡 f n
  unfolding turns total
  loop_skip f skip h zero = refl
  loop_skip f skip h (suc n) = rw (loop_skip f skip h n) (go (skip n) (h n))
    where
      go : (b : Bool) → (b ≡ true → f n ≡ 𝟘) → cond b (total 𝓡 f n) (total 𝓡 f n + f n) ≡ total 𝓡 f n + f n
      go true e = sym (ap (λ (v : R). total 𝓡 f n + v) (e refl) ∙ add_zero _)
      go false e = refl

  -- ---- sums over rows

  pub total_same : (f g : ℕ → R) (n : ℕ) → ((r : ℕ) → r < n → f r ≡ g r) → total 𝓡 f n ≡ total 𝓡 g n
  unfolding total
  total_same f g zero h = refl
  total_same f g (suc n) h = ap₂ ◌+◌ (total_same f g n (λ r l. h r (omega arith))) (h n (omega arith))

  pub total_zero : (n : ℕ) → total 𝓡 (λ r. 𝟘) n ≡ 𝟘
  unfolding total
  total_zero zero = refl
  total_zero (suc n) = add_zero _ ∙ total_zero n

  pub total_add : (f g : ℕ → R) (n : ℕ) → total 𝓡 (λ r. f r + g r) n ≡ total 𝓡 f n + total 𝓡 g n
  unfolding total
  total_add f g zero = sym (zero_add 𝟘)
  total_add f g (suc n) = ap (λ (v : R). v + (f n + g n)) (total_add f g n) ∙ add_add (total 𝓡 f n) (total 𝓡 g n) (f n) (g n)

  only_own : (k : ℕ) (v : R) → only 𝓡 (eqb k k) v ≡ v
  unfolding only
  only_own k v = rw (is_true (eqb k k) (eqb_refl k))

  only_other : (k r : ℕ) (v : R) → (k ≡ r → ⊥) → only 𝓡 (eqb k r) v ≡ 𝟘
  unfolding only
  only_other k r v d = rw (is_false (eqb k r) (not_T (eqb k r) (λ t. d (eqb→eq k r t))))

  only_mul : (b : Bool) (v z : R) → only 𝓡 b v * z ≡ only 𝓡 b (v * z)
  unfolding only
  only_mul true v z = refl
  only_mul false v z = zero_mul z

  -- of the rows only row k counts
  pub total_one : (f : ℕ → R) (k n : ℕ) → k < n → total 𝓡 (λ r. only 𝓡 (eqb k r) (f r)) n ≡ f k
  unfolding total
  total_one f k zero l = let z : ⊥ = omega arith in absurd z
  total_one f k (suc n) l = go (ℕ_discrete k n) (total_one f k n)
    where
      go : Dec (k ≡ n) → (k < n → total 𝓡 (λ r. only 𝓡 (eqb k r) (f r)) n ≡ f k) → total 𝓡 (λ r. only 𝓡 (eqb k r) (f r)) n + only 𝓡 (eqb k n) (f n) ≡ f k
      go (yes e) ih =
          ap₂ ◌+◌ (total_same _ (λ r. 𝟘) n (λ r q. only_other k r (f r) (λ s. omega arith)) ∙ total_zero n) (rw (← e) (only_own k (f k)))
          ∙ zero_add (f k)
      go (no d) ih = ap₂ ◌+◌ (ih (omega arith)) (only_other k n (f n) d) ∙ add_zero (f k)

  -- ---- sums over a list

  module _ {A : Type 0} where
    pub sum_same : (f g : A → R) {P : A → Type 0} {l : List A} → All P l → ((a : A) → P a → f a ≡ g a) → sum 𝓡 f l ≡ sum 𝓡 g l
    unfolding sum
    sum_same f g done h = refl
    sum_same f g (p & ps) h = ap₂ ◌+◌ (h _ p) (sum_same f g ps h)

    pub sum_map : {B : Type 0} (f : B → R) (g : A → B) (l : List A) → sum 𝓡 f (map g l) ≡ sum 𝓡 (λ a. f (g a)) l
    unfolding sum
    sum_map f g [] = refl
    sum_map f g (a ∷ l) = ap (λ (v : R). f (g a) + v) (sum_map f g l)

    pub sum_mul : (f : A → R) (z : R) (l : List A) → sum 𝓡 f l * z ≡ sum 𝓡 (λ a. f a * z) l
    unfolding sum
    sum_mul f z [] = zero_mul z
    sum_mul f z (a ∷ l) = add_mul (f a) (sum 𝓡 f l) z ∙ ap (λ (v : R). f a * z + v) (sum_mul f z l)

    -- rows first or the list first
    pub exchange : (f : A → ℕ → R) (l : List A) (n : ℕ) → total 𝓡 (λ r. sum 𝓡 (λ a. f a r) l) n ≡ sum 𝓡 (λ a. total 𝓡 (f a) n) l
    unfolding sum
    exchange f [] n = total_zero n
    exchange f (a ∷ l) n = total_add (f a) (λ r. sum 𝓡 (λ a. f a r) l) n ∙ ap (λ (v : R). total 𝓡 (f a) n + v) (exchange f l n)

  -- row r gathers the terms whose key is r: the rows' sums, weighed row by row, are the list's sum
  pub spread : {A : Type 0} (key : A → ℕ) (f : A → R) (z : ℕ → R) (n : ℕ) {l : List A} → All (λ a. key a < n) l
      → total 𝓡 (λ r. sum 𝓡 (λ a. only 𝓡 (eqb (key a) r) (f a)) l * z r) n ≡ sum 𝓡 (λ a. f a * z (key a)) l
  spread key f z n {l} h =
      total_same _ (λ r. sum 𝓡 (λ a. only 𝓡 (eqb (key a) r) (f a) * z r) l) n (λ r q. sum_mul _ (z r) l)
      ∙ exchange (λ a r. only 𝓡 (eqb (key a) r) (f a) * z r) l n
      ∙ sum_same _ (λ a. f a * z (key a)) h (λ a q. total_same _ _ n (λ r p. only_mul (eqb (key a) r) (f a) (z r)) ∙ total_one (λ r. f a * z r) (key a) n q)
