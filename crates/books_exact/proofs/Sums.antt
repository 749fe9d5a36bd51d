-- More laws of finite sums in a commutative ring: over appended lists and loops, of products, of one index, and of one place among stretches laid end to end.
-- Main results: `sum_append`, `sum_each`, `total_swap`, `total_point`, `total_flat`. Assumes nothing.
use mathlib.Core.Path.{◌≡◌, refl, sym, ap, ap₂, ◌∙◌}
use mathlib.Core.Bool.{Bool, true, false, cond, ◌&&◌}
use mathlib.Core.List.{List, [], ◌∷◌, ◌++◌}
use mathlib.Mathlib.Algebra.Ring.Defs.{CommRing}
use Prim.Native.Nat.{ℕ, zero, suc, ◌+◌ as ◌plus◌, ◌<◌}
use native.Mathlib.Omega.{arith}
use native.Mathlib.Decide.{ℕ_discrete}
use lib.Dec.{eqb}
use borrow.Author.Tests.{eq-eqb, ne_eqb}
use Rattle.sequence.specs.Lists.{before, each, when}
use Rattle.sequence.proofs.Lists.{before_apart}
use Rattle.exact.specs.Ring.{sum, total, only}
use Rattle.exact.proofs.Sums.{add_assoc, zero_add, add_zero, add_mul, zero_mul, total_same, total_zero, total_add}
use Rattle.books_exact.proofs.Laws.{neg_zero, neg_add, mul_add, mul_zero, one_mul, ring}

pub eqb_own : (k : ℕ) → eqb k k ≡ true
eqb_own k = eq-eqb k k refl

module _ {R : Type 0} (𝓡 : CommRing R) where
  open 𝓡 use {add as ◌+◌, mul as ◌*◌, neg as less, zero as 𝟘, one as 𝟙}

  infixl 65 ◌+◌
  infixl 70 ◌*◌
  -- ---- sums over a list

  module _ {A : Type 0} (f : A → R) where
    pub sum_append : (k l : List A) → sum 𝓡 f (k ++ l) ≡ sum 𝓡 f k + sum 𝓡 f l
    unfolding sum
    sum_append [] l = sym (zero_add 𝓡 _)
    sum_append (a ∷ k) l = ap (λ (v : R). f a + v) (sum_append k l) ∙ sym (add_assoc 𝓡 (f a) (sum 𝓡 f k) (sum 𝓡 f l))

    pub sum_each : (n : ℕ) (g : ℕ → List A) → sum 𝓡 f (each n g) ≡ total 𝓡 (λ i. sum 𝓡 f (g i)) n
    unfolding sum each total
    sum_each zero g = refl
    sum_each (suc n) g = sum_append (each n g) (g n) ∙ ap (λ (v : R). v + sum 𝓡 f (g n)) (sum_each n g)

    pub sum_one : (a : A) → sum 𝓡 f (a ∷ []) ≡ f a
    unfolding sum
    sum_one a = add_zero 𝓡 (f a)

    -- a loop with one element a turn
    pub sum_singles : (n : ℕ) (g : ℕ → A) → sum 𝓡 f (each n (λ i. g i ∷ [])) ≡ total 𝓡 (λ i. f (g i)) n
    sum_singles n g = sum_each n (λ i. g i ∷ []) ∙ total_same 𝓡 _ _ n (λ i l. sum_one (g i))

    pub sum_alike : (g : A → R) → ((a : A) → f a ≡ g a) → (l : List A) → sum 𝓡 f l ≡ sum 𝓡 g l
    unfolding sum
    sum_alike g h [] = refl
    sum_alike g h (a ∷ l) = ap₂ ◌+◌ (h a) (sum_alike g h l)

    pub sum_when : (b : Bool) (l : List A) → sum 𝓡 f (when b l) ≡ only 𝓡 b (sum 𝓡 f l)
    unfolding sum when only
    sum_when true l = refl
    sum_when false l = refl

  -- ---- tests

  -- a test as 1 or 0
  pub mark : Bool → R
  mark b = only 𝓡 b 𝟙

  pub only_mark : (b : Bool) (x : R) → only 𝓡 b x ≡ mark b * x
  unfolding only mark
  only_mark true x = sym (one_mul 𝓡 x)
  only_mark false x = sym (zero_mul 𝓡 x)

  pub mark_both : (p q : Bool) (x : R) → only 𝓡 (cond p q false) x ≡ mark p * mark q * x
  unfolding only mark
  mark_both true true x = simp ring
  mark_both true false x = simp ring
  mark_both false q x = simp ring

  pub only_off : (b : Bool) (x : R) → b ≡ false → only 𝓡 b x ≡ 𝟘
  unfolding only
  only_off b x e = rw e

  pub only_on : (b : Bool) (x : R) → b ≡ true → only 𝓡 b x ≡ x
  unfolding only
  only_on b x e = rw e

  pub only_neg : (b : Bool) (x : R) → only 𝓡 b (less x) ≡ less (only 𝓡 b x)
  unfolding only
  only_neg true x = refl
  only_neg false x = sym (neg_zero 𝓡)

  pub only_both : (a b : Bool) (x : R) → only 𝓡 (a && b) x ≡ only 𝓡 a (only 𝓡 b x)
  unfolding only
  only_both true b x = refl
  only_both false b x = refl

  -- ---- sums over a loop

  pub total_none : (f : ℕ → R) (n : ℕ) → ((r : ℕ) → r < n → f r ≡ 𝟘) → total 𝓡 f n ≡ 𝟘
  total_none f n h = total_same 𝓡 f (λ r. 𝟘) n h ∙ total_zero 𝓡 n

  pub total_mul : (f : ℕ → R) (z : R) (n : ℕ) → total 𝓡 f n * z ≡ total 𝓡 (λ r. f r * z) n
  unfolding total
  total_mul f z zero = zero_mul 𝓡 z
  total_mul f z (suc n) = add_mul 𝓡 (total 𝓡 f n) (f n) z ∙ ap (λ (v : R). v + f n * z) (total_mul f z n)

  pub mul_total : (z : R) (f : ℕ → R) (n : ℕ) → z * total 𝓡 f n ≡ total 𝓡 (λ r. z * f r) n
  unfolding total
  mul_total z f zero = mul_zero 𝓡 z
  mul_total z f (suc n) = mul_add 𝓡 z (total 𝓡 f n) (f n) ∙ ap (λ (v : R). v + z * f n) (mul_total z f n)

  pub total_neg : (f : ℕ → R) (n : ℕ) → less (total 𝓡 f n) ≡ total 𝓡 (λ r. less (f r)) n
  unfolding total
  total_neg f zero = neg_zero 𝓡
  total_neg f (suc n) = neg_add 𝓡 (total 𝓡 f n) (f n) ∙ ap (λ (v : R). v + less (f n)) (total_neg f n)

  pub total_only : (b : Bool) (f : ℕ → R) (n : ℕ) → total 𝓡 (λ r. only 𝓡 b (f r)) n ≡ only 𝓡 b (total 𝓡 f n)
  unfolding only
  total_only true f n = refl
  total_only false f n = total_zero 𝓡 n

  pub total_swap : (f : ℕ → ℕ → R) (m n : ℕ) → total 𝓡 (λ i. total 𝓡 (f i) n) m ≡ total 𝓡 (λ e. total 𝓡 (λ i. f i e) m) n
  unfolding total
  total_swap f zero n = sym (total_zero 𝓡 n)
  total_swap f (suc m) n =
      ap (λ (v : R). v + total 𝓡 (f m) n) (total_swap f m n) ∙ sym (total_add 𝓡 (λ e. total 𝓡 (λ i. f i e) m) (f m) n)

  -- of the turns only turn k counts
  pub total_at : (f : ℕ → R) (k n : ℕ) → k < n → ((r : ℕ) → r < n → (r ≡ k → ⊥) → f r ≡ 𝟘) → total 𝓡 f n ≡ f k
  unfolding total
  total_at f k zero l h = let z : ⊥ = omega arith in absurd z
  total_at f k (suc n) l h = go (ℕ_discrete n k) (λ m. total_at f k n m (λ r p d. h r (omega arith) d))
    where
      go : Dec (n ≡ k) → (k < n → total 𝓡 f n ≡ f k) → total 𝓡 f n + f n ≡ f k
      go (yes e) ih = ap₂ ◌+◌ (total_none f n (λ r p. h r (omega arith) (λ d. omega arith))) (ap f e) ∙ zero_add 𝓡 (f k)
      go (no d) ih = ap₂ ◌+◌ (ih (omega arith)) (h n (omega arith) d) ∙ add_zero 𝓡 (f k)

  pub total_point : (f : ℕ → R) (k n : ℕ) → k < n → total 𝓡 (λ r. only 𝓡 (eqb r k) (f r)) n ≡ f k
  unfolding only
  total_point f k n l = total_at _ k n l (λ r p d. rw (ne_eqb r k d)) ∙ rw (eqb_own k)

  -- stretches of w 0, w 1, .. turns laid end to end: of all places only that of stretch j's turn t counts
  pub total_flat : (w : ℕ → ℕ) (f : ℕ → ℕ → R) (j t n : ℕ) → j < n → t < w j
      → total 𝓡 (λ i. total 𝓡 (λ u. only 𝓡 (eqb (before w i plus u) (before w j plus t)) (f i u)) (w i)) n ≡ f j t
  unfolding only
  total_flat w f j t n l m =
      total_at _ j n l (λ i p d. total_none _ (w i) (λ u q. rw (ne_eqb (before w i plus u) (before w j plus t) (λ e. d (before_apart w i j u t q m e).0))))
      ∙ total_at _ t (w j) m (λ u q d. rw (ne_eqb (before w j plus u) (before w j plus t) (λ e. d (omega arith))))
      ∙ rw (eqb_own (before w j plus t))
