-- Formulas that are affine in the unknowns: the exact value is the derivative along the unknowns themselves, and a constant.
-- Main definitions: `Affine`, `Linear`, `Still`. Main results: `affine_plus` and its like, one for each way to make a formula. Assumes nothing.
use mathlib.Core.Path.{◌≡◌, refl, sym, ap, ap₂, ◌∙◌}
use mathlib.Core.Bool.{Bool, true, false}
use mathlib.Mathlib.Algebra.Ring.Defs.{CommRing}
use Prim.Native.Nat.{ℕ, zero, suc}
use lib.Dec.{eqb}
use lib.Ieee.{Float}
use Rattle.network.specs.declared.Field.{Field}
use Rattle.exact.specs.Ring.{total, only}
use Rattle.exact.proofs.Sums.{zero_add, add_zero, total_zero}
use Rattle.books.specs.Forms.{Place, Form, none}
use Rattle.books.specs.Forms.Form.{num, rd, var, minus, ◌⊕◌, ◌⊖◌, ◌⊗◌, ◌⊘◌}
use Rattle.books.specs.Manual.{Site, from, to}
use Rattle.books_residual.specs.Residual.{sum_to, given, across}
use Rattle.books_exact.specs.Exact.{World, Sound, exact_of, along}
use Rattle.books_exact.proofs.Laws.{mul_zero, neg_zero, units, ring}
use Rattle.books_exact.proofs.Slacks.{derivative}
use Rattle.books_exact.proofs.Branches.{incidence, ends_ring}

module _ {A : Type 0} (𝓡 : CommRing A) where
  open 𝓡 use {add as ◌+◌, mul as ◌*◌, neg as less, zero as 𝟘}

  infixl 65 ◌+◌
  infixl 70 ◌*◌
  over_ring : (x y : A) → 𝟘 * y + less (x * (𝟘 * y)) ≡ 𝟘
  over_ring x y = simp units

  still_ring : (x y : A) → 𝟘 * y + x * 𝟘 ≡ 𝟘
  still_ring x y = simp units

  plus_ring : (d k e l : A) → d + k + (e + l) ≡ d + e + (k + l)
  plus_ring d k e l = simp ring

  minus_ring : (d k e l : A) → d + k + less (e + l) ≡ d + less e + (k + less l)
  minus_ring d k e l = simp ring

  turned_ring : (d k : A) → less (d + k) ≡ less d + less k
  turned_ring d k = simp ring

  times_ring : (c x d k : A) → c * (d + k) ≡ 𝟘 * x + c * d + c * k
  times_ring c x d k = simp ring

  none_ring : 𝟘 + less 𝟘 ≡ 𝟘
  none_ring = simp units

module _ {A : Type 0} (𝓡 : CommRing A) (W : World A) where
  open 𝓡 use {add as ◌+◌, zero as 𝟘}

  infixl 65 ◌+◌
  -- its value is linear in the unknowns, and k
  pub record Affine (x : Form) (k : A) : Type 0 where
    pub value : exact_of 𝓡 W x ≡ derivative 𝓡 W W.unknown x + k

  abbrev pub Linear : Form → Type 0
  Linear x = Affine x 𝟘

  -- no unknown moves it
  pub record Still (x : Form) : Type 0 where
    pub holds : derivative 𝓡 W W.unknown x ≡ 𝟘

module _ {A : Type 0} {𝓡 : CommRing A} {W : World A} where
  open 𝓡 use {add as ◌+◌, mul as ◌*◌, neg as less, zero as 𝟘}

  infixl 65 ◌+◌
  infixl 70 ◌*◌
  pub still_rd : (f : Field) (i : ℕ) → Still 𝓡 W (rd f i)
  unfolding along
  still_rd f i = record { holds = refl }

  pub still_num : (x : Float) → Still 𝓡 W (num x)
  unfolding along
  still_num x = record { holds = refl }

  pub still_minus : {x : Form} → Still 𝓡 W x → Still 𝓡 W (minus x)
  unfolding along
  still_minus e = record { holds = ap less e.holds ∙ neg_zero 𝓡 }

  pub still_over : {x y : Form} → Still 𝓡 W x → Still 𝓡 W y → Still 𝓡 W (x ⊘ y)
  unfolding along
  still_over {x} {y} e f = record {
    holds =
        ap₂ (λ (d c : A). d * W.inverse (exact_of 𝓡 W y) + less (exact_of 𝓡 W x * W.inverse (exact_of 𝓡 W y) * (c * W.inverse (exact_of 𝓡 W y)))) e.holds f.holds
        ∙ over_ring 𝓡 _ _;
  }

  pub still_times : {x y : Form} → Still 𝓡 W x → Still 𝓡 W y → Still 𝓡 W (x ⊗ y)
  unfolding along
  still_times {x} {y} e f = record { holds = ap₂ (λ (d c : A). d * exact_of 𝓡 W y + exact_of 𝓡 W x * c) e.holds f.holds ∙ still_ring 𝓡 _ _ }

  pub affine_still : {x : Form} → Still 𝓡 W x → Affine 𝓡 W x (exact_of 𝓡 W x)
  affine_still {x} e = record { value = sym (ap (λ (d : A). d + exact_of 𝓡 W x) e.holds ∙ zero_add 𝓡 _) }

  pub affine_as : {x : Form} {k l : A} → Affine 𝓡 W x k → k ≡ l → Affine 𝓡 W x l
  affine_as {x} p e = record { value = p.value ∙ ap (λ (m : A). derivative 𝓡 W W.unknown x + m) e }

  pub linear_var : (p : Place) → Linear 𝓡 W (var p)
  unfolding along exact_of
  linear_var p = record { value = sym (add_zero 𝓡 _) }

  pub affine_rd : (f : Field) (i : ℕ) → Affine 𝓡 W (rd f i) (exact_of 𝓡 W (rd f i))
  affine_rd f i = affine_still (still_rd f i)

  pub affine_plus : {x y : Form} {k l : A} → Affine 𝓡 W x k → Affine 𝓡 W y l → Affine 𝓡 W (x ⊕ y) (k + l)
  unfolding along exact_of
  affine_plus {k = k} {l = l} p q = record { value = ap₂ ◌+◌ p.value q.value ∙ plus_ring 𝓡 _ k _ l }

  pub affine_minus : {x y : Form} {k l : A} → Affine 𝓡 W x k → Affine 𝓡 W y l → Affine 𝓡 W (x ⊖ y) (k + less l)
  unfolding along exact_of
  affine_minus {k = k} {l = l} p q = record { value = ap₂ (λ (a b : A). a + less b) p.value q.value ∙ minus_ring 𝓡 _ k _ l }

  pub affine_turned : {x : Form} {k : A} → Affine 𝓡 W x k → Affine 𝓡 W (minus x) (less k)
  unfolding along exact_of
  affine_turned {k = k} p = record { value = ap less p.value ∙ turned_ring 𝓡 _ k }

  -- a product whose first factor stands still
  pub affine_times : {c x : Form} {k : A} → Still 𝓡 W c → Affine 𝓡 W x k → Affine 𝓡 W (c ⊗ x) (exact_of 𝓡 W c * k)
  unfolding along exact_of
  affine_times {c} {x} {k} e p = record {
    value =
        ap (λ (m : A). exact_of 𝓡 W c * m) p.value
        ∙ times_ring 𝓡 (exact_of 𝓡 W c) (exact_of 𝓡 W x) (derivative 𝓡 W W.unknown x) k
        ∙ ap (λ (m : A). m * exact_of 𝓡 W x + exact_of 𝓡 W c * derivative 𝓡 W W.unknown x + exact_of 𝓡 W c * k) (sym e.holds);
  }

  pub linear_plus : {x y : Form} → Linear 𝓡 W x → Linear 𝓡 W y → Linear 𝓡 W (x ⊕ y)
  linear_plus p q = affine_as (affine_plus p q) (add_zero 𝓡 𝟘)

  pub linear_minus : {x y : Form} → Linear 𝓡 W x → Linear 𝓡 W y → Linear 𝓡 W (x ⊖ y)
  linear_minus p q = affine_as (affine_minus p q) (none_ring 𝓡)

  pub linear_turned : {x : Form} → Linear 𝓡 W x → Linear 𝓡 W (minus x)
  linear_turned p = affine_as (affine_turned p) (neg_zero 𝓡)

  pub linear_times : {c x : Form} → Still 𝓡 W c → Linear 𝓡 W x → Linear 𝓡 W (c ⊗ x)
  linear_times e p = affine_as (affine_times e p) (mul_zero 𝓡 _)

  -- ---- sums and tests in the residual

  module _ (h : Sound 𝓡 W) where
    pub linear_none : Linear 𝓡 W none
    unfolding along exact_of
    linear_none = record { value = h.nought_is ∙ sym (zero_add 𝓡 𝟘) }

    pub affine_sum : {f : ℕ → Form} {k : ℕ → A} → ((i : ℕ) → Affine 𝓡 W (f i) (k i)) → (n : ℕ) → Affine 𝓡 W (sum_to f n) (total 𝓡 k n)
    unfolding sum_to total
    affine_sum p zero = linear_none
    affine_sum p (suc n) = affine_plus (affine_sum p n) (p n)

    pub affine_given : (b : Bool) {x : Form} {k : A} → Affine 𝓡 W x k → Affine 𝓡 W (given b x) (only 𝓡 b k)
    unfolding only
    affine_given true p = p
    affine_given false p = linear_none

    pub linear_sum : {f : ℕ → Form} → ((i : ℕ) → Linear 𝓡 W (f i)) → (n : ℕ) → Linear 𝓡 W (sum_to f n)
    linear_sum p n = affine_as (affine_sum p n) (total_zero 𝓡 n)

    pub linear_given : (b : Bool) {x : Form} → Linear 𝓡 W x → Linear 𝓡 W (given b x)
    linear_given true p = p
    linear_given false p = linear_none

    module _ (s : Site) where
      pub affine_across : {x : ℕ → Form} {k : ℕ → A} → ((e : ℕ) → Affine 𝓡 W (x e) (k e)) → (i : ℕ)
          → Affine 𝓡 W (across s x i) (total 𝓡 (λ e. incidence 𝓡 W s e i * k e) s.counts.branches)
      affine_across {x} {k} p i =
          affine_sum
          (λ e. affine_as (affine_plus (affine_given (eqb (from s e) i) (p e)) (affine_given (eqb (to s e) i) (affine_turned (p e)))) (ends_ring 𝓡 W s (eqb (from s e) i) (eqb (to s e) i) (k e)))
          s.counts.branches

      pub linear_across : {x : ℕ → Form} → ((e : ℕ) → Linear 𝓡 W (x e)) → (i : ℕ) → Linear 𝓡 W (across s x i)
      linear_across p i =
          linear_sum (λ e. linear_plus (linear_given (eqb (from s e) i) (p e)) (linear_given (eqb (to s e) i) (linear_turned (p e)))) s.counts.branches
