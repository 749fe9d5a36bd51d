-- Structural differentiation is differentiation: the rate of a formula is worth its derivative along the direction, whatever the formula and the direction.
-- Main result: `rate_is_derivative`. Assumes nothing.
use mathlib.Core.Path.{◌≡◌, refl, sym, ap, ap₂, ◌∙◌}
use mathlib.Core.Bool.{Bool, true, false, cond}
use mathlib.Mathlib.Algebra.Ring.Defs.{CommRing}
use Rattle.books.specs.Forms.{Form}
use Rattle.books.specs.Forms.Form.{num, rd, var, minus, positive, ◌⊕◌, ◌⊖◌, ◌⊗◌, ◌⊘◌, if_positive}
use Rattle.books_residual.specs.Rates.{Rate, rate, form_of, turned, plus, less, times_left, times_right, over, gated}
use Rattle.books_residual.specs.Rates.Rate.{still, same, by}
use Rattle.exact.proofs.Sums.{zero_add, add_zero}
use Rattle.books_exact.specs.Exact.{World, Sound, exact_of, along}
use Rattle.books_exact.specs.Derivatives.{RateIsDerivative}
use Rattle.books_exact.proofs.Laws.{units}

module _ {A : Type 0} (𝓡 : CommRing A) (W : World A) (h : Sound 𝓡 W) where
  open 𝓡 use {add as ◌+◌, mul as ◌*◌, neg as negative, zero as 𝟘, one as 𝟙}

  infixl 65 ◌+◌
  infixl 70 ◌*◌
  -- what a rate is worth
  abbrev worth : Rate → A
  worth r = exact_of 𝓡 W (form_of r)

  turned_worth : (r : Rate) → negative (worth r) ≡ worth (turned r)
  unfolding exact_of
  turned_worth still = simp (h.nought_is, units)
  turned_worth same = refl
  turned_worth (by x) = refl

  plus_worth : (r q : Rate) → worth r + worth q ≡ worth (plus r q)
  unfolding exact_of
  plus_worth still q = rw h.nought_is (zero_add 𝓡 _)
  plus_worth same still = rw h.nought_is (add_zero 𝓡 _)
  plus_worth same same = refl
  plus_worth same (by y) = refl
  plus_worth (by x) still = rw h.nought_is (add_zero 𝓡 _)
  plus_worth (by x) same = refl
  plus_worth (by x) (by y) = refl

  less_worth : (r q : Rate) → worth r + negative (worth q) ≡ worth (less r q)
  unfolding exact_of
  less_worth still q = ap (λ (x : A). x + negative (worth q)) h.nought_is ∙ zero_add 𝓡 _ ∙ turned_worth q
  less_worth same still = simp (h.nought_is, units)
  less_worth same same = refl
  less_worth same (by y) = refl
  less_worth (by x) still = simp (h.nought_is, units)
  less_worth (by x) same = refl
  less_worth (by x) (by y) = refl

  left_worth : (r : Rate) (b : Form) → worth r * exact_of 𝓡 W b ≡ worth (times_left r b)
  unfolding exact_of
  left_worth still b = simp (h.nought_is, units)
  left_worth same b = simp (h.one_is, units)
  left_worth (by x) b = refl

  right_worth : (a : Form) (r : Rate) → exact_of 𝓡 W a * worth r ≡ worth (times_right a r)
  unfolding exact_of
  right_worth a still = simp (h.nought_is, units)
  right_worth a same = simp (h.one_is, units)
  right_worth a (by x) = refl

  over_worth : (r : Rate) (b : Form) → worth r * W.inverse (exact_of 𝓡 W b) ≡ worth (over r b)
  unfolding exact_of
  over_worth still b = simp (h.nought_is, units)
  over_worth same b = refl
  over_worth (by x) b = refl

  gated_worth : (t : Form) (r : Rate) → cond (W.above (exact_of 𝓡 W t)) (worth r) 𝟘 ≡ worth (gated t r)
  unfolding exact_of
  gated_worth t still = go (W.above (exact_of 𝓡 W t))
    where
      go : (b : Bool) → cond b (worth still) 𝟘 ≡ worth still
      go true = refl
      go false = sym h.nought_is
  gated_worth t same = refl
  gated_worth t (by x) = refl

  pub rate_is_derivative : RateIsDerivative 𝓡 W
  unfolding exact_of along rate
  rate_is_derivative D (num x) = sym h.nought_is
  rate_is_derivative D (rd f i) = refl
  rate_is_derivative D (var p) = sym h.nought_is
  rate_is_derivative D (minus x) = ap negative (rate_is_derivative D x) ∙ turned_worth (rate D x)
  rate_is_derivative D (positive x) = ap (λ (v : A). cond (W.above (exact_of 𝓡 W x)) v 𝟘) (rate_is_derivative D x) ∙ gated_worth x (rate D x)
  rate_is_derivative D (x ⊕ y) = ap₂ ◌+◌ (rate_is_derivative D x) (rate_is_derivative D y) ∙ plus_worth (rate D x) (rate D y)
  rate_is_derivative D (x ⊖ y) = ap₂ ◌+◌ (rate_is_derivative D x) (ap negative (rate_is_derivative D y)) ∙ less_worth (rate D x) (rate D y)
  rate_is_derivative D (x ⊗ y) =
      ap₂ ◌+◌ (ap (λ (v : A). v * exact_of 𝓡 W y) (rate_is_derivative D x) ∙ left_worth (rate D x) y)
      (ap (λ (v : A). exact_of 𝓡 W x * v) (rate_is_derivative D y) ∙ right_worth x (rate D y))
      ∙ plus_worth (times_left (rate D x) y) (times_right x (rate D y))
  rate_is_derivative D (x ⊘ y) =
      ap₂ ◌+◌ (ap (λ (v : A). v * W.inverse (exact_of 𝓡 W y)) (rate_is_derivative D x) ∙ over_worth (rate D x) y)
      (ap (λ (v : A). negative (exact_of 𝓡 W (x ⊘ y) * v))
      (ap (λ (v : A). v * W.inverse (exact_of 𝓡 W y)) (rate_is_derivative D y) ∙ over_worth (rate D y) y)
      ∙ ap negative (right_worth (x ⊘ y) (over (rate D y) y)))
      ∙ less_worth (over (rate D x) y) (times_right (x ⊘ y) (over (rate D y) y))
  rate_is_derivative D (if_positive t x) =
      ap (λ (v : A). cond (W.above (exact_of 𝓡 W t)) v 𝟘) (rate_is_derivative D x) ∙ gated_worth t (rate D x)
