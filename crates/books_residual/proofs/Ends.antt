-- A sum over branches of which one moves, at a bus: the branch's rate at its from end, less it at its to end. What two touches leave there, and the signs of a branch's two ends.
-- Main results: `end_rate`, `across_rate`, `ends_word`, `ends_less`, `turned_two`, `turned_three`. Assumes nothing.
use mathlib.Core.Path.{◌≡◌, refl, sym, ap, ◌∙◌}
use mathlib.Core.Bool.{Bool, true, false, cond}
use Prim.Native.Nat.{ℕ, zero, suc, ◌<◌}
use native.Mathlib.Omega.{arith}
use native.Mathlib.Decide.{ℕ_discrete}
use lib.Dec.{T, eqb}
use lib.Ieee.{Float, binary64, neg, add, sub, fits}
use lib.Ieee.Fits.{neg-fits}
use Rattle.float64.specs.Values.{nought}
use Rattle.float64.proofs.Signs.{neg_neg}
use Rattle.books.specs.Forms.{Form, Alike}
use Rattle.books.specs.Forms.Form.{minus, ◌⊕◌}
use Rattle.books.specs.Manual.{Site, from, to}
use Rattle.books_residual.specs.Residual.{sum_to, given, ends, across}
use Rattle.books_residual.specs.Rates.{Rate, Direction, rate, plus, turned, form_of}
use Rattle.books_residual.specs.Rates.Rate.{still, same, by}
use Rattle.books_residual.proofs.Doubles.{plus_left, plus_right, nought_plus, neg_add}
use Rattle.books_residual.proofs.Setting.{Given, worth}

-- ---- sums

pub plus_still : (x : Rate) → plus x still ≡ x
plus_still still = refl
plus_still same = refl
plus_still (by x) = refl

-- whether a bus is the branch's from end, and its to end
abbrev pub end_rate : Bool → Bool → Form → Rate
end_rate true true v = by (v ⊕ minus v)
end_rate true false v = by v
end_rate false true v = by (minus v)
end_rate false false v = still

module _ (D : Direction) where
  none_moves : (f : ℕ → Form) (n : ℕ) → ((i : ℕ) → i < n → rate D (f i) ≡ still) → rate D (sum_to f n) ≡ still
  unfolding rate sum_to
  none_moves f zero h = refl
  none_moves f (suc n) h = rw (none_moves f n (λ i l. h i (omega arith)), h n (omega arith))

  only_one : (f : ℕ → Form) (e n : ℕ) → e < n → ((i : ℕ) → i < n → (i ≡ e → ⊥) → rate D (f i) ≡ still) → rate D (sum_to f n) ≡ rate D (f e)
  unfolding rate sum_to
  only_one f e zero l h = let o : ⊥ = omega arith in absurd o
  only_one f e (suc n) l h = go (ℕ_discrete e n) (λ k. only_one f e n k (λ i m d. h i (omega arith) d))
    where
      go : Dec (e ≡ n) → (e < n → rate D (sum_to f n) ≡ rate D (f e)) → plus (rate D (sum_to f n)) (rate D (f n)) ≡ rate D (f e)
      go (yes q) ih = rw (none_moves f n (λ i m. h i (omega arith) (λ s. omega arith))) (ap (λ (x : ℕ). rate D (f x)) (sym q))
      go (no d) ih = rw (ih (omega arith), h n (omega arith) (λ s. d (sym s))) (plus_still (rate D (f e)))

  -- ---- a bus's two tests of a branch

  still_given : (b : Bool) (x : Form) → rate D x ≡ still → rate D (given b x) ≡ still
  unfolding rate
  still_given true x h = h
  still_given false x h = refl

  two_ends : (a b : Bool) (x v : Form) → rate D x ≡ by v → rate D (given a x ⊕ given b (minus x)) ≡ end_rate a b v
  unfolding rate
  two_ends true true x v h = rw h
  two_ends true false x v h = rw h
  two_ends false true x v h = rw h
  two_ends false false x v h = refl

  module _ (s : Site) where
    -- the branch that moves, at a bus
    ends_rate : (x : ℕ → Form) (v : Form) (e j : ℕ) → rate D (x e) ≡ by v → rate D (ends s x j e) ≡ end_rate (eqb (from s e) j) (eqb (to s e) j) v
    ends_rate x v e j own = two_ends (eqb (from s e) j) (eqb (to s e) j) (x e) v own

    -- another
    ends_still : (x : ℕ → Form) (i j : ℕ) → rate D (x i) ≡ still → rate D (ends s x j i) ≡ still
    unfolding rate
    ends_still x i j h = rw (still_given (eqb (from s i) j) (x i) h, still_given (eqb (to s i) j) (minus (x i)) (ap turned h))

    pub across_rate : (x : ℕ → Form) (v : Form) (e j : ℕ) → e < s.counts.branches → rate D (x e) ≡ by v → ((i : ℕ) → (i ≡ e → ⊥) → rate D (x i) ≡ still)
        → rate D (across s x j) ≡ end_rate (eqb (from s e) j) (eqb (to s e) j) v
    across_rate x v e j l own other =
        only_one (ends s x j) e s.counts.branches l (λ i m d. ends_still x i j (other i d)) ∙ ends_rate x v e j own

-- ---- what two touches leave

module _ (z : Given) where
  pub ends_word : (a b : Bool) (v : Form) (x y : Float) → worth z v ≡ x → T (fits binary64 x) → T (fits binary64 y) → Alike y (neg x)
      → Alike (cond b (add binary64 (cond a (add binary64 nought x) nought) y) (cond a (add binary64 nought x) nought)) (worth z (form_of (end_rate a b v)))
  ends_word true true v x y e f g h =
      rw e (plus_left (add binary64 nought x) x y g (nought_plus x f) ∙ plus_right x y (neg x) f h)
  ends_word true false v x y e f g h = rw e (nought_plus x f)
  ends_word false true v x y e f g h = rw e (nought_plus y g ∙ h)
  ends_word false false v x y e f g h = refl

  -- added at the from end, taken away at the to end
  pub ends_less : (a b : Bool) (v : Form) (x : Float) → worth z v ≡ x → T (fits binary64 x)
      → Alike (cond b (sub binary64 (cond a (add binary64 nought x) nought) x) (cond a (add binary64 nought x) nought)) (worth z (form_of (end_rate a b v)))
  unfolding sub
  ends_less a b v x e f = ends_word a b v x (neg x) e f (neg-fits binary64 x f) refl

-- ---- the negative of a branch's pull

-- p + n is −(−p − n)
pub turned_two : (p n : Float) → Alike (add binary64 p n) (neg (sub binary64 (neg p) n))
unfolding sub
turned_two p n =
    let h : Alike (neg (add binary64 (neg p) (neg n))) (add binary64 (neg (neg p)) (neg (neg n))) = neg_add (neg p) (neg n) in
    sym (rw (neg_neg p, neg_neg n) at h)

-- p + n − g is −(−p − n + g)
pub turned_three : (p n g : Float) → T (fits binary64 g) → Alike (sub binary64 (add binary64 p n) g) (neg (add binary64 (sub binary64 (neg p) n) g))
unfolding sub
turned_three p n g h =
    plus_left (add binary64 p n) (neg (sub binary64 (neg p) n)) (neg g) (neg-fits binary64 g h) (turned_two p n)
    ∙ sym (neg_add (sub binary64 (neg p) n) g)
