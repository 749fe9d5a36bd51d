-- Sums of counts: monotone, additive, exchanged, and of a test that passes at one place at most.
-- Main results: `sum_mono`, `sum_swap`, `sum_point`, `spread`. Assumes nothing.
use mathlib.Core.Path.{◌≡◌, refl, sym, ◌∙◌}
use mathlib.Core.Bool.{Bool, true, false}
use Prim.Native.Nat.{ℕ, zero, suc, ◌+◌, ◌*◌, ◌<◌, ◌≤◌}
use native.Mathlib.Omega.{arith}
use lib.Dec.{T, eqb, eqb→eq}
use Rattle.sequence.specs.Lists.{before}

abbrev pub bit : Bool → ℕ
bit true = 1
bit false = 0

pub bit_le : (b : Bool) → bit b ≤ 1
bit_le true = omega arith
bit_le false = omega arith

pub sum_mono : (n : ℕ) (f g : ℕ → ℕ) → ((i : ℕ) → i < n → f i ≤ g i) → before f n ≤ before g n
unfolding before
sum_mono zero f g h = omega arith
sum_mono (suc n) f g h = omega (arith, sum_mono n f g (λ i l. h i (omega arith)), h n (omega arith))

pub sum_add : (n : ℕ) (f g : ℕ → ℕ) → before (λ i. f i + g i) n ≡ before f n + before g n
unfolding before
sum_add zero f g = refl
sum_add (suc n) f g = omega (arith, sum_add n f g)

pub sum_times : (n a : ℕ) (f : ℕ → ℕ) → before (λ i. a * f i) n ≡ a * before f n
unfolding before
sum_times zero a f = omega arith
sum_times (suc n) a f = omega (arith, sum_times n a f)

pub sum_const : (n a : ℕ) → before (λ i. a) n ≡ a * n
unfolding before
sum_const zero a = omega arith
sum_const (suc n) a = omega (arith, sum_const n a)

pub sum_swap : (n m : ℕ) (f : ℕ → ℕ → ℕ) → before (λ i. before (f i) m) n ≡ before (λ e. before (λ i. f i e) n) m
unfolding before
sum_swap zero m f = sym (sum_const m 0 ∙ omega arith)
sum_swap (suc n) m f = omega (arith, sum_swap n m f, sum_add m (λ e. before (λ i. f i e) n) (f n))

-- each of n terms is at most a
pub sum_le : (n a : ℕ) (f : ℕ → ℕ) → ((i : ℕ) → i < n → f i ≤ a) → before f n ≤ a * n
sum_le n a f h = omega (arith, sum_mono n f (λ i. a) h, sum_const n a)

-- a test that passes at a only
module _ (a : ℕ) (t : ℕ → Bool) (only : (i : ℕ) → T (t i) → i ≡ a) where
  sum_none : (n : ℕ) → n ≤ a → before (λ i. bit (t i)) n ≡ 0
  unfolding before
  sum_none zero h = refl
  sum_none (suc n) h = omega (arith, sum_none n (omega arith), go (t n) (only n))
    where
      go : (b : Bool) → (T b → n ≡ a) → bit b ≡ 0
      go true f = absurd (omega (arith, f tt))
      go false f = refl

  pub sum_point : (n : ℕ) → before (λ i. bit (t i)) n ≤ 1
  unfolding before
  sum_point zero = omega arith
  sum_point (suc n) = go (t n) (only n) (sum_point n) (sum_none n)
    where
      go : (b : Bool) → (T b → n ≡ a) → before (λ i. bit (t i)) n ≤ 1 → (n ≤ a → before (λ i. bit (t i)) n ≡ 0) → before (λ i. bit (t i)) n + bit b ≤ 1
      go true f ih z = omega (arith, z (omega (arith, f tt)))
      go false f ih z = omega arith

-- f sends each of m numbers to one j: over all j that is m at most
pub spread : (n m : ℕ) (f : ℕ → ℕ) → before (λ j. before (λ e. bit (eqb (f e) j)) m) n ≤ m
spread n m f =
    omega (
      arith,
      sum_swap n m (λ j e. bit (eqb (f e) j)),
      sum_le m 1 (λ e. before (λ j. bit (eqb (f e) j)) n) (λ e h. sum_point (f e) (λ j. eqb (f e) j) (λ j t. sym (eqb→eq (f e) j t)) n),
    )
