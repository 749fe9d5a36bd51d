-- Sums with a zero of either sign: a value that is no zero is left by it, two zeros make a zero.
-- So two sums that differ only in zeros that one of them skips are alike: one value, or two zeros.
-- Main results: `SameOrZeros`, `alike_add`, `alike_sub`, `alike_skip_add`, `alike_skip_sub`, `alike_neg`. Assumes nothing.
use mathlib.Core.Path.{◌≡◌, refl, sym, ap, ◌∙◌}
use mathlib.Core.Bool.{Bool, true, false, not, beq, ◌&&◌, ◌||◌}
use Prim.Native.Nat.{ℕ, zero, suc, ◌+◌, ◌-◌, ◌*◌, ◌<◌}
use native.Mathlib.Nat.{mul-pos, mul_assoc, mul_comm, zero-lt-suc}
use native.Mathlib.Omega.{arith}
use lib.IntN.{ℤ}
use lib.Dec.{T, ltb, eqb}
use lib.Ieee.{Float, nan, inf, fin, binary64, up, down, neg, add, sub, sum, eq, fits, round, of_bits}
use lib.Ieee.Fits.{up_pos, down_pos, neg-fits}
use lib.Ieee.Scale.{round_same}
use borrow.Author.Tests.{lt-ltb, le-ltb, ne_eqb}
use Rattle.float64.specs.Values.{nought}
use Rattle.float64.proofs.Signs.{round_back}
use Rattle.float64.proofs.Zeros.{zero_level}
use Rattle.sequence.proofs.Lists.{never}

-- ---- which values are zeros

level_other : (s : Bool) (a b : ℕ) → 0 < a → b ≡ 0 → eqb a b && (beq s false || eqb a 0) ≡ false
level_other s a b p q = rw (ne_eqb a b (λ e. absurd (omega arith)))

is_zero : (s : Bool) (e : ℤ) → eq (fin s 0 e) nought ≡ true
unfolding eq of_bits
is_zero s e = zero_level s (0 * up e * 1) (0 * down e) (omega arith) (omega arith)

no_zero : (s : Bool) (m : ℕ) (e : ℤ) → eq (fin s (suc m) e) nought ≡ false
unfolding eq of_bits
no_zero s m e =
    let h : 0 < suc m * up e = mul-pos (zero-lt-suc m) (up_pos e) in
    level_other s (suc m * up e * 1) (0 * down e) (omega arith) (omega arith)

-- ---- a value that is no zero is left by a zero

-- its own rounding, in the terms in which a sum with a zero has it
own : (s t : Bool) (m : ℕ) (e d : ℤ) (a b : ℕ) → s ≡ t → a ≡ m * up e * down d → b ≡ down e * down d → T (fits binary64 (fin t m e)) → round binary64 s a b ≡ fin t m e
own s t m e d a b o p q h =
    rw (o, p, q)
    (round_same binary64 t (m * up e * down d) (down e * down d) (m * up e) (down e) (mul-pos (down_pos e) (down_pos d)) (down_pos e)
    (mul_assoc (m * up e) (down d) (down e) ∙ ap (λ (x : ℕ). m * up e * x) (mul_comm (down d) (down e)))
    ∙ round_back binary64 t m e h)

above : (m : ℕ) (e d : ℤ) → 0 < suc m * up e * down d
above m e d = mul-pos (mul-pos (zero-lt-suc m) (up_pos e)) (down_pos d)

fin_zero : (s t : Bool) (m : ℕ) (e d : ℤ) → T (fits binary64 (fin s (suc m) e)) → add binary64 (fin s (suc m) e) (fin t 0 d) ≡ fin s (suc m) e
unfolding add sum
fin_zero true true m e d h = own true true (suc m) e d (suc m * up e * down d + 0 * up d * down e) (down e * down d) refl (omega arith) refl h
fin_zero false false m e d h = own false false (suc m) e d (suc m * up e * down d + 0 * up d * down e) (down e * down d) refl (omega arith) refl h
fin_zero true false m e d h =
    rw (le-ltb (suc m * up e * down d) (0 * up d * down e) (omega arith), lt-ltb (0 * up d * down e) (suc m * up e * down d) (omega (arith, above m e d)))
    (own true true (suc m) e d (suc m * up e * down d - 0 * up d * down e) (down e * down d) refl (omega arith) refl h)
fin_zero false true m e d h =
    rw (le-ltb (suc m * up e * down d) (0 * up d * down e) (omega arith))
    (own false false (suc m) e d (suc m * up e * down d - 0 * up d * down e) (down e * down d) refl (omega arith) refl h)

zero_fin : (s t : Bool) (m : ℕ) (e d : ℤ) → T (fits binary64 (fin t (suc m) e)) → add binary64 (fin s 0 d) (fin t (suc m) e) ≡ fin t (suc m) e
unfolding add sum
zero_fin true true m e d h = own true true (suc m) e d (0 * up d * down e + suc m * up e * down d) (down d * down e) refl (omega arith) (mul_comm (down d) (down e)) h
zero_fin false false m e d h = own false false (suc m) e d (0 * up d * down e + suc m * up e * down d) (down d * down e) refl (omega arith) (mul_comm (down d) (down e)) h
zero_fin true false m e d h =
    rw (lt-ltb (0 * up d * down e) (suc m * up e * down d) (omega (arith, above m e d)))
    (own false false (suc m) e d (suc m * up e * down d - 0 * up d * down e) (down d * down e) refl (omega arith) (mul_comm (down d) (down e)) h)
zero_fin false true m e d h =
    rw (lt-ltb (0 * up d * down e) (suc m * up e * down d) (omega (arith, above m e d)))
    (own true true (suc m) e d (suc m * up e * down d - 0 * up d * down e) (down d * down e) refl (omega arith) (mul_comm (down d) (down e)) h)

-- ---- two zeros make a zero

one_none : (s : Bool) → eq (round binary64 s 0 1) nought ≡ true
unfolding round eq of_bits
one_none true = refl
one_none false = refl

pub round_none : (s : Bool) (a c : ℕ) → a ≡ 0 → 0 < c → eq (round binary64 s a c) nought ≡ true
round_none s a c e h =
    rw (e, round_same binary64 s 0 c 0 1 h (omega arith) (omega arith)) (one_none s)

zero_zero : (s t : Bool) (e d : ℤ) → eq (add binary64 (fin s 0 e) (fin t 0 d)) nought ≡ true
unfolding add sum
zero_zero true true e d = round_none true (0 * up e * down d + 0 * up d * down e) (down e * down d) (omega arith) (mul-pos (down_pos e) (down_pos d))
zero_zero false false e d = round_none false (0 * up e * down d + 0 * up d * down e) (down e * down d) (omega arith) (mul-pos (down_pos e) (down_pos d))
zero_zero true false e d =
    rw (le-ltb (0 * up e * down d) (0 * up d * down e) (omega arith))
    (round_none (ltb (0 * up d * down e) (0 * up e * down d)) (0 * up e * down d - 0 * up d * down e) (down e * down d) (omega arith) (mul-pos (down_pos e) (down_pos d)))
zero_zero false true e d =
    rw (le-ltb (0 * up e * down d) (0 * up d * down e) (omega arith))
    (round_none false (0 * up e * down d - 0 * up d * down e) (down e * down d) (omega arith) (mul-pos (down_pos e) (down_pos d)))

-- ---- for any values

data Zero : Float → Type 0 where
  a_zero : {s : Bool} {e : ℤ} → Zero (fin s 0 e)

zero_of : (z : Float) → eq z nought ≡ true → Zero z
unfolding eq of_bits
zero_of nan q = never q
zero_of (inf s) q = never q
zero_of (fin s zero e) q = a_zero
zero_of (fin s (suc m) e) q = never (sym (no_zero s m e) ∙ q)

add_none : (x z : Float) → T (fits binary64 x) → eq x nought ≡ false → Zero z → add binary64 x z ≡ x
unfolding add
add_none nan z h k q = refl
add_none (inf s) z h k a_zero = refl
add_none (fin s zero e) z h k q = never (sym k ∙ is_zero s e)
add_none (fin s (suc m) e) z h k (a_zero {s = t} {e = d}) = fin_zero s t m e d h

none_add : (z x : Float) → T (fits binary64 x) → eq x nought ≡ false → Zero z → add binary64 z x ≡ x
unfolding add
none_add z nan h k a_zero = refl
none_add z (inf s) h k a_zero = refl
none_add z (fin s zero e) h k q = never (sym k ∙ is_zero s e)
none_add z (fin s (suc m) e) h k (a_zero {s = t} {e = d}) = zero_fin t s m e d h

none_none : (x z : Float) → Zero x → Zero z → eq (add binary64 x z) nought ≡ true
none_none x z (a_zero {s = s} {e = e}) (a_zero {s = t} {e = d}) = zero_zero s t e d

-- ---- sums that are alike

-- one value, or two zeros
pub data SameOrZeros : Float → Float → Type 0 where
  same : {x : Float} → SameOrZeros x x
  zeros : {x y : Float} → eq x nought ≡ true → eq y nought ≡ true → SameOrZeros x y

alike_is : {x x' y y' : Float} → x ≡ x' → y ≡ y' → SameOrZeros x' y' → SameOrZeros x y
alike_is p q h = rw (p, q) h

pub alike_add : (x y z : Float) → T (fits binary64 z) → SameOrZeros x y → SameOrZeros (add binary64 x z) (add binary64 y z)
alike_add x y z h same = same
alike_add x y z h (zeros p q) = go (eq z nought) refl
  where
    go : (b : Bool) → eq z nought ≡ b → SameOrZeros (add binary64 x z) (add binary64 y z)
    go true e = zeros (none_none x z (zero_of x p) (zero_of z e)) (none_none y z (zero_of y q) (zero_of z e))
    go false e = alike_is (none_add x z h e (zero_of x p)) (none_add y z h e (zero_of y q)) same

zero_left : (x y : Float) → eq y nought ≡ true → SameOrZeros x y → eq x nought ≡ true
zero_left x y k same = k
zero_left x y k (zeros p q) = p

-- a zero that one of them skips
pub alike_skip_add : (x y z : Float) → T (fits binary64 y) → eq z nought ≡ true → SameOrZeros x y → SameOrZeros x (add binary64 y z)
alike_skip_add x y z h e a = go (eq y nought) refl
  where
    go : (b : Bool) → eq y nought ≡ b → SameOrZeros x (add binary64 y z)
    go false k = alike_is refl (add_none y z h k (zero_of z e)) a
    go true k = zeros (zero_left x y k a) (none_none y z (zero_of y k) (zero_of z e))

neg_zero : (x : Float) → Zero x → eq (neg x) nought ≡ true
unfolding neg
neg_zero x (a_zero {s = s} {e = e}) = is_zero (not s) e

pub alike_sub : (x y z : Float) → T (fits binary64 z) → SameOrZeros x y → SameOrZeros (sub binary64 x z) (sub binary64 y z)
unfolding sub
alike_sub x y z h a = alike_add x y (neg z) (neg-fits binary64 z h) a

pub alike_skip_sub : (x y z : Float) → T (fits binary64 y) → eq z nought ≡ true → SameOrZeros x y → SameOrZeros x (sub binary64 y z)
unfolding sub
alike_skip_sub x y z h e a = alike_skip_add x y (neg z) h (neg_zero z (zero_of z e)) a

pub alike_neg : (x y : Float) → SameOrZeros x y → SameOrZeros (neg x) (neg y)
alike_neg x y same = same
alike_neg x y (zeros p q) = zeros (neg_zero x (zero_of x p)) (neg_zero y (zero_of y q))
