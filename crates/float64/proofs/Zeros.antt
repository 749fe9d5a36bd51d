-- Sums with a zero: +0 plus a value that is no zero is the value; a finite value less itself is +0.
-- Main results: `nought_add`, `sub_self`. Assumes nothing.
use mathlib.Core.Path.{◌≡◌, refl, sym, ap, ◌∙◌, subst}
use mathlib.Core.Bool.{Bool, true, false, beq, ◌&&◌, ◌||◌}
use Prim.Native.Nat.{ℕ, zero, suc, ◌+◌, ◌-◌, ◌*◌, ◌<◌}
use native.Mathlib.Nat.{mul-pos}
use native.Mathlib.Omega.{arith}
use lib.IntN.{ℤ}
use lib.Dec.{T, eqb}
use lib.Ieee.{Float, nan, inf, fin, binary64, up, down, neg, add, sub, sum, eq, fits, round, of_bits}
use lib.Ieee.Fits.{up_pos, down_pos}
use lib.Ieee.Scale.{round_same}
use borrow.Author.Tests.{lt-ltb, le-ltb}
use Rattle.float64.specs.Values.{nought, finite}
use Rattle.float64.proofs.Signs.{round_back}

-- nothing, rounded
one_none : round binary64 false 0 1 ≡ nought
unfolding round of_bits
one_none = refl

round_none : (a c : ℕ) → a ≡ 0 → 0 < c → round binary64 false a c ≡ nought
round_none a c e h = ap (λ (x : ℕ). round binary64 false x c) e ∙ round_same binary64 false 0 c 0 1 h (omega arith) (omega arith) ∙ one_none

squared : (e : ℤ) → 0 < down e * down e
squared e = mul-pos (down_pos e) (down_pos e)

pub sub_self : (x : Float) → T (finite x) → sub binary64 x x ≡ nought
unfolding finite sub add neg sum
sub_self nan h = absurd h
sub_self (inf s) h = absurd h
sub_self (fin true m e) h =
    rw (le-ltb (m * up e * down e) (m * up e * down e) (omega arith)) (round_none (m * up e * down e - m * up e * down e) (down e * down e) (omega arith) (squared e))
sub_self (fin false m e) h =
    rw (le-ltb (m * up e * down e) (m * up e * down e) (omega arith)) (round_none (m * up e * down e - m * up e * down e) (down e * down e) (omega arith) (squared e))

-- a value is its own rounding, in the terms in which a sum with +0 has it
same_round : (s : Bool) (n : ℕ) (d : ℤ) (a b : ℕ) → a ≡ n * up d → b ≡ down d → T (fits binary64 (fin s n d)) → round binary64 s a b ≡ fin s n d
same_round s n d a b p q h = rw (p, q) (round_back binary64 s n d h)

pub zero_level : (s : Bool) (a b : ℕ) → a ≡ 0 → b ≡ 0 → eqb a b && (beq s false || eqb a 0) ≡ true
zero_level true a b p q = rw (p, q)
zero_level false a b p q = rw (p, q)

-- a value that is not equal to zero has a magnitude
above : (s : Bool) (n : ℕ) (d : ℤ) → eq (fin s n d) nought ≡ false → 0 < n
unfolding eq of_bits
above s zero d z = absurd (subst T (sym (zero_level s (zero * up d * 1) (0 * down d) (omega arith) (omega arith)) ∙ z) tt)
above s (suc n) d z = omega arith

pub nought_add : (x : Float) → T (fits binary64 x) → eq x nought ≡ false → add binary64 nought x ≡ x
unfolding add sum of_bits
nought_add nan h z = refl
nought_add (inf s) h z = refl
nought_add (fin false n d) h z = same_round false n d (0 * down d + n * up d * 1) (1 * down d) (omega arith) (omega arith) h
nought_add (fin true n d) h z =
    rw (lt-ltb (0 * down d) (n * up d * 1) (omega (arith, mul-pos (above true n d z) (up_pos d)))) (same_round true n d (n * up d * 1 - 0 * down d) (1 * down d) (omega arith) (omega arith) h)
