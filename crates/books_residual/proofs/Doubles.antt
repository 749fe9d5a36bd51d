-- The laws of binary64 that the columns need, the sign of a zero set aside: sums with +0, the negative of a sum, a value over itself.
-- Main results: `plus_left`, `plus_right`, `nought_plus`, `neg_add`, `over_itself`. Assumes nothing.
use mathlib.Core.Path.{◌≡◌, refl, sym, ap, ◌∙◌, subst}
use mathlib.Core.Bool.{Bool, true, false, cond, ◌||◌}
use Prim.Native.Nat.{ℕ, zero, suc, ◌*◌, ◌<◌}
use native.Mathlib.Nat.{mul-pos, zero-lt-suc}
use native.Mathlib.Omega.{arith}
use lib.IntN.{ℤ}
use lib.Dec.{T}
use lib.Ieee.{Float, nan, inf, fin, binary64, up, down, unlike, neg, add, div, below, level, lt, le, eq, fits, round, of_int, of_bits}
use lib.Ieee.Fits.{up_pos, down_pos}
use lib.Ieee.Scale.{round_same}
use borrow.Author.Tests.{le-ltb, ne_eqb}
use Rattle.float64.specs.Values.{nought, one, whole, base_low, base_high, in_range}
use Rattle.float64.proofs.Zeros.{nought_add}
use Rattle.sequence.proofs.Lists.{and_left, never}
use Rattle.books.specs.Forms.{plain, Alike}
use Rattle.books.proofs.Zeros as laws
use Rattle.books.proofs.Doubles.{add_neg, none_zero, nought_fits, plainly}
use Rattle.books.proofs.Zeros.SameOrZeros.{same, zeros}

-- ---- one value, or two zeros

back : (x y : Float) → Alike x y → laws.SameOrZeros x y
back x y h = go (eq x nought) (eq y nought) refl refl h
  where
    go : (a b : Bool) → eq x nought ≡ a → eq y nought ≡ b → cond a nought x ≡ cond b nought y → laws.SameOrZeros x y
    go true true p q h = zeros p q
    go true false p q h = never (sym q ∙ ap (λ (z : Float). eq z nought) (sym h) ∙ none_zero)
    go false true p q h = never (sym p ∙ ap (λ (z : Float). eq z nought) h ∙ none_zero)
    go false false p q h = subst (λ (z : Float). laws.SameOrZeros x z) h same

pub zeros_alike : (x y : Float) → eq x nought ≡ true → eq y nought ≡ true → Alike x y
zeros_alike x y p q = rw (p, q)

-- ---- sums

pub plus_left : (x y z : Float) → T (fits binary64 z) → Alike x y → Alike (add binary64 x z) (add binary64 y z)
plus_left x y z h a = plainly (laws.alike_add x y z h (back x y a))

pub plus_right : (x y z : Float) → T (fits binary64 x) → Alike y z → Alike (add binary64 x y) (add binary64 x z)
plus_right x y z h a = go y z (back y z a)
  where
    go : (y z : Float) → laws.SameOrZeros y z → Alike (add binary64 x y) (add binary64 x z)
    go y z same = refl
    go y z (zeros p q) = sym (plainly (laws.alike_skip_add x x y h p same)) ∙ plainly (laws.alike_skip_add x x z h q same)

pub nought_plus : (x : Float) → T (fits binary64 x) → Alike (add binary64 nought x) x
nought_plus x h = go (eq x nought) refl
  where
    go : (b : Bool) → eq x nought ≡ b → Alike (add binary64 nought x) x
    go true e = sym (plainly (laws.alike_skip_add nought nought x nought_fits e same)) ∙ zeros_alike nought x none_zero e
    go false e = ap plain (nought_add x h e)

-- ---- the negative of a sum

pub neg_add : (x y : Float) → Alike (neg (add binary64 x y)) (add binary64 (neg x) (neg y))
neg_add x y = sym (plainly (add_neg x y))

-- ---- a value over itself

one_is : round binary64 false 1 1 ≡ one
unfolding round of_bits
one_is = refl

same_sign : (s : Bool) → unlike s s ≡ false
same_sign true = refl
same_sign false = refl

fin_over : (s : Bool) (m : ℕ) (e : ℤ) → div binary64 (fin s (suc m) e) (fin s (suc m) e) ≡ one
unfolding div
fin_over s m e =
    rw (same_sign s, ne_eqb (suc m) 0 (λ q. absurd (omega arith)))
    (round_same binary64 false (suc m * up e * down e) (suc m * up e * down e) 1 1 (mul-pos (mul-pos (zero-lt-suc m) (up_pos e)) (down_pos e)) (omega arith) (omega arith) ∙ one_is)

nothing_above : (s : Bool) (a b : ℕ) → 0 < a → b ≡ 0 → (below false a s b || level false a s b) ≡ false
nothing_above true a b h e = rw (ne_eqb a b (λ q. absurd (omega arith)))
nothing_above false a b h e = rw (ne_eqb a b (λ q. absurd (omega arith)), le-ltb a b (omega arith))

low_zero : (s : Bool) (e : ℤ) → le base_low (fin s 0 e) ≡ false
unfolding le lt eq base_low whole of_int div
low_zero s e = nothing_above s _ _ (omega (arith, down_pos e)) (omega arith)

-- a base within its limits
pub over_itself : (x : Float) → in_range base_low base_high x ≡ true → div binary64 x x ≡ one
unfolding in_range base_low base_high whole of_int div le lt eq
over_itself nan h = never h
over_itself (inf true) h = never h
over_itself (inf false) h = never h
over_itself (fin s zero e) h = never (sym (low_zero s e) ∙ and_left (le base_low (fin s 0 e)) (le (fin s 0 e) base_high) h)
over_itself (fin s (suc m) e) h = fin_over s m e
