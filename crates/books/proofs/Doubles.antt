-- Laws of binary64 that rows and columns need: products by 1 and −1 from the left, quotients and sums of negatives, sums with +0.
-- Two doubles are alike where they are one value or two zeros. Main results: `one_by`, `less_by`, `div_neg`, `add_neg`, `plainly`, `alike_then`. Assumes nothing.
use mathlib.Core.Path.{◌≡◌, refl, sym, ap, ◌∙◌}
use mathlib.Core.Bool.{Bool, true, false, not, cond, ◌&&◌}
use Prim.Native.Nat.{ℕ, ◌+◌, ◌-◌, ◌*◌, ◌<◌}
use native.Mathlib.Nat.{one-mul, mul-pos}
use native.Mathlib.Decide.{dec_lt}
use native.Mathlib.Omega.{arith}
use lib.IntN.{pos}
use lib.Dec.{T, ltb, eqb}
use lib.Ieee.{Float, nan, inf, fin, binary64, up, down, round, neg, add, sub, sum, mul, div, eq, fits, unlike, of_bits}
use lib.Ieee.Fits.{down_pos, neg-fits}
use lib.Ieee.Bits.{of_bits-fits}
use borrow.Author.Tests.{lt-ltb, le-ltb}
use Rattle.float64.specs.Values.{nought, one}
use Rattle.float64.proofs.Signs.{mul_neg_left, round_back, round_neg, unlike_left}
use Rattle.float64.proofs.Zeros.{nought_add}
use Rattle.books.specs.Forms.{Alike}
use Rattle.books.proofs.Zeros.{SameOrZeros, alike_skip_add, alike_skip_sub, alike_neg, round_none}
use Rattle.books.proofs.Zeros.SameOrZeros.{same, zeros}

-- ---- products by 1 and −1

one_by_fin : (x : Float) → T (fits binary64 x) → mul binary64 (fin false 1 (pos 0)) x ≡ x
unfolding mul
one_by_fin nan h = refl
one_by_fin (inf true) h = refl
one_by_fin (inf false) h = refl
one_by_fin (fin true m e) h =
    ap (λ (a : ℕ). round binary64 true a (1 * down e)) (one-mul (m * up e)) ∙ ap (λ (b : ℕ). round binary64 true (m * up e) b) (one-mul (down e)) ∙ round_back binary64 true m e h
one_by_fin (fin false m e) h =
    ap (λ (a : ℕ). round binary64 false a (1 * down e)) (one-mul (m * up e)) ∙ ap (λ (b : ℕ). round binary64 false (m * up e) b) (one-mul (down e)) ∙ round_back binary64 false m e h

-- 1 x = x, (−1) x = −x
pub one_by : (x : Float) → T (fits binary64 x) → mul binary64 one x ≡ x
unfolding of_bits
one_by x h = one_by_fin x h

pub less_by : (x : Float) → T (fits binary64 x) → mul binary64 (neg one) x ≡ neg x
less_by x h = mul_neg_left one x ∙ ap neg (one_by x h)

-- ---- changes of sign

-- (−x) / y = −(x / y)
pub div_neg : (x y : Float) → div binary64 (neg x) y ≡ neg (div binary64 x y)
unfolding div neg
div_neg nan y = refl
div_neg (inf s) nan = refl
div_neg (inf s) (inf t) = refl
div_neg (inf s) (fin t n d) = ap inf (unlike_left s t)
div_neg (fin s m e) nan = refl
div_neg (fin s m e) (inf t) = ap (λ (b : Bool). fin b 0 (pos 0)) (unlike_left s t)
div_neg (fin s m e) (fin t n d) = rw (unlike_left s t) (go (eqb n 0) (eqb m 0))
  where
    go : (a b : Bool)
        → cond a (cond b nan (inf (not (unlike s t)))) (round binary64 (not (unlike s t)) (m * up e * down d) (n * up d * down e))
        ≡ neg (cond a (cond b nan (inf (unlike s t))) (round binary64 (unlike s t) (m * up e * down d) (n * up d * down e)))
    go true true = refl
    go true false = refl
    go false b = sym (round_neg binary64 (unlike s t) (m * up e * down d) (n * up d * down e))

-- ---- values that are alike

pub alike_back : {x y : Float} → SameOrZeros x y → SameOrZeros y x
alike_back same = same
alike_back (zeros p q) = zeros q p

-- a value that is alike to a zero is one
pub zero_of : {x y : Float} → SameOrZeros x y → eq x nought ≡ true → eq y nought ≡ true
zero_of same e = e
zero_of (zeros p q) e = q

pub alike_then : {x y z : Float} → SameOrZeros x y → SameOrZeros y z → SameOrZeros x z
alike_then same b = b
alike_then (zeros p q) b = zeros p (zero_of b q)

pub alike_is : {x y : Float} → x ≡ y → SameOrZeros x y
alike_is {x} e = rw (← e) same

pub plainly : {x y : Float} → SameOrZeros x y → Alike x y
plainly same = refl
plainly (zeros p q) = rw (p, q)

-- ---- sums with +0

pub none_zero : eq nought nought ≡ true
unfolding eq of_bits
none_zero = refl

pub nought_fits : T (fits binary64 nought)
nought_fits = of_bits-fits binary64 0

pub plus_none : (x : Float) → T (fits binary64 x) → SameOrZeros x (add binary64 x nought)
plus_none x h = alike_skip_add x x nought h none_zero same

pub less_none : (x : Float) → T (fits binary64 x) → SameOrZeros x (sub binary64 x nought)
less_none x h = alike_skip_sub x x nought h none_zero same

pub none_plus : (x : Float) → T (fits binary64 x) → SameOrZeros x (add binary64 nought x)
none_plus x h = go (eq x nought) refl
  where
    go : (b : Bool) → eq x nought ≡ b → SameOrZeros x (add binary64 nought x)
    go true e = zeros e (zero_of (alike_skip_add nought nought x nought_fits e same) none_zero)
    go false e = alike_is (sym (nought_add x h e))

pub none_less : (x : Float) → T (fits binary64 x) → SameOrZeros (neg x) (sub binary64 nought x)
unfolding sub
none_less x h = none_plus (neg x) (neg-fits binary64 x h)

-- ---- a sum of negatives

pub less_zero : eq (neg nought) nought ≡ true
unfolding eq neg of_bits
less_zero = refl

pub neg_none : (x : Float) → eq x nought ≡ true → eq (neg x) nought ≡ true
neg_none x e = zero_of (alike_neg nought x (zeros none_zero e)) less_zero

abbrev unequal : Bool → Bool → ℕ → ℕ → ℕ → Float
unequal true s a b c = round binary64 (not s) (b - a) c
unequal false s a b c = round binary64 (s && ltb b a) (a - b) c

-- of unlike signs, s and its other
sum_unlike : (s : Bool) (a b c : ℕ) → 0 < c → SameOrZeros (unequal (ltb a b) (not s) a b c) (neg (unequal (ltb a b) s a b c))
sum_unlike s a b c h = go (dec_lt a b) (dec_lt b a)
  where
    turn : (t : Bool) (n : ℕ) → SameOrZeros (round binary64 (not t) n c) (neg (round binary64 t n c))
    turn t n = alike_is (sym (round_neg binary64 t n c))

    above : (t : Bool) → SameOrZeros (round binary64 (not t && true) (a - b) c) (neg (round binary64 (t && true) (a - b) c))
    above true = turn true (a - b)
    above false = turn false (a - b)

    level : (t : Bool) → a ≡ b → SameOrZeros (round binary64 (not t && false) (a - b) c) (neg (round binary64 (t && false) (a - b) c))
    level t e = zeros (round_none (not t && false) (a - b) c (omega arith) h) (neg_none _ (round_none (t && false) (a - b) c (omega arith) h))

    go : Dec (a < b) → Dec (b < a) → SameOrZeros (unequal (ltb a b) (not s) a b c) (neg (unequal (ltb a b) s a b c))
    go (yes l) d = rw (lt-ltb a b l) (turn (not s) (b - a))
    go (no l) (yes d) = rw (le-ltb a b (omega arith), lt-ltb b a d) (above s)
    go (no l) (no d) = rw (le-ltb a b (omega arith), le-ltb b a (omega arith)) (level s (omega arith))

sum_neg : (s t : Bool) (a b c : ℕ) → 0 < c → SameOrZeros (sum binary64 (not s) a (not t) b c) (neg (sum binary64 s a t b c))
unfolding sum
sum_neg true true a b c h = alike_is (sym (round_neg binary64 true (a + b) c))
sum_neg false false a b c h = alike_is (sym (round_neg binary64 false (a + b) c))
sum_neg true false a b c h = go (ltb a b) (sum_unlike true a b c h)
  where
    go : (l : Bool) → SameOrZeros (unequal l false a b c) (neg (unequal l true a b c))
        → SameOrZeros (cond l (round binary64 true (b - a) c) (round binary64 (false && ltb b a) (a - b) c)) (neg (cond l (round binary64 false (b - a) c) (round binary64 (true && ltb b a) (a - b) c)))
    go true x = x
    go false x = x
sum_neg false true a b c h = go (ltb a b) (sum_unlike false a b c h)
  where
    go : (l : Bool) → SameOrZeros (unequal l true a b c) (neg (unequal l false a b c))
        → SameOrZeros (cond l (round binary64 false (b - a) c) (round binary64 (true && ltb b a) (a - b) c)) (neg (cond l (round binary64 true (b - a) c) (round binary64 (false && ltb b a) (a - b) c)))
    go true x = x
    go false x = x

-- (−x) + (−y) is −(x + y), but for a zero's sign
pub add_neg : (x y : Float) → SameOrZeros (add binary64 (neg x) (neg y)) (neg (add binary64 x y))
unfolding add neg
add_neg nan y = same
add_neg (inf s) nan = same
add_neg (inf true) (inf true) = same
add_neg (inf true) (inf false) = same
add_neg (inf false) (inf true) = same
add_neg (inf false) (inf false) = same
add_neg (inf s) (fin t n d) = same
add_neg (fin s m e) nan = same
add_neg (fin s m e) (inf t) = same
add_neg (fin s m e) (fin t n d) = sum_neg s t (m * up e * down d) (n * up d * down e) (down e * down d) (mul-pos (down_pos e) (down_pos d))
