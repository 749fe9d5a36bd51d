-- Laws of binary64 that are exact: changes of sign, and products by 1 and -1 of a value that fits. Assumes nothing.
use mathlib.Core.Path.{◌≡◌, refl, sym, ap, ◌∙◌, subst}
use mathlib.Core.Bool.{Bool, true, false, not, cond, ◌&&◌}
use Prim.Native.Nat.{ℕ, zero, suc, ◌+◌, ◌-◌, ◌*◌, ◌/◌, ◌%◌, ◌^◌, ◌≤◌, ◌<◌}
use native.Mathlib.Nat.{mul-one, one-mul, mul_assoc, mul_comm, mul_right_comm, zero-mul, lt_of_mul-lt-mul_right, mul-lt-mul_of_pos_right}
use native.Mathlib.Omega.{arith}
use lib.IntN.{ℤ, pos, negsuc}
use lib.Dec.{T, ltb, leb, eqb, ltb→lt, leb→le}
use lib.Pow.{pow-add, pow_pos, pow-lt}
use lib.Ieee.{Float, nan, inf, fin, Format, binary64, prec, emax, low, up, down, odd, units, round, neg, mul, fits, unlike, to_bits, of_bits}
use lib.Ieee.Fits.{down_pos, and_l, and_r, round-fits}
use lib.Ieee.Bits.{of_bits-to_bits}
use lib.Ieee.Exact.{HasValue, round_exact}
use lib.Ieee.Nearest.{div_same}

-- ---- changes of sign

pub neg_neg : (x : Float) → neg (neg x) ≡ x
unfolding neg
neg_neg nan = refl
neg_neg (inf true) = refl
neg_neg (inf false) = refl
neg_neg (fin true m e) = refl
neg_neg (fin false m e) = refl

odd_neg : (d : ℕ) (s : Bool) (q k l : ℕ) → neg (odd d s q k l) ≡ odd d (not s) q k l
unfolding neg odd
odd_neg d s zero k l = refl
odd_neg d s (suc q) k l = refl

units_neg : (f : Format) (s : Bool) (q k : ℕ) → neg (units f s q k) ≡ units f (not s) q k
unfolding units neg
units_neg f s q k = go (ltb (q * 2 ^ k) (2 ^ (low f + suc (emax f))))
  where
    go : (b : Bool) → neg (cond b (odd (suc (prec f)) s q k (low f)) (inf s)) ≡ cond b (odd (suc (prec f)) (not s) q k (low f)) (inf (not s))
    go true = odd_neg (suc (prec f)) s q k (low f)
    go false = refl

pub round_neg : (f : Format) (s : Bool) (a b : ℕ) → neg (round f s a b) ≡ round f (not s) a b
unfolding round
round_neg f s a b = units_neg f s _ _

pub unlike_left : (s t : Bool) → unlike (not s) t ≡ not (unlike s t)
unlike_left true true = refl
unlike_left true false = refl
unlike_left false true = refl
unlike_left false false = refl

unlike_right : (s t : Bool) → unlike s (not t) ≡ not (unlike s t)
unlike_right true true = refl
unlike_right true false = refl
unlike_right false true = refl
unlike_right false false = refl

cond_neg : (b : Bool) (x y : Float) → neg (cond b x y) ≡ cond b (neg x) (neg y)
cond_neg true x y = refl
cond_neg false x y = refl

pub mul_neg_left : (x y : Float) → mul binary64 (neg x) y ≡ neg (mul binary64 x y)
unfolding mul neg
mul_neg_left nan y = refl
mul_neg_left (inf s) nan = refl
mul_neg_left (inf s) (inf t) = ap inf (unlike_left s t)
mul_neg_left (inf s) (fin t n d) = ap (λ (b : Bool). cond (eqb n 0) nan (inf b)) (unlike_left s t) ∙ sym (cond_neg (eqb n 0) nan (inf (unlike s t)))
mul_neg_left (fin s m e) nan = refl
mul_neg_left (fin s m e) (inf t) = ap (λ (b : Bool). cond (eqb m 0) nan (inf b)) (unlike_left s t) ∙ sym (cond_neg (eqb m 0) nan (inf (unlike s t)))
mul_neg_left (fin s m e) (fin t n d) = ap (λ (b : Bool). round binary64 b (m * up e * (n * up d)) (down e * down d)) (unlike_left s t) ∙ sym (round_neg binary64 (unlike s t) (m * up e * (n * up d)) (down e * down d))

pub mul_neg_right : (x y : Float) → mul binary64 x (neg y) ≡ neg (mul binary64 x y)
unfolding mul neg
mul_neg_right nan y = refl
mul_neg_right (inf s) nan = refl
mul_neg_right (inf s) (inf t) = ap inf (unlike_right s t)
mul_neg_right (inf s) (fin t n d) = ap (λ (b : Bool). cond (eqb n 0) nan (inf b)) (unlike_right s t) ∙ sym (cond_neg (eqb n 0) nan (inf (unlike s t)))
mul_neg_right (fin s m e) nan = refl
mul_neg_right (fin s m e) (inf t) = ap (λ (b : Bool). cond (eqb m 0) nan (inf b)) (unlike_right s t) ∙ sym (cond_neg (eqb m 0) nan (inf (unlike s t)))
mul_neg_right (fin s m e) (fin t n d) = ap (λ (b : Bool). round binary64 b (m * up e * (n * up d)) (down e * down d)) (unlike_right s t) ∙ sym (round_neg binary64 (unlike s t) (m * up e * (n * up d)) (down e * down d))

-- ---- a value that fits is its own rounding

-- two values that fit, with one sign and one size, are one
pub same_value : (f : Format) (s : Bool) (m : ℕ) (e : ℤ) (n : ℕ) (d : ℤ) → T (fits f (fin s m e)) → T (fits f (fin s n d)) → m * up e * down d ≡ n * up d * down e → fin s m e ≡ fin s n d
unfolding to_bits
same_value f s m e n d p q h = sym (of_bits-to_bits f (fin s m e) p) ∙ ap (of_bits f) bits ∙ of_bits-to_bits f (fin s n d) q
  where
    sizes : m * up e * 2 ^ low f / down e ≡ n * up d * 2 ^ low f / down d
    sizes = div_same (m * up e * 2 ^ low f) (down e) (n * up d * 2 ^ low f) (down d) (down_pos e) (down_pos d)
        (mul_right_comm (m * up e) (2 ^ low f) (down d) ∙ ap (λ (x : ℕ). x * 2 ^ low f) h ∙ mul_right_comm (n * up d) (down e) (2 ^ low f))

    bits : to_bits f (fin s m e) ≡ to_bits f (fin s n d)
    bits = rw sizes

-- the exponent in units of the format's smallest value
scale : (l : ℕ) (e : ℤ) → down e ≤ 2 ^ l → (j : ℕ) × (up e * 2 ^ l ≡ 2 ^ j * down e)
scale l (pos a) h = (a + l, sym (pow-add 2 a l) ∙ sym (mul-one (2 ^ (a + l))))
scale l (negsuc a) h = (l - suc a, one-mul (2 ^ l) ∙ ap (λ (x : ℕ). 2 ^ x) (split l (suc a) (back (suc a) l h)) ∙ pow-add 2 (l - suc a) (suc a))
  where
    split : (l a : ℕ) → a ≤ l → l ≡ l - a + a
    split l a h = omega arith

    back : (a l : ℕ) → 2 ^ a ≤ 2 ^ l → a ≤ l
    back a l h = go (native.Mathlib.Decide.dec_lt l a)
      where
        go : Dec (l < a) → a ≤ l
        go (yes g) = omega (arith, pow-lt g)
        go (no g) = omega arith

valued : (f : Format) (s : Bool) (m : ℕ) (e : ℤ) → m < 2 ^ prec f → down e ≤ 2 ^ low f → m * up e < 2 ^ suc (emax f) * down e → HasValue (round f s (m * up e) (down e)) s (m * up e) (down e)
valued f s m e a b c =
    let j = (scale (low f) e b).0 in
    let h : m * up e * 2 ^ low f ≡ m * 2 ^ j * down e = mul_assoc m (up e) (2 ^ low f) ∙ ap (λ (x : ℕ). m * x) (scale (low f) e b).1 ∙ sym (mul_assoc m (2 ^ j) (down e)) in
    let g : m * up e * 2 ^ low f < 2 ^ suc (emax f) * down e * 2 ^ low f = mul-lt-mul_of_pos_right c (pow_pos (low f)) in
    let r : 2 ^ suc (emax f) * down e * 2 ^ low f ≡ 2 ^ (low f + suc (emax f)) * down e =
    mul_right_comm (2 ^ suc (emax f)) (down e) (2 ^ low f) ∙ ap (λ (x : ℕ). x * down e) (mul_comm (2 ^ suc (emax f)) (2 ^ low f) ∙ sym (pow-add 2 (low f) (suc (emax f)))) in
    round_exact f s (m * up e) (down e) m j (down_pos e) a (lt_of_mul-lt-mul_right (down e) (subst (λ (x : ℕ). x < 2 ^ (low f + suc (emax f)) * down e) h (subst (λ (x : ℕ). m * up e * 2 ^ low f < x) r g))) h

-- round's result, of a value, is the value
back_value : (f : Format) (s : Bool) (m : ℕ) (e : ℤ) (y : Float) → T (fits f (fin s m e)) → T (fits f y) → HasValue y s (m * up e) (down e) → y ≡ fin s m e
back_value f s m e nan p q v = absurd v
back_value f s m e (inf t) p q v = absurd v
back_value f s m e (fin t n d) p q v =
    ap (λ (b : Bool). fin b n d) v.0 ∙ same_value f s n d m e (subst (λ (b : Bool). T (fits f (fin b n d))) v.0 q) p v.1

pub round_back : (f : Format) (s : Bool) (m : ℕ) (e : ℤ) → T (fits f (fin s m e)) → round f s (m * up e) (down e) ≡ fin s m e
unfolding fits
round_back f s zero e p = back_value f s zero e (round f s (zero * up e) (down e)) p (round-fits f s _ _)
    (round_exact f s (zero * up e) (down e) 0 0 (down_pos e) (pow_pos (prec f)) (pow_pos (low f + suc (emax f))) (ap (λ (x : ℕ). x * 2 ^ low f) (zero-mul (up e)) ∙ zero-mul (2 ^ low f) ∙ sym (zero-mul (down e))))
round_back f s (suc m) e p =
    let a = eqb (suc m % 2) 1 in
    let b = ltb (suc m) (2 ^ prec f) in
    let c = leb (down e) (2 ^ low f) in
    let d = ltb (suc m * up e) (2 ^ suc (emax f) * down e) in
    back_value f s (suc m) e (round f s (suc m * up e) (down e)) p (round-fits f s _ _)
    (valued f s (suc m) e (ltb→lt _ _ (and_r a b (and_l (a && b) c (and_l (a && b && c) d p)))) (leb→le _ _ (and_r (a && b) c (and_l (a && b && c) d p))) (ltb→lt _ _ (and_r (a && b && c) d p)))

-- ---- products by 1 and by -1

abbrev one_f : Float
one_f = fin false 1 (pos 0)

plus_sign : (s : Bool) → unlike s false ≡ s
plus_sign true = refl
plus_sign false = refl

pub mul_one_right : (x : Float) → T (fits binary64 x) → mul binary64 x one_f ≡ x
unfolding mul
mul_one_right nan h = refl
mul_one_right (inf s) h = ap inf (plus_sign s)
mul_one_right (fin s m e) h =
    ap (λ (b : Bool). round binary64 b (m * up e * (1 * 2 ^ 0)) (down e * 1)) (plus_sign s)
    ∙ ap (λ (x : ℕ). round binary64 s x (down e * 1)) (mul-one (m * up e))
    ∙ ap (λ (x : ℕ). round binary64 s (m * up e) x) (mul-one (down e))
    ∙ round_back binary64 s m e h

pub mul_less_one : (x : Float) → T (fits binary64 x) → mul binary64 x (fin true 1 (pos 0)) ≡ neg x
unfolding neg
mul_less_one x h = mul_neg_right x one_f ∙ ap neg (mul_one_right x h)
