-- `within` by two comparisons, as the code tests it. Assumes nothing.
use mathlib.Core.Path.{◌≡◌, refl}
use mathlib.Core.Bool.{true, false, ◌&&◌, ◌||◌}
use Prim.Native.Nat.{ℕ, ◌+◌, ◌*◌, ◌<◌}
use native.Mathlib.Omega.{arith}
use native.Mathlib.Decide.{dec_lt, ℕ_discrete}
use lib.Dec.{T, eqb, ltb}
use lib.Ieee.{Float, nan, inf, fin, up, down, neg, lt, le, eq}
use lib.Ieee.Positive.{positive}
use borrow.Author.Tests.{lt-ltb, le-ltb, eq-eqb, ne_eqb}
use Rattle.float64.specs.Values.{finite, magnitude, within, in_range}

-- the magnitudes, as whole numbers a of x and b of the limit
plus : (a b : ℕ) → (ltb 0 (b + a) || (eqb b a && (false || eqb b 0))) && (ltb a b || (eqb a b && (true || eqb a 0))) ≡ ltb a b || (eqb a b && (true || eqb a 0))
plus a b = go (dec_lt 0 (b + a))
  where
    go : Dec (0 < b + a) → (ltb 0 (b + a) || (eqb b a && (false || eqb b 0))) && (ltb a b || (eqb a b && (true || eqb a 0))) ≡ ltb a b || (eqb a b && (true || eqb a 0))
    go (yes h) = rw (lt-ltb _ _ h)
    go (no h) =
        let za : a ≡ 0 = omega arith in
        let zb : b ≡ 0 = omega arith in
        rw (za, zb)

minus : (a b : ℕ) → (ltb a b || (eqb b a && (true || eqb b 0))) && (ltb 0 (a + b) || (eqb a b && (false || eqb a 0))) ≡ ltb a b || (eqb a b && (true || eqb a 0))
minus a b = go (dec_lt a b) (ℕ_discrete a b) (dec_lt 0 (a + b))
  where
    go : Dec (a < b) → Dec (a ≡ b) → Dec (0 < a + b) → (ltb a b || (eqb b a && (true || eqb b 0))) && (ltb 0 (a + b) || (eqb a b && (false || eqb a 0))) ≡ ltb a b || (eqb a b && (true || eqb a 0))
    go (yes h) d e = rw (lt-ltb a b h, lt-ltb 0 (a + b) (omega arith))
    go (no h) (yes d) (yes e) = rw (le-ltb a b (omega arith), eq-eqb b a (omega arith), eq-eqb a b d, lt-ltb 0 (a + b) e)
    go (no h) (yes d) (no e) =
        let za : a ≡ 0 = omega arith in
        let zb : b ≡ 0 = omega arith in
        rw (za, zb)
    go (no h) (no d) e = rw (le-ltb a b (omega arith), ne_eqb b a (λ q. d (omega arith)), ne_eqb a b d)

pub within_both : (limit x : Float) → T (positive limit) → in_range (neg limit) limit x ≡ within limit x
unfolding in_range within finite magnitude neg le lt eq
within_both nan x p = absurd p
within_both (inf s) x p = absurd p
within_both (fin true n d) x p = absurd p
within_both (fin false n d) nan p = refl
within_both (fin false n d) (inf true) p = refl
within_both (fin false n d) (inf false) p = refl
within_both (fin false n d) (fin false m e) p = plus (m * up e * down d) (n * up d * down e)
within_both (fin false n d) (fin true m e) p = minus (m * up e * down d) (n * up d * down e)
