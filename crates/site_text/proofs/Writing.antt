-- The laws of bytes that are written one after the other, and of a number's digits. Main results: `none`, `then`, `told`, `decimal_places`, `hex_places`. Assumes nothing.
use mathlib.Core.Path.{◌≡◌, refl, sym, ap, ◌∙◌}
use mathlib.Core.Bool.{Bool, true, false, cond}
use mathlib.Core.List.{List, [], ◌∷◌, ◌++◌, append-nil, append_assoc}
use Prim.Native.Nat.{ℕ, zero, suc, ◌-◌, ◌*◌, ◌/◌, ◌^◌, ◌≤◌, ◌<◌}
use native.Mathlib.Nat.{pow-suc, pow-le-pow_right}
use native.Mathlib.Decide.{dec_lt}
use native.Mathlib.Omega.{arith}
use lib.ListN.{length, take, length-append}
use lib.Dec.{ltb}
use lib.Ieee.{binary64, to_bits}
use borrow.Author.Tests.{ltb-true, ltb-false}
use Rattle.io.specs.Digits.{last_digits, IsDigitCount}
use Rattle.sequence.specs.declared.Triplet.{Triplet}
use Rattle.site_text.specs.declared.buffer.Buffer.{Buffer}
use Rattle.site_text.specs.Text.{places, decimal_of, first_line, triplet_line}
use Rattle.site_text.specs.Writing.{Adds}

-- ---- writing

pub none : (t : Buffer) → Adds [] t t
none t = record { len = omega arith; text = sym (append-nil (take t.len t.bytes.now)); kept = refl; same_reference = refl }

-- one after the other
pub then : {a b : List ℕ} {t u v : Buffer} → Adds a t u → Adds b u v → Adds (a ++ b) t v
then {a} {b} {t} p q =
    record {
      len = rw length-append (omega (arith, p.len, q.len));
      text = q.text ∙ rw (p.text, append_assoc);
      kept = q.kept ∙ p.kept;
      same_reference = q.same_reference ∙ p.same_reference;
    }

pub told : {a b : List ℕ} {t u : Buffer} → a ≡ b → Adds a t u → Adds b t u
told e p = rw e at p

-- ---- digits

pub digits_length : (b k n : ℕ) → length (last_digits b k n) ≡ k
digits_length b zero n = refl
digits_length b (suc k) n = rw length-append (omega (arith, digits_length b k (n / b)))

-- a number below the base has one digit
one_digit : (n r : ℕ) → n < 10 → IsDigitCount 10 1 n r → r ≡ 1
one_digit n zero h f = absurd (omega (arith, f.0))
one_digit n (suc zero) h f = refl
one_digit n (suc (suc s)) h f =
    let e : suc (suc s) - 1 ≡ suc s = omega arith in
    let l : 10 ^ suc s ≤ n = rw e at (f.2 (omega arith)) in
    let m : 10 ≤ 10 ^ suc s = rw pow-suc (omega (arith, pow-le-pow_right {n = 10} (omega arith) {i = 0} {j = s} (omega arith))) in
    absurd (omega arith)

-- one digit less is that of a tenth
more_digits : (n s : ℕ) → IsDigitCount 10 1 n (suc (suc s)) → IsDigitCount 10 1 (n / 10) (suc s)
more_digits n s f =
    let a : n < 10 ^ suc s * 10 = rw (pow-suc 10 (suc s)) at f.1 in
    let e : suc (suc s) - 1 ≡ suc s = omega arith in
    let z : suc s - 1 ≡ s = omega arith in
    let l : 10 ^ s * 10 ≤ n = rw (e, pow-suc 10 s) at (f.2 (omega arith)) in
    (omega arith, omega arith, λ h. rw z (omega arith))

-- a number's fewest digits are as many as it takes
pub decimal_places : (k n r : ℕ) → n < 10 ^ suc k → IsDigitCount 10 1 n r → r ≡ places k n
unfolding places
decimal_places zero n r h f = one_digit n r (omega (arith, h)) f
decimal_places (suc k) n r h f = go (ltb n 10) refl r f (λ s. decimal_places k (n / 10) (suc s) tenth)
  where
    tenth : n / 10 < 10 ^ suc k
    tenth = let a : n < 10 ^ suc k * 10 = rw (pow-suc 10 (suc k)) at h in omega arith

    go : (b : Bool) → ltb n 10 ≡ b → (r : ℕ) → IsDigitCount 10 1 n r → ((s : ℕ) → IsDigitCount 10 1 (n / 10) (suc s) → suc s ≡ places k (n / 10)) → r ≡ cond (ltb n 10) 1 (suc (places k (n / 10)))
    go true e r f ih = rw e (one_digit n r (ltb-true n 10 e) f)
    go false e zero f ih = absurd (omega (arith, f.0))
    go false e (suc zero) f ih = absurd (omega (arith, f.1, ltb-false n 10 e))
    go false e (suc (suc s)) f ih = rw e (ap suc (ih s (more_digits n s f)))

pub places_most : (k n : ℕ) → places k n ≤ suc k
unfolding places
places_most zero n = omega arith
places_most (suc k) n = go (ltb n 10) (places_most k (n / 10))
  where
    go : (b : Bool) → places k (n / 10) ≤ suc k → cond b 1 (suc (places k (n / 10))) ≤ suc (suc k)
    go true h = omega arith
    go false h = omega arith

-- a number of 64 bits has 16 hexadecimal digits
pub hex_places : (n r : ℕ) → n < 0x1_0000_0000_0000_0000 → IsDigitCount 16 16 n r → r ≡ 16
hex_places n r h f = go (dec_lt 16 r)
  where
    go : Dec (16 < r) → r ≡ 16
    go (no q) = omega (arith, f.0)
    go (yes q) = absurd (omega (arith, f.2 q, pow-le-pow_right {n = 16} (omega arith) {i = 16} {j = r - 1} (omega arith)))

-- ---- numbers and lines

pub decimal_text : (n r : ℕ) (text : List ℕ) → n < 0x1_0000_0000_0000_0000 → IsDigitCount 10 1 n r → take r text ≡ last_digits 10 r n → take r text ≡ decimal_of n
decimal_text n r text h f e = e ∙ ap (λ (k : ℕ). last_digits 10 k n) (decimal_places 19 n r (omega arith) f)

pub decimal_length : (n : ℕ) → length (decimal_of n) ≤ 20
decimal_length n = omega (arith, digits_length 10 (places 19 n) n, places_most 19 n)

pub hex_text : (n r : ℕ) (text : List ℕ) → n < 0x1_0000_0000_0000_0000 → IsDigitCount 16 16 n r → take r text ≡ last_digits 16 r n → take r text ≡ last_digits 16 16 n
hex_text n r text h f e = e ∙ ap (λ (k : ℕ). last_digits 16 k n) (hex_places n r h f)

pub first_line_lem : {number count n k : ℕ} {t₀ t₁ t₂ t₃ t₄ : Buffer} → n ≡ number → k ≡ count → Adds (decimal_of n) t₀ t₁ → Adds (32 ∷ []) t₁ t₂ → Adds (decimal_of k) t₂ t₃ → Adds (10 ∷ []) t₃ t₄
    → Adds (first_line number count) t₀ t₄
unfolding first_line
first_line_lem e d p q r s = rw (e, d) at (then p (then q (then r s)))

pub triplet_line_lem : (t : Triplet) {row col bits : ℕ} {t₀ t₁ t₂ t₃ t₄ t₅ t₆ : Buffer} → row ≡ t.row → col ≡ t.col → bits ≡ to_bits binary64 t.value
    → Adds (decimal_of row) t₀ t₁ → Adds (32 ∷ []) t₁ t₂ → Adds (decimal_of col) t₂ t₃ → Adds (32 ∷ []) t₃ t₄ → Adds (last_digits 16 16 bits) t₄ t₅ → Adds (10 ∷ []) t₅ t₆
    → Adds (triplet_line t) t₀ t₆
unfolding triplet_line
triplet_line_lem t e d b p q r s u v = rw (e, d, b) at (then p (then q (then r (then s (then u v)))))
