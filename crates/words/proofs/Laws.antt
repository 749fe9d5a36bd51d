-- The laws of bytes that are stored from the front of a sheet on. Assumes nothing.
use mathlib.Core.Path.{◌≡◌, refl, ◌∙◌, ap}
use mathlib.Core.List.{List, [], ◌∷◌, ◌++◌, append-nil, append_assoc}
use Prim.Native.Nat.{ℕ, zero, suc, ◌+◌, ◌-◌, ◌*◌, ◌/◌, ◌%◌, ◌≤◌, ◌<◌}
use native.Mathlib.Numerals.{add-one}
use native.Mathlib.Omega.{arith}
use lib.Ieee.{Float, binary64, to_bits}
use lib.ListN.{length, get_or, set, take, length-append}
use lib.Seq.{sets, take-suc, length-take-le}
use Rattle.sequence.specs.Lists.{made, front}
use Rattle.sequence.proofs.Lists.{made_length}
use Rattle.sequence.proofs.Fronts.{front_more}
use Rattle.words.specs.Words.{bytes_of, joined, double_bytes}
use Rattle.words.specs.Sizes.{pattern_bytes_length}

-- ---- the bytes of each element

module _ {A : Type 0} where
  joined_append : (g : A → List ℕ) (xs ys : List A) → joined g (xs ++ ys) ≡ joined g xs ++ joined g ys
  unfolding joined
  joined_append g [] ys = refl
  joined_append g (x ∷ xs) ys = rw (joined_append g xs ys, append_assoc)

  joined_more : (g : A → List ℕ) (xs : List A) (i : ℕ) (d : A) → i < length xs → joined g (take (i + 1) xs) ≡ joined g (take i xs) ++ g (get_or xs i d)
  unfolding joined
  joined_more g xs i d h = rw (add-one, take-suc xs i d, joined_append, append-nil)

  pub joined_length : (g : A → List ℕ) (k : ℕ) → ((x : A) → length (g x) ≡ k) → (xs : List A) → length (joined g xs) ≡ k * length xs
  unfolding joined
  joined_length g k h [] = omega arith
  joined_length g k h (x ∷ xs) = simp length-append (omega (arith, h x, joined_length g k h xs))

  -- one element more: its bytes are stored where those of i elements stand
  pub joined_turn : (g : A → List ℕ) (k : ℕ) → ((x : A) → length (g x) ≡ k) → (xs : List A) (i : ℕ) (d : A) (old out bs out' : List ℕ) → i < length xs
      → k * i + k ≤ length old → out ≡ front (joined g (take i xs)) old → bs ≡ g (get_or xs i d) → out' ≡ sets out (k * i) bs → out' ≡ front (joined g (take (i + 1) xs)) old
  joined_turn g k w xs i d old out bs out' h l e q s =
      let z : length (joined g (take i xs)) ≡ k * i = joined_length g k w (take i xs) ∙ ap (λ (j : ℕ). k * j) (length-take-le i xs (omega arith)) in
      rw (s, q, e, joined_more g xs i d) (front_more (joined g (take i xs)) (g (get_or xs i d)) old (k * i) z (rw w l))

  -- the same where the elements are f's values
  pub joined_made : (g : A → List ℕ) (k : ℕ) → ((x : A) → length (g x) ≡ k) → (f : ℕ → A) (i : ℕ) (old out out' : List ℕ)
      → k * i + k ≤ length old → out ≡ front (joined g (made f i)) old → out' ≡ sets out (k * i) (g (f i)) → out' ≡ front (joined g (made f (i + 1))) old
  unfolding joined made
  joined_made g k w f i old out out' l e s =
      let z : length (joined g (made f i)) ≡ k * i = joined_length g k w (made f i) ∙ ap (λ (j : ℕ). k * j) (made_length f i) in
      rw (s, e, add-one, joined_append, append-nil) (front_more (joined g (made f i)) (g (f i)) old (k * i) z (rw w l))

-- eight bytes a double
pub double_bytes-length : (xs : List Float) → length (double_bytes xs) ≡ 8 * length xs
double_bytes-length xs = joined_length _ 8 pattern_bytes_length xs

-- the bytes of v from i on are one byte, and those from i + 1 on
pub bytes_more : (o : List ℕ) (at k i v : ℕ) → i < k → sets o (at + i) (bytes_of (k - i) v) ≡ sets (set o (at + i) (v % 256)) (at + (i + 1)) (bytes_of (k - (i + 1)) (v / 256))
bytes_more o at k i v l =
    let e : k - i ≡ suc (k - (i + 1)) = omega arith in
    let f : at + (i + 1) ≡ suc (at + i) = omega arith in
    rw (e, f)

pub bytes_none : (o : List ℕ) (at k i v : ℕ) → k ≤ i → sets o (at + i) (bytes_of (k - i) v) ≡ o
bytes_none o at k i v l =
    let e : k - i ≡ 0 = omega arith in
    rw e
