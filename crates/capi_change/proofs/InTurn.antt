-- Change calls in turn, by the last one: what they have left and written so far. Main results: `begin`, `more`; `uneven`, `short`, `done`. Assumes nothing.
use mathlib.Core.Path.{◌≡◌, refl, ap, ◌∙◌}
use mathlib.Core.Logic.{◌⊎◌, inl, inr}
use mathlib.Core.List.{List, []}
use Prim.Native.Nat.{ℕ, zero, suc, ◌+◌, ◌*◌, ◌/◌, ◌%◌, ◌≤◌, ◌<◌}
use native.Mathlib.Numerals.{add-one}
use native.Mathlib.Omega.{arith}
use lib.ListN.{length, get_or, drop}
use lib.Seq.{sets, length-sets}
use borrow.Author.Tests.{eq-eqb, ne_eqb, lt-ltb, le-ltb}
use Rattle.std.specs.Simd.{first_chunks}
use Rattle.std.proofs.lemmas.List.{get_or-take, get_or-drop}
use Rattle.sequence.specs.Lists.{made, front}
use Rattle.sequence.specs.Answers.{first_of}
use Rattle.words.specs.Words.{at32, bytes_of, joined, word_bytes}
use Rattle.words.specs.Sizes.{bytes_of_length}
use Rattle.words.proofs.Laws.{joined_made}
use Rattle.job_book.specs.Book.{change}
use Rattle.capi_change.specs.Told.{Bytes, leaves}
use Rattle.capi_change.specs.InTurn.{Fed, called_for, called, after_calls, number_at, count_at, in_turn, in_turn_number, in_turn_call}

-- ---- a slice by twelve bytes

byte_in : (k : ℕ) (b : List ℕ) (i j : ℕ) → i < k → j < 12 → get_or (get_or (first_chunks 12 k b) i []) j 0 ≡ get_or b (12 * i + j) 0
byte_in zero b i j h l = absurd (omega arith)
byte_in (suc k) b zero j h l =
    let e : j ≡ 12 * 0 + j = omega arith in
    get_or-take 12 b j 0 l ∙ ap (λ (m : ℕ). get_or b m 0) e
byte_in (suc k) b (suc i) j h l =
    let e : 12 + (12 * i + j) ≡ 12 * suc i + j = omega arith in
    byte_in k (drop 12 b) i j (omega arith) l ∙ get_or-drop 12 b (12 * i + j) 0 ∙ ap (λ (m : ℕ). get_or b m 0) e

word_of : (k : ℕ) (b : List ℕ) (i j : ℕ) → i < k → j + 3 < 12 → at32 (get_or (first_chunks 12 k b) i []) j ≡ at32 b (12 * i + j)
word_of k b i j h l =
    let e₁ : 12 * i + (j + 1) ≡ 12 * i + j + 1 = omega arith in
    let e₂ : 12 * i + (j + 2) ≡ 12 * i + j + 2 = omega arith in
    let e₃ : 12 * i + (j + 3) ≡ 12 * i + j + 3 = omega arith in
    rw (byte_in k b i j h (omega arith), byte_in k b i (j + 1) h (omega arith), byte_in k b i (j + 2) h (omega arith), byte_in k b i (j + 3) h (omega arith), e₁, e₂, e₃) refl

-- the call for a change's three words is the one for the bytes that they are
pub called_by : (F : Fed) (B : Bytes) (i : ℕ) {whole : List (List ℕ)} {h l g : ℕ} → whole ≡ first_chunks 12 (length F.changes / 12) F.changes → i < length F.changes / 12
    → h ≡ at32 (get_or whole i []) 0 → l ≡ at32 (get_or whole i []) 4 → g ≡ at32 (get_or whole i []) 8 → called_for F B (change h l g) ≡ called F B i
called_by F B i {whole} {h} {l} {g} e n p q s =
    let k : ℕ = length F.changes / 12 in
    let z : 12 * i + 0 ≡ 12 * i = omega arith in
    let a : h ≡ at32 F.changes (12 * i) = rw (p, e, word_of k F.changes i 0 n (omega arith), z) refl in
    let b : l ≡ at32 F.changes (12 * i + 4) = rw (q, e, word_of k F.changes i 4 n (omega arith)) refl in
    let d : g ≡ at32 F.changes (12 * i + 8) = rw (s, e, word_of k F.changes i 8 n (omega arith)) refl in
    rw (a, b, d) refl

module _ (F : Fed) (B : Bytes) where
  -- what i calls have left and written
  pub record Calling (ns ks : List ℕ) (i : ℕ) (r x y z ns' ks' : List ℕ) : Type 0 where
    pub readings : r ≡ (after_calls F B i).readings
    pub rows : x ≡ (after_calls F B i).rows
    pub cols : y ≡ (after_calls F B i).cols
    pub values : z ≡ (after_calls F B i).values
    pub numbers : ns' ≡ front (word_bytes (made (number_at F B) i)) ns
    pub counts : ks' ≡ front (word_bytes (made (count_at F B) i)) ks
    pub numbers_kept : length ns' ≡ length ns
    pub counts_kept : length ks' ≡ length ks

  pub begin : (ns ks : List ℕ) → Calling ns ks 0 B.readings B.rows B.cols B.values ns ks
  unfolding after_calls made joined front
  begin ns ks = record { readings = refl; rows = refl; cols = refl; values = refl; numbers = refl; counts = refl; numbers_kept = refl; counts_kept = refl }

  pub more : {ns ks r x y z ns' ks' r' x' y' z' ns'' ks'' : List ℕ} {i a : ℕ} → 4 * i + 4 ≤ length ns → 4 * i + 4 ≤ length ks → Calling ns ks i r x y z ns' ks'
      → leaves a r' x' y' z' ≡ called F (leaves 0 r x y z) i
      → ns'' ≡ sets ns' (4 * i) (bytes_of 4 (a % 256))
      → ks'' ≡ sets ks' (4 * i) (bytes_of 4 (a / 256))
      → Calling ns ks (i + 1) r' x' y' z' ns'' ks''
  unfolding after_calls
  more {ns} {ks} {r} {x} {y} {z} {ns'} {ks'} {r'} {x'} {y'} {z'} {ns''} {ks''} {i} {a} hn hk g e b d =
      let same : called F (leaves 0 r x y z) i ≡ after_calls F B (suc i) = rw (g.readings, g.rows, g.cols, g.values) in
      let left : leaves a r' x' y' z' ≡ after_calls F B (suc i) = e ∙ same in
      let word : a ≡ (after_calls F B (suc i)).word = ap (λ (t : Bytes). t.word) left in
      record {
        readings = rw add-one (ap (λ (t : Bytes). t.readings) left);
        rows = rw add-one (ap (λ (t : Bytes). t.rows) left);
        cols = rw add-one (ap (λ (t : Bytes). t.cols) left);
        values = rw add-one (ap (λ (t : Bytes). t.values) left);
        numbers = joined_made (bytes_of 4) 4 (bytes_of_length 4) (number_at F B) i ns ns' ns'' hn g.numbers (b ∙ ap (λ (w : ℕ). sets ns' (4 * i) (bytes_of 4 (w % 256))) word);
        counts = joined_made (bytes_of 4) 4 (bytes_of_length 4) (count_at F B) i ks ks' ks'' hk g.counts (d ∙ ap (λ (w : ℕ). sets ks' (4 * i) (bytes_of 4 (w / 256))) word);
        numbers_kept = ap (λ (l : List ℕ). length l) b ∙ length-sets ns' (4 * i) (bytes_of 4 (a % 256)) ∙ g.numbers_kept;
        counts_kept = ap (λ (l : List ℕ). length l) d ∙ length-sets ks' (4 * i) (bytes_of 4 (a / 256)) ∙ g.counts_kept;
      }

  -- ---- the returns

  module _ (ns ks : List ℕ) where
    refused : {n : ℕ} → in_turn_number F.changes ns ks ≡ n → (n ≡ 0 → ⊥) → in_turn n B ns ks ≡ in_turn_call F B ns ks
    unfolding in_turn_call
    refused {n} e h = rw (e, ne_eqb n 0 h)

    pub uneven : (length F.changes % 12 ≡ 0 → ⊥) → in_turn 1 B ns ks ≡ in_turn_call F B ns ks
    unfolding in_turn_number first_of
    uneven h = refused (rw (ne_eqb (length F.changes % 12) 0 h)) (λ e. absurd (omega arith))

    pub short : length F.changes % 12 ≡ 0 → length ns / 4 < length F.changes / 12 ⊎ ((length F.changes / 12 ≤ length ns / 4) × (length ks / 4 < length F.changes / 12)) → in_turn 7 B ns ks ≡ in_turn_call F B ns ks
    unfolding in_turn_number first_of
    short h (inl l) = refused (rw (eq-eqb (length F.changes % 12) 0 h, lt-ltb (length ns / 4) (length F.changes / 12) l)) (λ e. absurd (omega arith))
    short h (inr (n, l)) =
        refused (rw (eq-eqb (length F.changes % 12) 0 h, le-ltb (length ns / 4) (length F.changes / 12) n, lt-ltb (length ks / 4) (length F.changes / 12) l)) (λ e. absurd (omega arith))

    passes : length F.changes % 12 ≡ 0 → length F.changes / 12 ≤ length ns / 4 → length F.changes / 12 ≤ length ks / 4 → in_turn_number F.changes ns ks ≡ 0
    unfolding in_turn_number first_of
    passes h n k =
        rw (eq-eqb (length F.changes % 12) 0 h, le-ltb (length ns / 4) (length F.changes / 12) n, le-ltb (length ks / 4) (length F.changes / 12) k)

    pub done : {i : ℕ} {r x y z ns' ks' : List ℕ} → length F.changes % 12 ≡ 0 → length F.changes / 12 ≤ length ns / 4 → length F.changes / 12 ≤ length ks / 4
        → i ≡ length F.changes / 12 → Calling ns ks i r x y z ns' ks' → in_turn 0 (leaves 0 r x y z) ns' ks' ≡ in_turn_call F B ns ks
    unfolding in_turn_call
    done h a b e g = rw (passes h a b, g.readings, g.rows, g.cols, g.values, g.numbers, g.counts, e)
