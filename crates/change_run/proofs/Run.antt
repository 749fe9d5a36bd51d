-- A run of changes by its last one: what it has left and written so far. Main results: `after_more`, `lines_more`; `begin`, `more`; `change_is`; `run_uneven`, `run_short`, `run_done`. Assumes nothing.
use mathlib.Core.Path.{◌≡◌, refl, sym, ap, ◌∙◌}
use mathlib.Core.Logic.{◌⊎◌, inl, inr}
use mathlib.Core.List.{List, [], ◌∷◌, ◌++◌, map}
use Prim.Native.Nat.{ℕ, zero, suc, ◌+◌, ◌*◌, ◌/◌, ◌%◌, ◌≤◌, ◌<◌}
use native.Mathlib.Numerals.{add-one}
use native.Mathlib.Omega.{arith}
use lib.ListN.{length, get_or, drop, set, length-set, length-map}
use borrow.Author.Tests.{eq-eqb, ne_eqb, lt-ltb, le-ltb}
use Rattle.std.specs.Simd.{first_chunks}
use Rattle.std.proofs.lemmas.List.{get_or-take, get_or-drop}
use Rattle.sequence.specs.Lists.{made, front}
use Rattle.sequence.specs.Answers.{Test, first_of}
use Rattle.sequence.proofs.Lists.{made_length}
use Rattle.sequence.proofs.Fronts.{front_more}
use Rattle.kkt.specs.Slots.{Rule}
use Rattle.job_book.specs.declared.Change.{Change}
use Rattle.job_book.specs.Book.{Given, Words, Line, line, Outcome, outcome, step, lines, words_after, change, change_at, numbers_of, counts_of_lines, ran, run_number, run_call}

-- ---- a slice by three words

word_in : (k : ℕ) (ws : List ℕ) (i j : ℕ) → i < k → j < 3 → get_or (get_or (first_chunks 3 k ws) i []) j 0 ≡ get_or ws (3 * i + j) 0
word_in zero ws i j h l = absurd (omega arith)
word_in (suc k) ws zero j h l =
    let e : j ≡ 3 * 0 + j = omega arith in
    get_or-take 3 ws j 0 l ∙ ap (λ (m : ℕ). get_or ws m 0) e
word_in (suc k) ws (suc i) j h l =
    let e : 3 + (3 * i + j) ≡ 3 * suc i + j = omega arith in
    word_in k (drop 3 ws) i j (omega arith) l ∙ get_or-drop 3 ws (3 * i + j) 0 ∙ ap (λ (m : ℕ). get_or ws m 0) e

pub change_is : (ws : List ℕ) (i : ℕ) {whole : List (List ℕ)} → whole ≡ first_chunks 3 (length ws / 3) ws → i < length ws / 3
    → change (get_or (get_or whole i []) 0 0) (get_or (get_or whole i []) 1 0) (get_or (get_or whole i []) 2 0) ≡ change_at ws i
change_is ws i {whole} e h =
    let z : 3 * i + 0 ≡ 3 * i = omega arith in
    rw (e, word_in (length ws / 3) ws i 0 h (omega arith), word_in (length ws / 3) ws i 1 h (omega arith), word_in (length ws / 3) ws i 2 h (omega arith), z) refl

module _ (G : Given) (rule : Rule) (further : Words → Change → List Test) where
  abbrev after : Words → List Change → Words
  after W hs = words_after G rule further W hs

  abbrev written : Words → List Change → List Line
  written W hs = lines G rule further W hs

  abbrev taken : Words → Change → Line
  taken W h = line h (step G rule further W h).number (step G rule further W h).count

  -- one change more, the last
  pub after_more : (W : Words) (hs : List Change) (h : Change) → after W (hs ++ h ∷ []) ≡ (step G rule further (after W hs) h).left
  unfolding words_after
  after_more W [] h = refl
  after_more W (g ∷ hs) h = after_more (step G rule further W g).left hs h

  pub lines_more : (W : Words) (hs : List Change) (h : Change) → written W (hs ++ h ∷ []) ≡ written W hs ++ taken (after W hs) h ∷ []
  unfolding lines words_after
  lines_more W [] h = refl
  lines_more W (g ∷ hs) h = ap (λ (ls : List Line). taken W g ∷ ls) (lines_more (step G rule further W g).left hs h)

  lines_length : (W : Words) (hs : List Change) → length (written W hs) ≡ length hs
  unfolding lines
  lines_length W [] = refl
  lines_length W (g ∷ hs) = ap suc (lines_length (step G rule further W g).left hs)

  map_more : (f : Line → ℕ) (ls : List Line) (l : Line) → map f (ls ++ l ∷ []) ≡ map f ls ++ f l ∷ []
  map_more f [] l = refl
  map_more f (x ∷ ls) l = ap (λ (ks : List ℕ). f x ∷ ks) (map_more f ls l)

  -- one word more of what the lines say goes to a sheet
  column_more : (f : Line → ℕ) (W : Words) (hs : List Change) (h : Change) (i : ℕ) (old now : List ℕ) → length hs ≡ i → i < length old → now ≡ front (map f (written W hs)) old
      → set now i (f (taken (after W hs) h)) ≡ front (map f (written W (hs ++ h ∷ []))) old
  column_more f W hs h i old now e l q =
      rw (q, lines_more W hs h, map_more f (written W hs) (taken (after W hs) h))
      (front_more (map f (written W hs)) (f (taken (after W hs) h) ∷ []) old i (length-map (written W hs) f ∙ lines_length W hs ∙ e) (omega arith))

  -- what i changes of a slice have left and written
  pub record Going (W : Words) (ws ns ks : List ℕ) (i : ℕ) (U : Words) (ns' ks' : List ℕ) : Type 0 where
    pub left : U ≡ after W (made (change_at ws) i)
    pub numbers : ns' ≡ front (numbers_of (written W (made (change_at ws) i))) ns
    pub counts : ks' ≡ front (counts_of_lines (written W (made (change_at ws) i))) ks
    pub numbers_kept : length ns' ≡ length ns
    pub counts_kept : length ks' ≡ length ks

  pub begin : (W : Words) (ws ns ks : List ℕ) → Going W ws ns ks 0 W ns ks
  unfolding made front lines words_after
  begin W ws ns ks = record { left = refl; numbers = refl; counts = refl; numbers_kept = refl; counts_kept = refl }

  pub more : {W U U' : Words} {ws ns ks ns' ks' : List ℕ} {i n k x y : ℕ} → i < length ns → i < length ks → Going W ws ns ks i U ns' ks'
      → outcome n k U' ≡ step G rule further U (change_at ws i) → x ≡ n → y ≡ k
      → Going W ws ns ks (i + 1) U' (set ns' i x) (set ks' i y)
  unfolding made
  more {W} {U} {U'} {ws} {ns} {ks} {ns'} {ks'} {i} {n} {k} {x} {y} hn hk g e p q =
      let hs : List Change = made (change_at ws) i in
      let l : length hs ≡ i = made_length (change_at ws) i in
      let f : outcome n k U' ≡ step G rule further (after W hs) (change_at ws i) = rw g.left at e in
      record {
        left = rw add-one (ap (λ (o : Outcome). o.left) f ∙ sym (after_more W hs (change_at ws i)));
        numbers =
            rw add-one (ap (set ns' i) (p ∙ ap (λ (o : Outcome). o.number) f)
            ∙ column_more (λ (l : Line). l.number) W hs (change_at ws i) i ns ns' l hn g.numbers);
        counts =
            rw add-one (ap (set ks' i) (q ∙ ap (λ (o : Outcome). o.count) f)
            ∙ column_more (λ (l : Line). l.count) W hs (change_at ws i) i ks ks' l hk g.counts);
        numbers_kept = length-set ns' i x ∙ g.numbers_kept;
        counts_kept = length-set ks' i y ∙ g.counts_kept;
      }

  -- ---- the returns

  module _ (W : Words) (ws ns ks : List ℕ) where
    refused : {n : ℕ} → run_number ws ns ks ≡ n → (n ≡ 0 → ⊥) → ran n 0 W ns ks ≡ run_call G rule further W ws ns ks
    unfolding run_call
    refused {n} e z = rw (e, ne_eqb n 0 z)

    pub run_uneven : (length ws % 3 ≡ 0 → ⊥) → ran 1 0 W ns ks ≡ run_call G rule further W ws ns ks
    unfolding run_number first_of
    run_uneven h = refused (rw (ne_eqb (length ws % 3) 0 h)) (λ z. absurd (omega arith))

    pub run_short : length ws % 3 ≡ 0 → length ns < length ws / 3 ⊎ ((length ws / 3 ≤ length ns) × (length ks < length ws / 3)) → ran 7 0 W ns ks ≡ run_call G rule further W ws ns ks
    unfolding run_number first_of
    run_short h (inl l) = refused (rw (eq-eqb (length ws % 3) 0 h, lt-ltb (length ns) (length ws / 3) l)) (λ z. absurd (omega arith))
    run_short h (inr (n, l)) =
        refused (rw (eq-eqb (length ws % 3) 0 h, le-ltb (length ns) (length ws / 3) n, lt-ltb (length ks) (length ws / 3) l)) (λ z. absurd (omega arith))

    run_number_lem : length ws % 3 ≡ 0 → length ws / 3 ≤ length ns → length ws / 3 ≤ length ks → run_number ws ns ks ≡ 0
    unfolding run_number first_of
    run_number_lem h n k = rw (eq-eqb (length ws % 3) 0 h, le-ltb (length ns) (length ws / 3) n, le-ltb (length ks) (length ws / 3) k)

    pub run_done : {i : ℕ} {U : Words} {ns' ks' : List ℕ} → length ws % 3 ≡ 0 → length ws / 3 ≤ length ns → length ws / 3 ≤ length ks
        → i ≡ length ws / 3 → Going W ws ns ks i U ns' ks' → ran 0 (length ws / 3) U ns' ks' ≡ run_call G rule further W ws ns ks
    unfolding run_call
    run_done h a b e g = rw (run_number_lem h a b, g.left, g.numbers, g.counts, e)
