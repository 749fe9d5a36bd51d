-- An operand's selector on bytes, by way of four sheets of cells: it has at most 512 elements, and the laws of the call's answer.
-- Main results: `passed_room`, `answer_refused`, `answer_done`, `selector_one`. Assumes nothing.
use mathlib.Core.Path.{◌≡◌, refl, sym, ap, ◌∙◌}
use mathlib.Core.Bool.{Bool, true, false, cond, ◌&&◌, ◌||◌}
use mathlib.Core.List.{List, [], ◌∷◌}
use Prim.Native.Nat.{ℕ, ◌/◌, ◌≤◌, min}
use native.Mathlib.Omega.{arith}
use lib.Dec.{eqb, ltb}
use lib.ListN.{length, take}
use lib.Ieee.{Float}
use Rattle.std.specs.Prelude.{Option, Some, None}
use borrow.Author.Tests.{eqb-true, ne_eqb}
use Rattle.float64.specs.Values.{one}
use Rattle.sequence.specs.Lists.{front}
use Rattle.sequence.specs.Answers.{marked}
use Rattle.sequence.specs.Sheets.{laid as list}
use Rattle.sequence.proofs.Lists.{made_length}
use Rattle.sequence.proofs.Fronts.{take_front}
use Rattle.words.specs.Words.{word_at, double_at, words_of, doubles_of, double_bytes, joined}
use Rattle.network.specs.Numbers.{Network, network_tests, sizes_hold}
use Rattle.solution_check.specs.Tests.{counted}
use Rattle.interface.specs.declared.Operand.{Operand}
use Rattle.sens_operands.specs.declared.Reported.{Reported}
use Rattle.sens_operands.specs.Calls.{served_of, elements, Selection, selection, start_of, selector_of, short_of, fronts, Selected, selected, own_tests, selector_number, laid, selector_call}
use Rattle.sens_operands.proofs.Returns.{short_is, room_of, few_elements}
use Rattle.decoding.specs.Exports.{Outs, outs, packed, laid_out}
use Rattle.decoding.proofs.Answered.{short_same, last_passed, last_same, few_counts, size_fails}
use Rattle.capi_columns.specs.Columns.{selecting, selector_out}
use Rattle.capi_columns.proofs.Column.{gives_number}

-- ---- room

-- cells for at most `most` words have the same room for so few as what they stand for
same_short : (a b n most x : ℕ) → n ≤ most → a ≡ min most x → b ≡ x → ltb a n ≡ ltb b n
same_short a b n most x h e q = short_same a b n (λ l. omega arith) (λ l. omega arith)

four : {a b c d a' b' c' d' : Bool} → a ≡ a' → b ≡ b' → c ≡ c' → d ≡ d' → a || b || c || d ≡ a' || b' || c' || d'
four e f g h = rw (e, f, g, h)

module _ (N : Network) where
  abbrev called : Option Reported → Selection → Selected
  called x L = laid (selector_number N x L) (counted N) N.wiring N.readings x L

  abbrev rows : Reported → Selection
  rows q = selector_of (counted N) N.wiring N.readings q

  -- an operand that is not served is refused
  unknown_refused : (L : Selection) → selector_number N None L ≡ 0 → ⊥
  unfolding selector_number marked
  unknown_refused L e = gives_number (network_tests N true true) 4 tt (λ z. omega arith) e

  number_is : (j : ℕ) (x : Option Reported) (L : Selection) → (laid j (counted N) N.wiring N.readings x L).number ≡ j
  unfolding laid
  number_is j None L = refl
  number_is j (Some q) L = go (eqb j 0) refl
    where
      go : (b : Bool) → eqb j 0 ≡ b → (cond b (selected 0 (elements (counted N) q) (fronts (rows q) L)) (selected j 0 L)).number ≡ j
      go true e = sym (eqb-true j 0 e)
      go false e = refl

  refused_left : (j : ℕ) (x : Option Reported) (L : Selection) → (j ≡ 0 → ⊥) → laid j (counted N) N.wiring N.readings x L ≡ selected j 0 L
  unfolding laid
  refused_left j None L h = refl
  refused_left j (Some q) L h = rw (ne_eqb j 0 h)

  module _ (S K R W : List ℕ) where
    abbrev own : Selection
    own = selection (doubles_of S) (words_of K) (words_of R) (doubles_of W)

    -- a refusal leaves the bytes as they were
    as_before : (j : ℕ) (L : Selection) → (j ≡ 0 → ⊥) → selector_out true (selected j 0 L) S K R W ≡ selecting (packed j 0) S K R W
    unfolding selector_out front joined
    as_before j L h = rw (ne_eqb j 0 h)

    refusal : (j : ℕ) (x : Option Reported) (L : Selection) → (j ≡ 0 → ⊥) → selector_out true (laid j (counted N) N.wiring N.readings x L) S K R W ≡ selecting (packed j 0) S K R W
    refusal j x L h = ap (λ (t : Selected). selector_out true t S K R W) (refused_left j x L h) ∙ as_before j L h

    -- the selector is in front, whatever sheets it is cut from
    same_fronts : (q : Reported) (L M : Selection)
        → selector_out true (selected 0 (elements (counted N) q) (fronts (rows q) L)) S K R W ≡ selector_out true (selected 0 (elements (counted N) q) (fronts (rows q) M)) S K R W
    unfolding selector_out
    same_fronts q L M =
        let n = elements (counted N) q in
        rw
        (take_front (one ∷ []) L.sign 1 refl, take_front (one ∷ []) M.sign 1 refl, take_front (rows q).counts L.counts n (made_length _ n), take_front (rows q).counts M.counts n (made_length _ n), take_front (rows q).rows L.rows n (made_length _ n), take_front (rows q).rows M.rows n (made_length _ n), take_front (rows q).weights L.weights n (made_length _ n), take_front (rows q).weights M.weights n (made_length _ n))

    module _ (g : List Float) (k r : List ℕ) (w : List Float) (hg : length g ≡ min 1 (length S / 8)) (hk : length k ≡ min 512 (length K / 4)) (hr : length r ≡ min 512 (length R / 4)) (hw : length w ≡ min 512 (length W / 8)) where
      abbrev cells : Selection
      cells = selection g k r w

      rooms : (q : Reported) → elements (counted N) q ≤ 512 → short_of (rows q) cells ≡ short_of (rows q) own
      rooms q few =
          let n = elements (counted N) q in
          sym (short_is g k r w (start_of (counted N) N.wiring N.readings q) n)
          ∙ four (same_short (length g) (length (doubles_of S)) 1 1 (length S / 8) (omega arith) hg (made_length (double_at S) (length S / 8))) (same_short (length k) (length (words_of K)) n 512 (length K / 4) few hk (made_length (word_at K) (length K / 4))) (same_short (length r) (length (words_of R)) n 512 (length R / 4) few hr (made_length (word_at R) (length R / 4))) (same_short (length w) (length (doubles_of W)) n 512 (length W / 8) few hw (made_length (double_at W) (length W / 8)))
          ∙ short_is (doubles_of S) (words_of K) (words_of R) (doubles_of W) (start_of (counted N) N.wiring N.readings q) n

      same_number : (x : Option Reported) → selector_number N x cells ≡ selector_number N x own
      unfolding selector_number marked
      same_number None = refl
      same_number (Some q) = last_same (network_tests N true true) tt (short_of (rows q) cells) (short_of (rows q) own) (λ z. rooms q (few_elements (few_counts N true true z) q))

      roomy : (x : Option Reported) → selector_number N x cells ≡ 0 → (1 ≤ length g) × ((called x cells).count ≤ length k) × ((called x cells).count ≤ length r) × ((called x cells).count ≤ length w)
      unfolding selector_number marked laid
      roomy None z = absurd (unknown_refused cells z)
      roomy (Some q) z =
          let n = elements (counted N) q in
          let f : ltb (length g) 1 || ltb (length k) n || ltb (length r) n || ltb (length w) n ≡ false = short_is g k r w (start_of (counted N) N.wiring N.readings q) n ∙ last_passed (network_tests N true true) tt (short_of (rows q) cells) z in
          rw z (room_of (length g) (length k) (length r) (length w) n f)

      done_by : (x : Option Reported) → selector_number N x cells ≡ 0 → selector_out true (called x cells) S K R W ≡ selector_out true (called x own) S K R W
      unfolding laid
      done_by None z = absurd (unknown_refused cells z)
      done_by (Some q) z =
          ap (λ (j : ℕ). selector_out true (laid j (counted N) N.wiring N.readings (Some q) cells) S K R W) z
          ∙ same_fronts q cells own
          ∙ ap (λ (j : ℕ). selector_out true (laid j (counted N) N.wiring N.readings (Some q) own) S K R W) (sym z ∙ same_number (Some q))

      module _ (o : Operand) {n m : ℕ} {L : Selection} (e : selected n m L ≡ selector_call N o cells) where
        abbrev x : Option Reported
        x = served_of o

        number : n ≡ selector_number N x cells
        number = ap (λ (a : Selected). a.number) e ∙ number_is (selector_number N x cells) x cells

        pub passed_room : n ≡ 0 → (1 ≤ length g) × (m ≤ length k) × (m ≤ length r) × (m ≤ length w)
        passed_room z = rw (ap (λ (a : Selected). a.count) e) (roomy x (sym number ∙ z))

        pub answer_refused : {a : ℕ} → (n ≡ 0 → ⊥) → a ≡ packed n 0 → selecting a S K R W ≡ selector_out true (selector_call N o own) S K R W
        answer_refused h f =
            let j = number ∙ same_number x in
            ap (λ (t : ℕ). selecting t S K R W) f
            ∙ ap (λ (t : ℕ). selecting (packed t 0) S K R W) j
            ∙ sym (refusal (selector_number N x own) x own (λ z. h (j ∙ z)))

        pub answer_done : {a : ℕ} {S' K' R' W' : List ℕ} → n ≡ 0 → S' ≡ front (double_bytes (take 1 L.sign)) S → outs a K' R' W' ≡ laid_out true (list 0 m L.counts L.rows L.weights) K R W
            → selecting a S' K' R' W' ≡ selector_out true (selector_call N o own) S K R W
        unfolding selector_out laid_out
        answer_done {S' = S'} z f h =
            ap (λ (t : Outs). selecting t.word S' t.rows t.cols t.values) h
            ∙ ap (λ (t : List ℕ). selecting (packed 0 m) t (laid_out true (list 0 m L.counts L.rows L.weights) K R W).rows (laid_out true (list 0 m L.counts L.rows L.weights) K R W).cols (laid_out true (list 0 m L.counts L.rows L.weights) K R W).values) f
            ∙ ap (λ (j : ℕ). selector_out true (selected j m L) S K R W) (sym z)
            ∙ ap (λ (t : Selected). selector_out true t S K R W) e
            ∙ done_by x (sym number ∙ z)

    -- ---- sizes that do not hold are refused at once

    one_by : (j : ℕ) (x : Option Reported) (L : Selection) (ok : Bool) → (ok ≡ true → j ≡ 1) → selecting 1 S K R W ≡ selector_out ok (laid j (counted N) N.wiring N.readings x L) S K R W
    unfolding selector_out
    one_by j x L false h = refl
    one_by j x L true h = ap (λ (t : ℕ). selecting (packed t 0) S K R W) (sym (h refl)) ∙ sym (refusal j x L (λ z. absurd (omega (arith, h refl))))

    pub selector_one : (o : Operand) (L : Selection) (ok : Bool) → ok && (sizes_hold N && true) ≡ false → selecting 1 S K R W ≡ selector_out ok (selector_call N o L) S K R W
    unfolding selector_number
    selector_one o L ok e = one_by (selector_number N (served_of o) L) (served_of o) L ok (size_fails N true true (own_tests (counted N) N.wiring N.readings (served_of o) L) ok e)
