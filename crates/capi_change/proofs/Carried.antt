-- A change on bytes: it goes by way of cells, on whose words its answer does not depend, or is refused at once.
-- Main results: `change_count`, `change_refused`, `change_taken`, `change_one`, `packed_err`, `read_whole`. Assumes nothing.
use mathlib.Core.Path.{◌≡◌, refl, sym, ap, ◌∙◌}
use mathlib.Core.Bool.{Bool, true, false, ◌&&◌}
use mathlib.Core.List.{List, [], ◌++◌, append-nil}
use Prim.Native.Nat.{ℕ, ◌*◌, ◌/◌, ◌%◌, ◌≤◌}
use native.Mathlib.Omega.{arith}
use lib.Dec.{eqb}
use lib.ListN.{length, length-map}
use lib.Seq.{drop-length}
use lib.Ieee.{Float}
use borrow.Author.Tests.{eqb-true, ltb-false, ne_eqb}
use Rattle.sequence.specs.Lists.{front}
use Rattle.std.specs.Prelude.{Result, Ok, Err}
use Rattle.std.specs.Result.{is_err}
use Rattle.sequence.specs.declared.Refusal.{Refusal}
use Rattle.sequence.specs.Answers.{Test, first_of, marked, number_of as answer_number, count_of as answer_count}
use Rattle.sequence.specs.declared.Triplet.{Triplet}
use Rattle.sequence.specs.Sheets.{rows_of, cols_of, values_of, room, short_list, laid}
use Rattle.sequence.proofs.Lists.{and_left, and_right, made_length}
use Rattle.sequence.proofs.Answers.{front_passed}
use Rattle.sequence.proofs.Fronts.{take_front}
use Rattle.words.specs.Words.{double_at, words_of, doubles_of, double_bytes}
use Rattle.words.proofs.Laws.{double_bytes-length}
use Rattle.network.specs.Numbers.{Network, sizes_hold}
use Rattle.solution_check.specs.Tests.{solution_long, solution_holds, solution_tests}
use Rattle.kkt.specs.Slots.{Rule}
use Rattle.kkt_laws.proofs.Bound.{list_length}
use Rattle.decoding.specs.Exports.{Outs, outs, packed, whole, laid_out}
use Rattle.decoding.specs.Decoding.{list_room, ListCells}
use Rattle.decoding.proofs.Decoded.{wholes}
use Rattle.decoding.proofs.Listed.{rooms}
use Rattle.decoding.proofs.Answered.{last_passed, last_same, passed_network, size_fails}
use Rattle.job_book.specs.declared.Change.{Change}
use Rattle.job_book.specs.Book.{Given, Words, words, Outcome, outcome, own_tests, outcome_by_number, counts_in, network_of, matrix_of, changed, number_of, step}
use Rattle.capi_change.specs.Told.{leaves, told_bytes}

-- ---- the bytes of a list do not depend on the sheets that it is cut from

module _ (n : ℕ) (ts : List Triplet) (q : List Float) (W U : Words) (B R C X : List ℕ) where
  again_by : (b : Bool) → eqb n 0 ≡ b → told_bytes true (outcome_by_number n ts q W) B R C X ≡ told_bytes true (outcome_by_number n ts q U) B R C X
  unfolding told_bytes outcome_by_number
  again_by true e =
      rw (e, take_front (rows_of ts) W.rows (length ts) (length-map ts _), take_front (rows_of ts) U.rows (length ts) (length-map ts _), take_front (cols_of ts) W.cols (length ts) (length-map ts _), take_front (cols_of ts) U.cols (length ts) (length-map ts _), take_front (values_of ts) W.values (length ts) (length-map ts _), take_front (values_of ts) U.values (length ts) (length-map ts _))
  again_by false e = rw (e, e)

  again : told_bytes true (outcome_by_number n ts q W) B R C X ≡ told_bytes true (outcome_by_number n ts q U) B R C X
  again = again_by (eqb n 0) refl

-- the count where 0 says that the list is no longer than that
count_by : (n : ℕ) (ts : List Triplet) (q : List Float) (W : Words) (most : ℕ) → (n ≡ 0 → length ts ≤ most) → (b : Bool) → eqb n 0 ≡ b → (outcome_by_number n ts q W).count ≤ most
unfolding outcome_by_number
count_by n ts q W most h true e = rw e (h (eqb-true n 0 e))
count_by n ts q W most h false e = rw e (omega arith)

-- ---- the bytes of an accepted change

-- the bytes of all readings are all the bytes
all_new : (rs : List Float) (B : List ℕ) → 8 * length rs ≡ length B → front (double_bytes rs) B ≡ double_bytes rs
unfolding front
all_new rs B e =
    let l : length (double_bytes rs) ≡ length B = double_bytes-length rs ∙ e in
    rw (l, drop-length B, append-nil (double_bytes rs))

taken_bytes : (k : ℕ) (W : Words) (B R C X : List ℕ) {a : ℕ} {R' C' X' : List ℕ} → outs a R' C' X' ≡ laid_out true (laid 0 k W.rows W.cols W.values) R C X → leaves a (double_bytes W.readings) R' C' X' ≡ told_bytes true (outcome 0 k W) B R C X
unfolding told_bytes laid_out
taken_bytes k W B R C X e = ap (λ (o : Outs). leaves o.word (double_bytes W.readings) o.rows o.cols o.values) e

-- ---- a call that is refused at once

one_by : (ok : Bool) (n : ℕ) (ts : List Triplet) (q : List Float) (W : Words) (B R C X : List ℕ) → (ok ≡ true → n ≡ 1) → leaves 1 B R C X ≡ told_bytes ok (outcome_by_number n ts q W) B R C X
unfolding told_bytes outcome_by_number
one_by false n ts q W B R C X h = refl
one_by true n ts q W B R C X h = rw (h refl)

-- ---- the change's number, in cells and in the sheets' own words

module _ (G : Given) (rule : Rule) (read : List Float) (h : Change) where
  abbrev none : Words → Change → List Test
  none U g = []

  abbrev N : Network
  N = network_of G read

  abbrev list : List Triplet
  list = matrix_of G rule (changed G read h)

  abbrev first : List Test
  first = solution_tests false N G.solution

  abbrev tests : List Test
  tests = first ++ own_tests (counts_in G) h.kind h.index h.value

  -- where no test before 7 holds the network is accepted, and its list is short
  first_none : first_of tests ≡ 0 → first_of first ≡ 0
  unfolding marked
  first_none e = front_passed first (own_tests (counts_in G) h.kind h.index h.value) tt e

  small : first_of tests ≡ 0 → length list ≤ 27552
  small e =
      let a = passed_network N (solution_long N G.solution) (solution_holds false N G.solution) (first_none e) in
      omega (arith, list_length rule (counts_in G) G.wiring (changed G read h) G.indexes G.coefficients G.solution a.wired, a.wired.laid.few)

  module _ (R C X : List ℕ) (r c : List ℕ) (v : List Float) (cells : ListCells 27552 (length R) (length C) (length X) (length r) (length c) (length v)) where
    same : number_of G rule none (words read r c v) h ≡ number_of G rule none (words read (words_of R) (words_of C) (doubles_of X)) h
    unfolding number_of own_tests marked
    same = last_same tests tt (short_list list r c v) (short_list list (words_of R) (words_of C) (doubles_of X)) (rooms tests tt list 27552 small R C X r c v cells)

    told_same : (B : List ℕ) → told_bytes true (step G rule none (words read r c v) h) B R C X ≡ told_bytes true (step G rule none (words read (words_of R) (words_of C) (doubles_of X)) h) B R C X
    unfolding step
    told_same B =
        again (number_of G rule none (words read r c v) h) list (changed G read h) (words read r c v) (words read (words_of R) (words_of C) (doubles_of X)) B R C X
        ∙ ap (λ (j : ℕ). told_bytes true (outcome_by_number j list (changed G read h) (words read (words_of R) (words_of C) (doubles_of X))) B R C X) same

    passed : number_of G rule none (words read r c v) h ≡ 0 → length list ≤ room r c v
    unfolding number_of own_tests marked
    passed z = ltb-false _ _ (last_passed tests tt (short_list list r c v) z)

    few : (step G rule none (words read r c v) h).count ≤ list_room 27552 (length R) (length C) (length X)
    unfolding step
    few =
        let m = number_of G rule none (words read r c v) h in
        count_by m list (changed G read h) (words read r c v) _ (λ z. omega (arith, passed z, cells.in_rows, cells.in_cols, cells.in_values)) (eqb m 0) refl

    -- ---- the returns of the call by way of cells

    module _ {n k : ℕ} {W : Words} (e : outcome n k W ≡ step G rule none (words read r c v) h) where
      pub change_count : k ≤ list_room 27552 (length R) (length C) (length X)
      change_count = rw (ap (λ (o : Outcome). o.count) e) few

      over : (B : List ℕ) → told_bytes true (outcome n k W) B R C X ≡ told_bytes true (step G rule none (words read (words_of R) (words_of C) (doubles_of X)) h) B R C X
      over B = ap (λ (o : Outcome). told_bytes true o B R C X) e ∙ told_same B

      refused_bytes : (n ≡ 0 → ⊥) → (B : List ℕ) → leaves (packed n 0) B R C X ≡ told_bytes true (outcome n k W) B R C X
      unfolding told_bytes
      refused_bytes z B = rw (ne_eqb n 0 z)

      -- refused: no byte moves
      pub change_refused : (n ≡ 0 → ⊥) → {a : ℕ} → a ≡ packed n 0 → (B : List ℕ) → leaves a B R C X ≡ told_bytes true (step G rule none (words read (words_of R) (words_of C) (doubles_of X)) h) B R C X
      change_refused z {a} p B = ap (λ (x : ℕ). leaves x B R C X) p ∙ refused_bytes z B ∙ over B

      -- accepted: every reading's bytes, and the list's in front
      pub change_taken : n ≡ 0 → {a : ℕ} {B' R' C' X' : List ℕ} (B : List ℕ) → B' ≡ front (double_bytes W.readings) B → 8 * length W.readings ≡ length B
          → outs a R' C' X' ≡ laid_out true (laid 0 k W.rows W.cols W.values) R C X
          → leaves a B' R' C' X' ≡ told_bytes true (step G rule none (words read (words_of R) (words_of C) (doubles_of X)) h) B R C X
      change_taken z {a} {B'} {R'} {C'} {X'} B b l t =
          let g : B' ≡ double_bytes W.readings = b ∙ all_new W.readings B l in
          ap (λ (x : List ℕ). leaves a x R' C' X') g ∙ taken_bytes k W B R C X t ∙ ap (λ (j : ℕ). told_bytes true (outcome j k W) B R C X) (sym z) ∙ over B

  -- ---- sizes that do not hold are refused at once

  pub change_one : (W : Words) → W.readings ≡ read → (ok : Bool) (B R C X : List ℕ) → ok && (sizes_hold N && solution_long N G.solution) ≡ false → leaves 1 B R C X ≡ told_bytes ok (step G rule none W h) B R C X
  unfolding step number_of
  change_one W q ok B R C X e = one_by ok _ _ _ W B R C X (λ o. rw q (size_fails N (solution_long N G.solution) (solution_holds false N G.solution) _ ok e o))

-- ---- a refusal in one word

pub packed_err : (a : Result ℕ Refusal) → is_err a ≡ true → packed (answer_number a) (answer_count a) ≡ packed (answer_number a) 0
packed_err (Ok n) e = cc
packed_err (Err r) e = refl

-- ---- what was decoded

-- the readings' bytes are eight times their doubles
pub read_whole : (w r i k : List ℕ) {rs : List Float} → wholes w r i k ≡ true → rs ≡ doubles_of r → 8 * length rs ≡ length r
read_whole w r i k e q =
    let z : length r % 8 ≡ 0 = eqb-true _ _ (and_left (whole 8 r) _ (and_right (whole 4 w) _ e)) in
    rw q (omega (arith, z, made_length (double_at r) (length r / 8)))
