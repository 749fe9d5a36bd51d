-- The laws of a list of triplets on bytes, for a call whose last test is of its sheets' room: it goes by way of cells, or is refused at once. Assumes nothing.
use mathlib.Core.Path.{◌≡◌, refl, ap, ◌∙◌}
use mathlib.Core.Bool.{Bool, true, false, cond, ◌&&◌}
use mathlib.Core.List.{List, [], ◌∷◌, ◌++◌}
use Prim.Native.Nat.{ℕ, ◌≤◌, min}
use native.Mathlib.Omega.{arith}
use lib.Dec.{T, eqb}
use lib.ListN.{length, take, length-map}
use lib.Seq.{length-take-le}
use lib.Ieee.{Float}
use borrow.Author.Tests.{ltb-false, eqb-true}
use Rattle.sequence.specs.Lists.{front}
use Rattle.sequence.specs.Answers.{Test, test, first_of, marked}
use Rattle.sequence.specs.declared.Triplet.{Triplet}
use Rattle.sequence.specs.Sheets.{rows_of, cols_of, values_of, Laid, laid, lays, room, short_list}
use Rattle.sequence.proofs.Lists.{made_length}
use Rattle.sequence.proofs.Answers.{front_passed}
use Rattle.words.specs.Words.{words_of, doubles_of, joined}
use Rattle.sequence.proofs.Fronts.{take_front}
use Rattle.network.specs.Numbers.{Network, network_tests, sizes_hold}
use Rattle.decoding.specs.Exports.{outs, laid_out}
use Rattle.decoding.specs.Decoding.{list_room, ListCells}
use Rattle.decoding.proofs.Answered.{last_passed, last_same, short_same, size_fails}

-- ---- a list's bytes do not depend on the sheets that it is cut from

module _ (ts : List Triplet) (r c r' c' : List ℕ) (v v' : List Float) where
  relay_by : (b : Bool) (n : ℕ) (R C X : List ℕ)
      → laid_out true (cond b (laid 0 (length ts) (front (rows_of ts) r) (front (cols_of ts) c) (front (values_of ts) v)) (laid n 0 r c v)) R C X
      ≡ laid_out true (cond b (laid 0 (length ts) (front (rows_of ts) r') (front (cols_of ts) c') (front (values_of ts) v')) (laid n 0 r' c' v')) R C X
  unfolding laid_out
  relay_by true n R C X =
      rw (take_front (rows_of ts) r (length ts) (length-map ts _), take_front (rows_of ts) r' (length ts) (length-map ts _), take_front (cols_of ts) c (length ts) (length-map ts _), take_front (cols_of ts) c' (length ts) (length-map ts _), take_front (values_of ts) v (length ts) (length-map ts _), take_front (values_of ts) v' (length ts) (length-map ts _))
  relay_by false n R C X = refl

  relay : (n : ℕ) (R C X : List ℕ) → laid_out true (lays n ts r c v) R C X ≡ laid_out true (lays n ts r' c' v') R C X
  unfolding lays
  relay n R C X = relay_by (eqb n 0) n R C X

count_by : (b : Bool) (n : ℕ) (ts : List Triplet) (r c : List ℕ) (v : List Float) (most : ℕ) → (b ≡ true → length ts ≤ most)
    → (cond b (laid 0 (length ts) (front (rows_of ts) r) (front (cols_of ts) c) (front (values_of ts) v)) (laid n 0 r c v)).count ≤ most
count_by true n ts r c v most h = h refl
count_by false n ts r c v most h = omega arith

count_of : (n : ℕ) (ts : List Triplet) (r c : List ℕ) (v : List Float) (most : ℕ) → (n ≡ 0 → length ts ≤ most) → (lays n ts r c v).count ≤ most
unfolding lays
count_of n ts r c v most h = count_by (eqb n 0) n ts r c v most (λ e. h (eqb-true n 0 e))

-- ---- a call whose last test is of its sheets' room

min_left : {k : ℕ} (a b : ℕ) → k ≤ min a b → k ≤ a
min_left a b h = omega arith

min_right : {k : ℕ} (a b : ℕ) → k ≤ min a b → k ≤ b
min_right a b h = omega arith

min_both : {k : ℕ} (a b : ℕ) → k ≤ a → k ≤ b → k ≤ min a b
min_both a b h g = omega arith

module _ (ts : List Test) (m : T (marked ts)) (list : List Triplet) where
  abbrev pub list_tested : List ℕ → List ℕ → List Float → ℕ
  list_tested r c v = first_of (ts ++ test 7 (short_list list r c v) ∷ [])

  module _ (most : ℕ) (small : first_of ts ≡ 0 → length list ≤ most) (R C X : List ℕ) (r c : List ℕ) (v : List Float) (cells : ListCells most (length R) (length C) (length X) (length r) (length c) (length v)) where
    -- cells and the sheets' own words have the same room for a list that is short
    pub rooms : first_of ts ≡ 0 → short_list list r c v ≡ short_list list (words_of R) (words_of C) (doubles_of X)
    rooms z =
        short_same (room r c v) (room (words_of R) (words_of C) (doubles_of X)) (length list)
        (λ l. simp made_length (min_right most _ (rw cells.in_rows at (min_left (length r) _ l))))
        (λ l. let h : length list ≤ list_room most (length R) (length C) (length X) = min_both most _ (small z) (simp made_length at l) in
        rw (cells.in_rows, cells.in_cols, cells.in_values) (min_both _ _ h (min_both _ _ h h)))

    passed : list_tested r c v ≡ 0 → length list ≤ room r c v
    passed z = ltb-false _ _ (last_passed ts m (short_list list r c v) z)

    module _ {n k : ℕ} {r' c' : List ℕ} {v' : List Float} (e : laid n k r' c' v' ≡ lays (list_tested r c v) list r c v) where
      pub list_answer : laid_out true (laid n k r' c' v') R C X ≡ laid_out true (lays (list_tested (words_of R) (words_of C) (doubles_of X)) list (words_of R) (words_of C) (doubles_of X)) R C X
      list_answer =
          ap (λ (a : Laid). laid_out true a R C X) e
          ∙ relay list r c (words_of R) (words_of C) v (doubles_of X) (list_tested r c v) R C X
          ∙ ap (λ (j : ℕ). laid_out true (lays j list (words_of R) (words_of C) (doubles_of X)) R C X) (last_same ts m _ _ rooms)

      pub list_count : k ≤ list_room most (length R) (length C) (length X)
      list_count =
          rw (ap (λ (a : Laid). a.count) e)
          (count_of (list_tested r c v) list r c v _ (λ z. omega (arith, passed z, cells.in_rows, cells.in_cols, cells.in_values)))

  -- whatever sheets it is lent, the count is no greater than the list's greatest length
  pub laid_count : (most : ℕ) → (first_of ts ≡ 0 → length list ≤ most) → (r c : List ℕ) (v : List Float) {n k : ℕ} {r' c' : List ℕ} {v' : List Float} → laid n k r' c' v' ≡ lays (list_tested r c v) list r c v → k ≤ most
  laid_count most small r c v e = rw (ap (λ (a : Laid). a.count) e) (count_of (list_tested r c v) list r c v most (λ z. small (front_passed ts (test 7 (short_list list r c v) ∷ []) m z)))

-- ---- sizes that do not hold are refused at once, whatever tests follow

one_by : (ok : Bool) (number : ℕ) (ts : List Triplet) (r c : List ℕ) (v : List Float) (R C X : List ℕ) → (ok ≡ true → number ≡ 1) → outs 1 R C X ≡ laid_out ok (lays number ts r c v) R C X
unfolding laid_out lays front joined
one_by false number ts r c v R C X h = refl
one_by true number ts r c v R C X h = rw (h refl)

pub list_one : (N : Network) (sizes values : Bool) (further : List Test) (list : List Triplet) (r c : List ℕ) (v : List Float) (ok : Bool) (R C X : List ℕ) → ok && (sizes_hold N && sizes) ≡ false
    → outs 1 R C X ≡ laid_out ok (lays (first_of (network_tests N sizes values ++ further)) list r c v) R C X
list_one N sizes values further list r c v ok R C X e = one_by ok _ list r c v R C X (size_fails N sizes values further ok e)

-- ---- cells that are cut to the list's room

pub list_cells : {most n rows cols values : ℕ} → n ≡ list_room most rows cols values → (r c : List ℕ) (v : List Float) → n ≤ length r → n ≤ length c → n ≤ length v
    → ListCells most rows cols values (length (take n r)) (length (take n c)) (length (take n v))
list_cells {n = n} e r c v hr hc hv = record { in_rows = length-take-le n r hr ∙ e; in_cols = length-take-le n c hc ∙ e; in_values = length-take-le n v hv ∙ e }
