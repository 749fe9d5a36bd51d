-- The call before the solve on bytes: the laws of its answer.
-- Main results: `first_answer`, `first_written`, `first_count`; `first_one`, `unfit`. Assumes nothing.
use mathlib.Core.Path.{◌≡◌, refl, ap, ◌∙◌}
use mathlib.Core.Bool.{Bool, true, false, cond, ◌&&◌}
use mathlib.Core.List.{List, [], ◌∷◌, ◌++◌}
use Prim.Native.Nat.{ℕ, ◌*◌, ◌/◌, ◌≤◌}
use native.Mathlib.Omega.{arith}
use lib.Dec.{T, eqb}
use lib.ListN.{length, take}
use lib.Ieee.{Float}
use borrow.Author.Tests.{ltb-false, eqb-true}
use Rattle.sequence.specs.Lists.{front}
use Rattle.sequence.specs.Answers.{test, first_of, marked, short, Filled, filled}
use Rattle.sequence.proofs.Lists.{made_length}
use Rattle.sequence.proofs.Answers.{front_passed}
use Rattle.sequence.proofs.Fronts.{take_front}
use Rattle.words.specs.Words.{double_at, doubles_of, double_bytes, joined}
use Rattle.network.specs.Numbers.{Network, sizes_hold}
use Rattle.interface.specs.declared.Mode.{Mode}
use Rattle.interface.specs.declared.Mode.TheVariants.{Forward, Adjoint, Auto}
use Rattle.contraction.specs.Contraction.{Selector, elements, sides}
use Rattle.contraction.proofs.Columns.{selection_long}
use Rattle.selector_check.specs.Tests.{dim_of, selector_long, selector_holds}
use Rattle.selector_check.proofs.Dims.{dim_few}
use Rattle.sens.specs.Calls.{count_fits, first_sheet, first_tests, first_number, first_call}
use Rattle.decoding.specs.Exports.{out, packed}
use Rattle.decoding.specs.Decoding.{Cells}
use Rattle.decoding.proofs.Answered.{short_same, last_passed, last_same, size_fails, passed_sizes}
use Rattle.capi_contraction.specs.Contraction.{written, first_out}

-- ---- how many words are counted and written, by the mode

module _ (S : Selector) (d : ℕ) where
  module _ (one : elements S ≡ 1) (h : d ≤ 6544) where
    sheet_few : (mode : Mode) → length (first_sheet mode S d) ≤ 6544
    sheet_few Forward = omega arith
    sheet_few Adjoint = rw (selection_long S d, one) (omega (arith, h))
    sheet_few Auto = omega arith

    count_few : (mode : Mode) → d * sides mode 1 (elements S) ≤ 6544
    count_few Forward = omega (arith, h)
    count_few Adjoint = rw one (omega (arith, h))
    count_few Auto = omega arith

  written_long : (mode : Mode) → written mode (d * sides mode 1 (elements S)) ≡ length (first_sheet mode S d)
  written_long Forward = refl
  written_long Adjoint = rw (selection_long S d)
  written_long Auto = refl

written_none : (mode : Mode) → written mode 0 ≡ 0
written_none Forward = refl
written_none Adjoint = refl
written_none Auto = refl

-- ---- a call's answer

module _ (mode : Mode) (S : Selector) (d n : ℕ) where
  abbrev answered : Bool → List Float → Filled Float
  answered b s = cond b (filled 0 (d * sides mode 1 (elements S)) (front (first_sheet mode S d) s)) (filled n 0 s)

  -- the bytes do not depend on the sheet that they are cut from
  refilled : (b : Bool) (s t : List Float) (bs : List ℕ) → first_out true mode (answered b s) bs ≡ first_out true mode (answered b t) bs
  unfolding first_out
  refilled true s t bs =
      rw (written_long S d mode, take_front (first_sheet mode S d) s (length (first_sheet mode S d)) refl, take_front (first_sheet mode S d) t (length (first_sheet mode S d)) refl)
  refilled false s t bs = rw (written_none mode)

  count_by : elements S ≡ 1 → (b : Bool) (s : List Float) → (b ≡ true → d ≤ 6544) → (answered b s).count ≤ 6544
  count_by one true s h = count_few S d one (h refl) mode
  count_by one false s h = omega arith

  written_by : (b : Bool) (s : List Float) → (b ≡ true → length (first_sheet mode S d) ≤ length s) → written mode (answered b s).count ≤ length s
  written_by true s h = rw (written_long S d mode) (h refl)
  written_by false s h = rw (written_none mode) (omega arith)

module _ (N : Network) (mode : Mode) (S : Selector) (one : elements S ≡ 1) where
  tests_marked : T (marked (first_tests N mode S 1))
  unfolding marked
  tests_marked = tt

  few : first_of (first_tests N mode S 1) ≡ 0 → dim_of N ≤ 6544
  few z = dim_few N (passed_sizes N (selector_long S && count_fits mode (dim_of N) 1) (selector_holds S && true) _ z)

  module _ (bs : List ℕ) (cells : List Float) (room : Cells 6544 (length bs) (length cells)) {n k : ℕ} {new : List Float} (e : filled n k new ≡ first_call N mode S 1 cells) where
    rooms : first_of (first_tests N mode S 1) ≡ 0 → short (first_sheet mode S (dim_of N)) cells ≡ short (first_sheet mode S (dim_of N)) (doubles_of bs)
    rooms z =
        short_same (length cells) (length (doubles_of bs)) (length (first_sheet mode S (dim_of N)))
        (λ l. omega (arith, made_length (double_at bs) (length bs / 8), room.within))
        (λ l. room.enough (length (first_sheet mode S (dim_of N))) (sheet_few S (dim_of N) one (few z) mode) (omega (arith, made_length (double_at bs) (length bs / 8))))

    numbers : first_number N mode S 1 cells ≡ first_number N mode S 1 (doubles_of bs)
    unfolding first_number
    numbers = last_same (first_tests N mode S 1) tests_marked (short (first_sheet mode S (dim_of N)) cells) (short (first_sheet mode S (dim_of N)) (doubles_of bs)) rooms

    passed : eqb (first_number N mode S 1 cells) 0 ≡ true → first_of (first_tests N mode S 1 ++ test 7 (short (first_sheet mode S (dim_of N)) cells) ∷ []) ≡ 0
    unfolding first_number
    passed z = eqb-true _ 0 z

    refills : first_out true mode (filled n k new) bs ≡ first_out true mode (first_call N mode S 1 (doubles_of bs)) bs
    unfolding first_call
    refills =
        ap (λ (a : Filled Float). first_out true mode a bs) e
        ∙ refilled mode S (dim_of N) (first_number N mode S 1 cells) (eqb (first_number N mode S 1 cells) 0) cells (doubles_of bs) bs
        ∙ ap (λ (j : ℕ). first_out true mode (answered mode S (dim_of N) j (eqb j 0) (doubles_of bs)) bs) numbers

    -- the call's number and count in one word, and as many bytes as are written
    pub first_answer : {a j : ℕ} {left : List ℕ} → a ≡ packed n k → j ≡ written mode k → left ≡ front (double_bytes (take j new)) bs → out a left ≡ first_out true mode (first_call N mode S 1 (doubles_of bs)) bs
    unfolding first_out
    first_answer p w q = rw (q, w, p) refills

    pub first_count : k ≤ 6544
    unfolding first_call
    first_count =
        rw (ap (λ (a : Filled Float). a.count) e)
        (count_by mode S (dim_of N) (first_number N mode S 1 cells) one (eqb (first_number N mode S 1 cells) 0) cells (λ z. few (front_passed (first_tests N mode S 1) _ tests_marked (passed z))))

    pub first_written : written mode k ≤ length cells
    unfolding first_call
    first_written =
        rw (ap (λ (a : Filled Float). a.count) e)
        (written_by mode S (dim_of N) (first_number N mode S 1 cells) (eqb (first_number N mode S 1 cells) 0) cells (λ z. ltb-false _ _ (last_passed (first_tests N mode S 1) tests_marked _ (passed z))))

-- ---- slices that do not fit, and sizes that do not hold, are refused at once

pub unfit : (mode : Mode) (a : Filled Float) (ok : Bool) (bs : List ℕ) → ok ≡ false → out 1 bs ≡ first_out ok mode a bs
unfolding first_out
unfit mode a ok bs e = rw e

module _ (N : Network) (mode : Mode) (S : Selector) (sheet : List Float) (bs : List ℕ) where
  number_one : sizes_hold N ≡ false → first_number N mode S 1 sheet ≡ 1
  unfolding first_number
  number_one e = size_fails N (selector_long S && count_fits mode (dim_of N) 1) (selector_holds S && true) _ true (rw e) refl

  pub first_one : (ok : Bool) → ok && sizes_hold N ≡ false → out 1 bs ≡ first_out ok mode (first_call N mode S 1 sheet) bs
  unfolding first_out first_call front joined
  first_one false e = refl
  first_one true e = rw (number_one e, written_none mode)
