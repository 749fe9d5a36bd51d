-- One column of a parameter on bytes: it has dim doubles, at most 6544, and the laws of the call's answer.
-- Main results: `gives_number`; `passed_size`, `passed_room`, `passed_count`, `answer_refused`, `answer_done`, `column_one`. Assumes nothing.
use mathlib.Core.Path.{◌≡◌, refl, sym, ap, ◌∙◌}
use mathlib.Core.Bool.{Bool, true, false, cond, not, ◌&&◌}
use mathlib.Core.List.{List, [], ◌∷◌, ◌++◌}
use Prim.Native.Nat.{ℕ, ◌/◌, ◌≤◌}
use native.Mathlib.Nat.{mul-zero, mul-one}
use native.Mathlib.Omega.{arith}
use lib.Dec.{T, eqb}
use lib.ListN.{length, take}
use lib.Ieee.{Float}
use Rattle.std.specs.Prelude.{Option, Some, None}
use borrow.Author.Tests.{eqb-true, ne_eqb, ltb-false}
use Rattle.sequence.specs.Lists.{each, front}
use Rattle.sequence.specs.Answers.{Test, test, first_of, marked, short, Filled, filled}
use Rattle.sequence.proofs.Lists.{made_length}
use Rattle.sequence.proofs.Answers.{holding, rest_passed}
use Rattle.sequence.proofs.Fronts.{take_front}
use Rattle.words.specs.Words.{double_at, doubles_of, double_bytes, joined}
use Rattle.network.specs.Numbers.{Network, sizes_hold}
use Rattle.solution_check.specs.Tests.{counted, solution_long, solution_holds, solution_tests}
use Rattle.selector_check.specs.Tests.{dim_of}
use Rattle.selector_check.proofs.Dims.{dim_few}
use Rattle.interface.specs.declared.Parameter.{Parameter}
use Rattle.parameter_column.specs.declared.Served.{Served}
use Rattle.parameter_column.specs.Columns.{column_words}
use Rattle.parameter_sheet.specs.Sheet.{jacobian}
use Rattle.sens_parameters.specs.Calls.{served_of, columns_hold, is_cost, some_piecewise, columns_of, result_of, own_tests, jacobian_number, columns_filled, jacobian_call}
use Rattle.decoding.specs.Exports.{out, packed}
use Rattle.decoding.specs.Decoding.{Cells}
use Rattle.decoding.proofs.Answered.{short_same, last_passed, last_same, size_fails, passed_sizes}
use Rattle.capi_columns.specs.Columns.{column_out}

-- ---- tests in front of others

-- a list with a test that holds gives a number
pub gives_number : (a : List Test) (n : ℕ) → T (marked a) → (n ≡ 0 → ⊥) → first_of (a ++ test n true ∷ []) ≡ 0 → ⊥
gives_number a n m h e = h (sym (holding n true [] refl) ∙ rest_passed a (test n true ∷ []) m e)

-- ---- what a column's bytes are

module _ (d i : ℕ) (result : List Float) where
  -- a refusal leaves the bytes as they were
  refusal : {j : ℕ} (sheet : List Float) (bs : List ℕ) → (j ≡ 0 → ⊥) → column_out true d (columns_filled j (i ∷ []) result sheet) bs ≡ out (packed j 0) bs
  unfolding column_out columns_filled front joined
  refusal {j} sheet bs h = rw (ne_eqb j 0 h, mul-zero d)

  -- a result of d doubles is in front, whatever sheet it is cut from
  result_front : (sheet : List Float) (bs : List ℕ) → length result ≡ d → column_out true d (columns_filled 0 (i ∷ []) result sheet) bs ≡ out (packed 0 1) (front (double_bytes result) bs)
  unfolding column_out columns_filled
  result_front sheet bs e = rw (mul-one d, take_front result sheet d e)

module _ (N : Network) (s : List Float) (i : ℕ) where
  -- ---- lengths

  one_long : (k : Served) → length (columns_of N s k (i ∷ [])) ≡ dim_of N
  unfolding jacobian each column_words
  one_long k = made_length _ (dim_of N)

  -- ---- the tests of a served parameter before that of its sheet

  abbrev before_room : Served → List Test
  before_room k = solution_tests false N s ++ test 5 (not (columns_hold (counted N) k (i ∷ []))) ∷ test 6 (is_cost k && some_piecewise (counted N) N.wiring (i ∷ [])) ∷ []

  abbrev called : Option Served → List Float → Filled Float
  called x sheet = columns_filled (jacobian_number N s x (i ∷ []) sheet) (i ∷ []) (result_of N s x (i ∷ [])) sheet

  unknown_refused : (sheet : List Float) → jacobian_number N s None (i ∷ []) sheet ≡ 0 → ⊥
  unfolding jacobian_number marked
  unknown_refused sheet e = gives_number (solution_tests false N s) 4 tt (λ z. omega arith) e

  -- ---- what number 0 says

  sized : (x : Option Served) (sheet : List Float) → jacobian_number N s x (i ∷ []) sheet ≡ 0 → sizes_hold N ≡ true
  unfolding jacobian_number
  sized x sheet e = passed_sizes N (solution_long N s) (solution_holds false N s) (own_tests N s x (i ∷ []) sheet) e

  roomy : (x : Option Served) (sheet : List Float) → jacobian_number N s x (i ∷ []) sheet ≡ 0 → dim_of N ≤ length sheet
  unfolding jacobian_number marked
  roomy (Some k) sheet e = omega (arith, one_long k, ltb-false (length sheet) (length (columns_of N s k (i ∷ []))) (last_passed (before_room k) tt (short (columns_of N s k (i ∷ [])) sheet) e))
  roomy None sheet e = absurd (unknown_refused sheet e)

  -- ---- the call's answer, its result by way of cells

  number_is : (j : ℕ) (result sheet : List Float) → (columns_filled j (i ∷ []) result sheet).number ≡ j
  unfolding columns_filled
  number_is j result sheet = go (eqb j 0) refl
    where
      go : (b : Bool) → eqb j 0 ≡ b → (cond b (filled 0 1 (front result sheet)) (filled j 0 sheet)).number ≡ j
      go true e = sym (eqb-true j 0 e)
      go false e = refl

  module _ (p : Parameter) (bs : List ℕ) (cells : List Float) (room : Cells 6544 (length bs) (length cells)) where
    same_number : (x : Option Served) → jacobian_number N s x (i ∷ []) cells ≡ jacobian_number N s x (i ∷ []) (doubles_of bs)
    unfolding jacobian_number marked
    same_number None = refl
    same_number (Some k) = last_same (before_room k) tt (short (columns_of N s k (i ∷ [])) cells) (short (columns_of N s k (i ∷ [])) (doubles_of bs)) rooms
      where
        rooms : first_of (before_room k) ≡ 0 → short (columns_of N s k (i ∷ [])) cells ≡ short (columns_of N s k (i ∷ [])) (doubles_of bs)
        rooms z =
            let few : dim_of N ≤ 6544 = dim_few N (passed_sizes N (solution_long N s) (solution_holds false N s) _ z) in
            short_same (length cells) (length (doubles_of bs)) (length (columns_of N s k (i ∷ [])))
            (λ l. omega (arith, made_length (double_at bs) (length bs / 8), room.within))
            (λ l. room.enough (length (columns_of N s k (i ∷ []))) (omega (arith, one_long k)) (omega (arith, made_length (double_at bs) (length bs / 8))))

    result_long : (x : Option Served) → jacobian_number N s x (i ∷ []) cells ≡ 0 → length (result_of N s x (i ∷ [])) ≡ dim_of N
    result_long (Some k) z = one_long k
    result_long None z = absurd (unknown_refused cells z)

    module _ {n m : ℕ} {new : List Float} (e : filled n m new ≡ jacobian_call N s p (i ∷ []) cells) where
      abbrev x : Option Served
      x = served_of p

      number : n ≡ jacobian_number N s x (i ∷ []) cells
      number = ap (λ (a : Filled Float). a.number) e ∙ number_is (jacobian_number N s x (i ∷ []) cells) (result_of N s x (i ∷ [])) cells

      pub passed_size : n ≡ 0 → sizes_hold N ≡ true
      passed_size z = sized x cells (sym number ∙ z)

      pub passed_room : n ≡ 0 → dim_of N ≤ length cells
      passed_room z = roomy x cells (sym number ∙ z)

      pub passed_count : n ≡ 0 → m ≡ 1
      unfolding columns_filled
      passed_count z = ap (λ (a : Filled Float). a.count) e ∙ ap (λ (t : ℕ). (columns_filled t (i ∷ []) (result_of N s x (i ∷ [])) cells).count) (sym number ∙ z)

      pub answer_refused : {a : ℕ} → (n ≡ 0 → ⊥) → a ≡ packed n 0 → out a bs ≡ column_out true (dim_of N) (jacobian_call N s p (i ∷ []) (doubles_of bs)) bs
      answer_refused h f =
          let j = number ∙ same_number x in
          ap (λ (t : ℕ). out t bs) f
          ∙ ap (λ (t : ℕ). out (packed t 0) bs) j
          ∙ sym (refusal (dim_of N) i (result_of N s x (i ∷ [])) (doubles_of bs) bs (λ z. h (j ∙ z)))

      pub answer_done : {a d : ℕ} {bs' : List ℕ} → n ≡ 0 → d ≡ dim_of N → bs' ≡ front (double_bytes (take d new)) bs → a ≡ packed 0 m → out a bs' ≡ column_out true (dim_of N) (jacobian_call N s p (i ∷ []) (doubles_of bs)) bs
      unfolding columns_filled
      answer_done {a} {d} {bs'} z g f h =
          let j = sym number ∙ z in
          let l = result_long x j in
          let r : new ≡ front (result_of N s x (i ∷ [])) cells = ap (λ (t : Filled Float). t.sheet) e ∙ ap (λ (t : ℕ). (columns_filled t (i ∷ []) (result_of N s x (i ∷ [])) cells).sheet) j in
          let t : take d new ≡ result_of N s x (i ∷ []) = ap (take d) r ∙ take_front (result_of N s x (i ∷ [])) cells d (l ∙ sym g) in
          ap (λ (w : ℕ). out w bs') (h ∙ ap (packed 0) (passed_count z))
          ∙ ap (out (packed 0 1)) (f ∙ ap (λ (y : List Float). front (double_bytes y) bs) t)
          ∙ sym (result_front (dim_of N) i (result_of N s x (i ∷ [])) (doubles_of bs) bs l)
          ∙ ap (λ (w : ℕ). column_out true (dim_of N) (columns_filled w (i ∷ []) (result_of N s x (i ∷ [])) (doubles_of bs)) bs) (sym j ∙ same_number x)

  -- ---- sizes that do not hold are refused at once

  one_by : (j : ℕ) (result sheet : List Float) (ok : Bool) (bs : List ℕ) → (ok ≡ true → j ≡ 1) → out 1 bs ≡ column_out ok (dim_of N) (columns_filled j (i ∷ []) result sheet) bs
  unfolding column_out
  one_by j result sheet false bs h = refl
  one_by j result sheet true bs h = ap (λ (t : ℕ). out (packed t 0) bs) (sym (h refl)) ∙ sym (refusal (dim_of N) i result sheet bs (λ z. absurd (omega (arith, h refl))))

  pub column_one : (p : Parameter) (sheet : List Float) (ok : Bool) (bs : List ℕ) → ok && (sizes_hold N && solution_long N s) ≡ false → out 1 bs ≡ column_out ok (dim_of N) (jacobian_call N s p (i ∷ []) sheet) bs
  unfolding jacobian_number
  column_one p sheet ok bs e =
      one_by (jacobian_number N s (served_of p) (i ∷ []) sheet) (result_of N s (served_of p) (i ∷ [])) sheet ok bs
      (size_fails N (solution_long N s) (solution_holds false N s) (own_tests N s (served_of p) (i ∷ []) sheet) ok e)
