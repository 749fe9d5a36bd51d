-- The returns of `parameter_jacobian`, one law for each.
-- Main results: `served_refused`, `served_laid`; `jacobian_refused`, `jacobian_served`, `jacobian_empty`, `jacobian_unknown`. Assumes nothing.
use mathlib.Core.Path.{◌≡◌, sym, ap, ◌∙◌}
use mathlib.Core.Bool.{false, not, ◌&&◌}
use mathlib.Core.List.{List, [], ◌∷◌}
use Prim.Native.Nat.{ℕ}
use native.Mathlib.Omega.{arith}
use lib.Dec.{eqb}
use lib.ListN.{length}
use lib.Ieee.{Float}
use Rattle.std.specs.Prelude.{Some, None}
use borrow.Author.Tests.{eq-eqb, ne_eqb}
use Rattle.sequence.specs.Lists.{front}
use Rattle.sequence.specs.Answers.{Test, test, first_of, marked, short, filled}
use Rattle.sequence.proofs.Answers.{no_test, passed, holding, first_stands, first_passes}
use Rattle.network.specs.declared.Counts.{Counts}
use Rattle.network.specs.Numbers.{Network}
use Rattle.model.proofs.Calls.{network_stands, network_passes}
use Rattle.solution.specs.Sheet.{pieces}
use Rattle.solution_check.specs.Tests.{counted, solution_long, solution_holds, solution_tests}
use Rattle.interface.specs.declared.Parameter.{Parameter}
use Rattle.parameter_column.specs.declared.Served.{Served}
use Rattle.parameter_sheet.specs.Sheet.{jacobian}
use Rattle.sens_parameters.specs.Calls.{served_of, columns_hold, is_cost, some_piecewise, columns_number, columns_of, result_of, own_tests, jacobian_number, served_number, columns_filled, columns_laid, jacobian_call}

refused : {number k : ℕ} (is : List ℕ) (result sheet : List Float) → number ≡ k → (k ≡ 0 → ⊥) → filled k 0 sheet ≡ columns_filled number is result sheet
unfolding columns_filled
refused {k = k} is result sheet e h = rw (e, ne_eqb k 0 h)

done : {number : ℕ} (is : List ℕ) (result sheet : List Float) → number ≡ 0 → filled 0 (length is) (front result sheet) ≡ columns_filled number is result sheet
unfolding columns_filled
done is result sheet e = rw e

-- ---- a served parameter's columns

module _ (c : Counts) (w ti : List ℕ) (tc : List Float) (r s : List Float) (k : Served) (is : List ℕ) (sheet : List Float) {n : ℕ} (e : n ≡ columns_number c w k is) where
  abbrev first : List Test
  first = test 5 (not (columns_hold c k is)) ∷ test 6 (is_cost k && some_piecewise c w is) ∷ []

  abbrev result : List Float
  result = jacobian c w ti tc (pieces c w) r s k is

  pub served_refused : (n ≡ 0 → ⊥) → filled n 0 sheet ≡ columns_filled (served_number c w ti tc r s k is sheet) is result sheet
  unfolding served_number columns_number marked
  served_refused h = refused is result sheet (first_stands first (test 7 (short result sheet) ∷ []) tt (λ z. h (e ∙ z)) ∙ sym e) h

  passes : n ≡ 0 → served_number c w ti tc r s k is sheet ≡ first_of (test 7 (short result sheet) ∷ [])
  unfolding served_number columns_number marked
  passes z = first_passes first (test 7 (short result sheet) ∷ []) tt (sym e ∙ z)

  pub served_laid : n ≡ 0 → columns_laid is result sheet ≡ columns_filled (served_number c w ti tc r s k is sheet) is result sheet
  unfolding first_of
  served_laid z = ap (λ (m : ℕ). columns_filled m is result sheet) (sym (passes z))

-- ---- the call

module _ (N : Network) (s : List Float) (p : Parameter) (is : List ℕ) (sheet : List Float) {n : ℕ} (e : n ≡ first_of (solution_tests false N s)) where
  pub jacobian_refused : (n ≡ 0 → ⊥) → filled n 0 sheet ≡ jacobian_call N s p is sheet
  unfolding jacobian_number
  jacobian_refused h = refused is (result_of N s (served_of p) is) sheet (network_stands N (solution_long N s) (solution_holds false N s) (own_tests N s (served_of p) is sheet) e h) h

  pub jacobian_served : n ≡ 0 → (k : Served) → served_of p ≡ Some k
      → columns_filled (served_number (counted N) N.wiring N.indexes N.coefficients N.readings s k is sheet) is (columns_of N s k is) sheet ≡ jacobian_call N s p is sheet
  unfolding jacobian_number served_number
  jacobian_served z k q =
      rw q (ap (λ (m : ℕ). columns_filled m is (columns_of N s k is) sheet) (sym (network_passes N (solution_long N s) (solution_holds false N s) (own_tests N s (Some k) is sheet) e z)))

  none : n ≡ 0 → jacobian_number N s None is sheet ≡ first_of (test 4 (not (eqb (length is) 0)) ∷ [])
  unfolding jacobian_number
  none z = network_passes N (solution_long N s) (solution_holds false N s) (own_tests N s None is sheet) e z

  pub jacobian_empty : n ≡ 0 → served_of p ≡ None → length is ≡ 0 → filled 0 0 sheet ≡ jacobian_call N s p is sheet
  unfolding front
  jacobian_empty z q l =
      rw q
      (ap (λ (m : ℕ). filled 0 m sheet) (sym l)
      ∙ done is [] sheet (none z ∙ passed 4 (not (eqb (length is) 0)) [] (rw (eq-eqb (length is) 0 l)) ∙ no_test))

  pub jacobian_unknown : n ≡ 0 → served_of p ≡ None → (length is ≡ 0 → ⊥) → filled 4 0 sheet ≡ jacobian_call N s p is sheet
  jacobian_unknown z q l =
      rw q (refused is [] sheet (none z ∙ holding 4 (not (eqb (length is) 0)) [] (rw (ne_eqb (length is) 0 l))) (λ y. absurd (omega arith)))
