-- Tests over a list of columns.
-- Main results: `all_each`, `any_each`; `columns_at`, `cost_below`, `number_5` to `number_cost`. Assumes nothing.
use mathlib.Core.Path.{◌≡◌, refl, sym, ap, subst, ◌∙◌}
use mathlib.Core.Bool.{Bool, true, false}
use mathlib.Core.List.{List}
use Prim.Native.Nat.{ℕ, zero, suc, ◌≤◌, ◌<◌}
use native.Mathlib.Nat.{le_of_eq}
use native.Mathlib.Omega.{arith}
use native.Mathlib.Numerals.{add-one}
use lib.Dec.{T, ltb}
use lib.ListN.{length, get_or, take}
use borrow.Author.Tests.{ltb-true}
use lib.Seq.{take-length}
use Rattle.std.specs.List.{list_all, list_any}
use Rattle.std.proofs.lemmas.List.Folds.{list_any_more}
use Rattle.sequence.specs.Lists.{every, some}
use Rattle.sequence.specs.Answers.{first_of}
use Rattle.sequence.proofs.Lists.{every_at}
use Rattle.network.specs.declared.Counts.{Counts}
use Rattle.network.proofs.Tests.{all_first}
use Rattle.parameter_column.specs.declared.Served.{Served}
use Rattle.parameter_column.specs.declared.Served.TheVariants as served
use Rattle.parameter_column.specs.Columns.{elements}
use Rattle.sens_parameters.specs.Calls.{columns_hold, is_cost, some_piecewise, columns_number}

module _ {A : Type 0} (test : A → Bool) (xs : List A) (d : A) where
  pub all_each : list_all test xs ≡ every (λ t. test (get_or xs t d)) (length xs)
  all_each = ap (list_all test) (sym (take-length xs)) ∙ all_first test xs d (length xs) (le_of_eq refl)

  any_first : (n : ℕ) → n ≤ length xs → list_any test (take n xs) ≡ some (λ t. test (get_or xs t d)) n
  unfolding some
  any_first zero h = refl
  any_first (suc n) h = rw add-one at (list_any_more test xs n d (omega arith)) ∙ rw (any_first n (omega arith))

  pub any_each : list_any test xs ≡ some (λ t. test (get_or xs t d)) (length xs)
  any_each = ap (list_any test) (sym (take-length xs)) ∙ any_first (length xs) (le_of_eq refl)

-- ---- the columns' number

-- every column is an element
pub columns_at : (c : Counts) (k : Served) (is : List ℕ) → columns_hold c k is ≡ true → (t : ℕ) → t < length is → get_or is t 0 < elements c k
unfolding columns_hold
columns_at c k is e t h = ltb-true (get_or is t 0) (elements c k) (every_at (λ i. ltb (get_or is i 0) (elements c k)) (length is) e t h)

-- a cost's elements are the generators
pub cost_below : (c : Counts) (k : Served) (i : ℕ) → is_cost k ≡ true → i < elements c k → i < c.generators
cost_below c served.Demand i e h = absurd (subst T (sym e) tt)
cost_below c served.CostQuadratic i e h = h
cost_below c served.CostLinear i e h = h
cost_below c served.LineLimit i e h = absurd (subst T (sym e) tt)
cost_below c served.BranchSusceptance i e h = absurd (subst T (sym e) tt)
cost_below c served.Switching i e h = absurd (subst T (sym e) tt)
cost_below c served.ConstraintLimit i e h = absurd (subst T (sym e) tt)

module _ (c : Counts) (w : List ℕ) (k : Served) (is : List ℕ) where
  pub number_5 : columns_hold c k is ≡ false → 5 ≡ columns_number c w k is
  unfolding columns_number first_of
  number_5 e = rw e

  pub number_plain : columns_hold c k is ≡ true → is_cost k ≡ false → 0 ≡ columns_number c w k is
  unfolding columns_number first_of
  number_plain e f = rw (e, f)

  pub number_6 : columns_hold c k is ≡ true → is_cost k ≡ true → some_piecewise c w is ≡ true → 6 ≡ columns_number c w k is
  unfolding columns_number first_of
  number_6 e f g = rw (e, f, g)

  pub number_cost : columns_hold c k is ≡ true → is_cost k ≡ true → some_piecewise c w is ≡ false → 0 ≡ columns_number c w k is
  unfolding columns_number first_of
  number_cost e f g = rw (e, f, g)
