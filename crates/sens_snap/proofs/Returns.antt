-- The returns of the calls that fill a sheet, one law for each, whatever is called.
-- Main results: `own_refused`, `own_short`, `own_done`; `sheet_refused`, `sheet_short`, `sheet_done`. Assumes nothing.
use mathlib.Core.Path.{◌≡◌, sym, ap, ◌∙◌}
use mathlib.Core.Bool.{Bool, true}
use mathlib.Core.List.{List, [], ◌∷◌, ◌++◌}
use Prim.Native.Nat.{ℕ, ◌≤◌, ◌<◌}
use native.Mathlib.Omega.{arith}
use lib.ListN.{length}
use lib.Ieee.{Float}
use borrow.Author.Tests.{lt-ltb, le-ltb}
use Rattle.sequence.specs.Lists.{front}
use Rattle.sequence.specs.Answers.{test, first_of, short, filled, fills}
use Rattle.sequence.proofs.Answers.{no_test, passed, holding, fills_refused, fills_done}
use Rattle.network.specs.Numbers.{Network, network_tests}
use Rattle.model.proofs.Calls.{network_stands, network_passes}
use Rattle.solution_check.specs.Tests.{solution_long, solution_holds, solution_tests}
use Rattle.sens_snap.specs.Calls.{snap_number, sheet_call}

-- whatever a call's own sizes and values are
module _ (N : Network) (sizes values : Bool) (result sheet : List Float) {k : ℕ} (e : k ≡ first_of (network_tests N sizes values)) where
  abbrev number : ℕ
  number = first_of (network_tests N sizes values ++ test 7 (short result sheet) ∷ [])

  pub own_refused : (k ≡ 0 → ⊥) → filled k 0 sheet ≡ fills number result sheet
  own_refused h = fills_refused result sheet (network_stands N sizes values _ e h) h

  pub own_short : k ≡ 0 → {n : ℕ} → length result ≡ n → length sheet < n → filled 7 0 sheet ≡ fills number result sheet
  own_short z {n} q l =
      fills_refused result sheet
      (network_passes N sizes values _ e z ∙ holding 7 _ [] (lt-ltb (length sheet) (length result) (rw q l)))
      (λ y. absurd (omega arith))

  pub own_done : k ≡ 0 → {n : ℕ} → length result ≡ n → n ≤ length sheet → {new : List Float} → new ≡ front result sheet → filled 0 n new ≡ fills number result sheet
  own_done z {n} q l {new} h =
      ap (λ (y : List Float). filled 0 n y) h
      ∙ ap (λ (y : ℕ). filled 0 y (front result sheet)) (sym q)
      ∙ fills_done result sheet (network_passes N sizes values _ e z ∙ passed 7 _ [] (le-ltb (length sheet) (length result) (rw q l)) ∙ no_test)

-- where the solution sheet is tested whole
module _ (N : Network) (s result sheet : List Float) {k : ℕ} (e : k ≡ first_of (solution_tests true N s)) where
  pub sheet_refused : (k ≡ 0 → ⊥) → filled k 0 sheet ≡ sheet_call N s result sheet
  unfolding snap_number
  sheet_refused h = own_refused N (solution_long N s) (solution_holds true N s) result sheet e h

  pub sheet_short : k ≡ 0 → {n : ℕ} → length result ≡ n → length sheet < n → filled 7 0 sheet ≡ sheet_call N s result sheet
  unfolding snap_number
  sheet_short z q l = own_short N (solution_long N s) (solution_holds true N s) result sheet e z q l

  pub sheet_done : k ≡ 0 → {n : ℕ} → length result ≡ n → n ≤ length sheet → {new : List Float} → new ≡ front result sheet → filled 0 n new ≡ sheet_call N s result sheet
  unfolding snap_number
  sheet_done z q l h = own_done N (solution_long N s) (solution_holds true N s) result sheet e z q l h
