-- The returns of the matrix call, whatever list is laid. Main results: `matrix_refused`, `matrix_laid`. Assumes nothing.
use mathlib.Core.Path.{◌≡◌, sym, ap}
use mathlib.Core.Bool.{false}
use mathlib.Core.List.{List, [], ◌∷◌}
use Prim.Native.Nat.{ℕ}
use lib.Ieee.{Float}
use Rattle.sequence.specs.Answers.{Test, test, first_of}
use Rattle.sequence.specs.declared.Triplet.{Triplet}
use Rattle.sequence.specs.Sheets.{laid, lays, lays_if, short_list}
use Rattle.sequence.proofs.Sheets.{lays_refused}
use Rattle.network.specs.Numbers.{Network}
use Rattle.model.proofs.Calls.{network_stands, network_passes}
use Rattle.solution_check.specs.Tests.{solution_long, solution_holds, solution_tests}
use Rattle.sens_dc.specs.Calls.{matrix_number}

module _ (N : Network) (s : List Float) (ts : List Triplet) (R C : List ℕ) (X : List Float) {k : ℕ} (e : k ≡ first_of (solution_tests false N s)) where
  pub matrix_refused : (further : List Test) → (k ≡ 0 → ⊥) → laid k 0 R C X ≡ lays (matrix_number further N s ts R C X) ts R C X
  unfolding matrix_number
  matrix_refused further h = lays_refused ts R C X (network_stands N (solution_long N s) (solution_holds false N s) _ e h) h

  pub matrix_laid : k ≡ 0 → lays_if ts R C X ≡ lays (matrix_number [] N s ts R C X) ts R C X
  unfolding matrix_number first_of
  matrix_laid z =
      ap (λ (n : ℕ). lays n ts R C X) (sym (network_passes N (solution_long N s) (solution_holds false N s) (test 7 (short_list ts R C X) ∷ []) e z))
