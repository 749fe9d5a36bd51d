-- The matrix on bytes and in typed sheets: at most 27552 triplets, and the laws of the call's answer.
-- Main results: `matrix_answer`, `matrix_count`, `matrix_small`, `matrix_one`, `packs`. Assumes nothing.
use mathlib.Core.Path.{◌≡◌, ap, ◌∙◌}
use mathlib.Core.Bool.{Bool, true, false, ◌&&◌}
use mathlib.Core.List.{List, [], ◌∷◌}
use Prim.Native.Nat.{ℕ, ◌≤◌}
use native.Mathlib.Omega.{arith}
use lib.ListN.{length}
use lib.Ieee.{Float}
use Rattle.sequence.specs.Answers.{test, first_of, marked}
use Rattle.sequence.specs.Sheets.{Laid, laid, short_list}
use Rattle.words.specs.Words.{words_of, doubles_of}
use Rattle.network.specs.Numbers.{Network, sizes_hold}
use Rattle.solution_check.specs.Tests.{counted, solution_long, solution_holds, solution_tests}
use Rattle.kkt.specs.Slots.{Rule}
use Rattle.kkt_laws.proofs.Bound.{list_length}
use Rattle.sens_dc.specs.Calls.{list_of, matrix_number, matrix_call}
use Rattle.decoding.specs.Exports.{outs, packed, laid_out}
use Rattle.decoding.specs.Decoding.{list_room, ListCells}
use Rattle.decoding.proofs.Answered.{passed_network}
use Rattle.decoding.proofs.Listed.{list_answer, list_count, laid_count, list_one}
use Rattle.capi_sens.specs.Packed.{packed_laid, packing}

module _ (rule : Rule) (N : Network) (s : List Float) where
  small : first_of (solution_tests false N s) ≡ 0 → length (list_of rule N s) ≤ 27552
  small z =
      let a = passed_network N (solution_long N s) (solution_holds false N s) z in
      omega (arith, list_length rule (counted N) N.wiring N.readings N.indexes N.coefficients s a.wired, a.wired.laid.few)

  module _ (R C X : List ℕ) (r c : List ℕ) (v : List Float) (cells : ListCells 27552 (length R) (length C) (length X) (length r) (length c) (length v)) {n k : ℕ} {r' c' : List ℕ} {v' : List Float} (e : laid n k r' c' v' ≡ matrix_call rule [] N s r c v) where
    pub matrix_answer : laid_out true (laid n k r' c' v') R C X ≡ laid_out true (matrix_call rule [] N s (words_of R) (words_of C) (doubles_of X)) R C X
    unfolding matrix_number marked
    matrix_answer = list_answer (solution_tests false N s) tt (list_of rule N s) 27552 small R C X r c v cells e

    pub matrix_count : k ≤ list_room 27552 (length R) (length C) (length X)
    unfolding matrix_number marked
    matrix_count = list_count (solution_tests false N s) tt (list_of rule N s) 27552 small R C X r c v cells e

  pub matrix_small : (r c : List ℕ) (v : List Float) {n k : ℕ} {r' c' : List ℕ} {v' : List Float} → laid n k r' c' v' ≡ matrix_call rule [] N s r c v → k ≤ 27552
  unfolding matrix_number marked
  matrix_small r c v e = laid_count (solution_tests false N s) tt (list_of rule N s) 27552 small r c v e

  pub matrix_one : (r c : List ℕ) (v : List Float) (ok : Bool) (R C X : List ℕ) → ok && (sizes_hold N && solution_long N s) ≡ false → outs 1 R C X ≡ laid_out ok (matrix_call rule [] N s r c v) R C X
  unfolding matrix_number
  matrix_one r c v ok R C X e = list_one N (solution_long N s) (solution_holds false N s) (test 7 (short_list (list_of rule N s) r c v) ∷ []) (list_of rule N s) r c v ok R C X e

-- a call's answer, with number and count in one word
pub packs : {n k a : ℕ} {r c : List ℕ} {v : List Float} {x : Laid} → a ≡ packed n k → laid n k r c v ≡ x → packed_laid a r c v ≡ packing x
packs {r = r} {c = c} {v = v} e q = ap (λ (z : ℕ). packed_laid z r c v) e ∙ ap packing q
