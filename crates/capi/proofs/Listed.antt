-- The susceptance list on bytes: at most four triplets for each of 512 branches. Assumes nothing.
use mathlib.Core.Path.{◌≡◌}
use mathlib.Core.Bool.{Bool, true, false, ◌&&◌}
use mathlib.Core.List.{List, [], ◌∷◌}
use Prim.Native.Nat.{ℕ, ◌≤◌}
use native.Mathlib.Omega.{arith}
use lib.ListN.{length}
use lib.Ieee.{Float}
use Rattle.sequence.specs.Answers.{test, first_of, marked}
use Rattle.sequence.specs.declared.Triplet.{Triplet}
use Rattle.sequence.specs.Sheets.{laid, short_list}
use Rattle.words.specs.Words.{words_of, doubles_of}
use Rattle.network.specs.Numbers.{Network, network_tests, sizes_hold}
use Rattle.susceptance.specs.Susceptance.{susceptance_coo}
use Rattle.susceptance.proofs.Bound.{list_length}
use Rattle.model.specs.Calls.{counted, list_number, susceptance_call}
use Rattle.decoding.specs.Exports.{outs, laid_out}
use Rattle.decoding.specs.Decoding.{list_room, ListCells}
use Rattle.decoding.proofs.Answered.{few_counts}
use Rattle.decoding.proofs.Listed.{list_answer, list_count, list_one}

module _ (N : Network) where
  abbrev list : List Triplet
  list = susceptance_coo (counted N) N.wiring N.readings

  small : first_of (network_tests N true true) ≡ 0 → length list ≤ 2048
  small z = omega (arith, list_length (counted N) N.wiring N.readings, (few_counts N true true z).branches)

  module _ (R C X : List ℕ) (r c : List ℕ) (v : List Float) (cells : ListCells 2048 (length R) (length C) (length X) (length r) (length c) (length v)) {n k : ℕ} {r' c' : List ℕ} {v' : List Float} (e : laid n k r' c' v' ≡ susceptance_call N r c v) where
    pub susceptance_answer : laid_out true (laid n k r' c' v') R C X ≡ laid_out true (susceptance_call N (words_of R) (words_of C) (doubles_of X)) R C X
    unfolding list_number marked
    susceptance_answer = list_answer (network_tests N true true) tt list 2048 small R C X r c v cells e

    pub susceptance_count : k ≤ list_room 2048 (length R) (length C) (length X)
    unfolding list_number marked
    susceptance_count = list_count (network_tests N true true) tt list 2048 small R C X r c v cells e

  pub susceptance_one : (r c : List ℕ) (v : List Float) (ok : Bool) (R C X : List ℕ) → ok && (sizes_hold N && true) ≡ false → outs 1 R C X ≡ laid_out ok (susceptance_call N r c v) R C X
  unfolding list_number
  susceptance_one r c v ok R C X e = list_one N true true (test 7 (short_list list r c v) ∷ []) list r c v ok R C X e
