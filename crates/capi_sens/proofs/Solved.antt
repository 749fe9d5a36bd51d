-- The calls that fill a sheet, on bytes: how long each result is at most, and the laws of such a call's answer.
-- Main results: `solved_answer`, `solved_count`, `solved_one`, `unread_solution`. Assumes nothing.
use mathlib.Core.Path.{◌≡◌}
use mathlib.Core.Bool.{Bool, true, false, ◌&&◌}
use mathlib.Core.List.{List, [], ◌∷◌}
use Prim.Native.Nat.{ℕ, ◌≤◌}
use native.Mathlib.Omega.{arith}
use lib.ListN.{length}
use lib.Ieee.{Float}
use Rattle.sequence.specs.Answers.{test, first_of, marked, short, filled}
use Rattle.sequence.proofs.Lists.{made_length}
use Rattle.words.specs.Words.{doubles_of}
use Rattle.network.specs.Numbers.{Network, sizes_hold}
use Rattle.snapping.specs.Snap.{snap_sheet, dual_sheet, nu_flow_sheet}
use Rattle.snapping.proofs.Words.{snap_long, dual_long}
use Rattle.solution_check.specs.Tests.{counted, pieces_of, solution_long, solution_holds, solution_tests}
use Rattle.solution_check.proofs.Own.{few_pieces, long_few}
use Rattle.sens_snap.specs.Calls.{snap_number, sheet_call}
use Rattle.decoding.specs.Exports.{whole, out, filled_out}
use Rattle.decoding.specs.Decoding.{fits, Cells}
use Rattle.decoding.proofs.Decoded.{network, wholes}
use Rattle.decoding.proofs.Answered.{unsized_own, passed_network, few_counts, sheet_answer, sheet_count, sheet_one}

-- ---- lengths

module _ (N : Network) (s : List Float) (z : first_of (solution_tests true N s) ≡ 0) where
  pub snap_few : length (snap_sheet (counted N) N.wiring (pieces_of N) N.readings s) ≤ 6017
  snap_few =
      let a = passed_network N (solution_long N s) (solution_holds true N s) z in
      omega (arith, snap_long (counted N) N.wiring (pieces_of N) N.readings s a.wired, a.wired.laid.few, few_pieces (counted N) N.wiring)

  pub dual_few : length (dual_sheet (counted N) N.wiring N.indexes N.coefficients (pieces_of N) N.readings s) ≤ 192
  dual_few =
      omega (arith, dual_long (counted N) N.wiring N.indexes N.coefficients (pieces_of N) N.readings s, (few_counts N (solution_long N s) (solution_holds true N s) z).rows)

  pub nu_flow_few : length (nu_flow_sheet (counted N) N.wiring N.indexes N.coefficients (pieces_of N) N.readings s) ≤ 512
  nu_flow_few = rw made_length (few_counts N (solution_long N s) (solution_holds true N s) z).branches

-- ---- a call's answer

module _ (N : Network) (s result : List Float) {most : ℕ} (small : first_of (solution_tests true N s) ≡ 0 → length result ≤ most) (bs : List ℕ) (cells : List Float) (room : Cells most (length bs) (length cells)) {n k : ℕ} {new : List Float} (e : filled n k new ≡ sheet_call N s result cells) where
  pub solved_answer : filled_out true (filled n k new) bs ≡ filled_out true (sheet_call N s result (doubles_of bs)) bs
  unfolding snap_number marked
  solved_answer = sheet_answer (solution_tests true N s) tt result most bs cells room small e

  pub solved_count : k ≤ length cells
  unfolding snap_number marked
  solved_count = sheet_count (solution_tests true N s) tt result most bs cells room small e

pub solved_one : (N : Network) (s result sheet : List Float) (ok : Bool) (bs : List ℕ) → ok && (sizes_hold N && solution_long N s) ≡ false → out 1 bs ≡ filled_out ok (sheet_call N s result sheet) bs
unfolding snap_number
solved_one N s result sheet ok bs e = sheet_one N (solution_long N s) (solution_holds true N s) (test 7 (short result sheet) ∷ []) result sheet ok bs e

-- a solution sheet that 6017 doubles do not hold is ragged, or longer than the network's
module _ (w r i k s : List ℕ) where
  pub unread_solution : false ≡ fits 8 s 6017 → (wholes w r i k && whole 8 s) && (sizes_hold (network w r i k) && solution_long (network w r i k) (doubles_of s)) ≡ false
  unread_solution = unsized_own (network w r i k) (wholes w r i k) s (solution_long (network w r i k) (doubles_of s)) (long_few (network w r i k) (doubles_of s))
