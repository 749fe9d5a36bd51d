-- The calls that fill a sheet, on bytes: how long each result is at most, and the laws of each call's answer.
-- Main results: `nodal_answer`, `nodal_one`, `unread_solution`; `read_answer`, `read_one`; `unsized_raw`, `unsized_primal`, `unsized_dual`. Assumes nothing.
use mathlib.Core.Path.{◌≡◌, sym}
use mathlib.Core.Bool.{Bool, true, false, ◌&&◌}
use mathlib.Core.List.{List, [], ◌∷◌}
use Prim.Native.Nat.{ℕ, ◌/◌, ◌≤◌}
use native.Mathlib.Omega.{arith}
use lib.ListN.{length}
use lib.Ieee.{Float}
use Rattle.sequence.specs.Answers.{test, first_of, marked, short, filled}
use Rattle.sequence.proofs.Lists.{and_left, and_right, made_length}
use Rattle.words.specs.Words.{double_at, doubles_of}
use Rattle.network.specs.Numbers.{Network, sizes_hold}
use Rattle.solution_check.specs.Tests.{counted, solution_long, solution_holds, solution_tests}
use Rattle.solution_check.proofs.Own.{few_pieces, long_few}
use Rattle.sens_snap.specs.Calls.{snap_number}
use Rattle.raw_check.specs.Tests.{raw_long, raw_holds, raw_tests}
use Rattle.opf_readback.specs.Readback.{nodal_sheet}
use Rattle.opf_readback.proofs.Entries.{read_long}
use Rattle.decoding.specs.Exports.{out, whole, filled_out}
use Rattle.decoding.specs.Decoding.{fits, Cells}
use Rattle.decoding.proofs.Decoded.{network, wholes, contrary, fits_of, whole_of}
use Rattle.decoding.proofs.Answered.{unsized_own, few_counts, sheet_answer, sheet_count, sheet_one}
use Rattle.problem.specs.Calls.{nodal_call, read_of, read_number, read_call}
use Rattle.problem.proofs.Nodal.{nodal_long}
use Rattle.capi_problem.proofs.Bounds.{columns_few, rows_few}

-- ---- the nodal marginal values: one for each bus

module _ (N : Network) (s : List Float) where
  abbrev nodal : List Float
  nodal = nodal_sheet (counted N) N.wiring N.readings s

  nodal_few : first_of (solution_tests true N s) ≡ 0 → length nodal ≤ 256
  nodal_few z =
      omega (arith, nodal_long (counted N) N.wiring N.readings s, (few_counts N (solution_long N s) (solution_holds true N s) z).buses)

  module _ (bs : List ℕ) (cells : List Float) (room : Cells 256 (length bs) (length cells)) {n k : ℕ} {new : List Float} (e : filled n k new ≡ nodal_call N s cells) where
    pub nodal_answer : filled_out true (filled n k new) bs ≡ filled_out true (nodal_call N s (doubles_of bs)) bs
    unfolding snap_number marked
    nodal_answer = sheet_answer (solution_tests true N s) tt nodal 256 bs cells room nodal_few e

    pub nodal_count : k ≤ length cells
    unfolding snap_number marked
    nodal_count = sheet_count (solution_tests true N s) tt nodal 256 bs cells room nodal_few e

  pub nodal_one : (sheet : List Float) (ok : Bool) (bs : List ℕ) → ok && (sizes_hold N && solution_long N s) ≡ false → out 1 bs ≡ filled_out ok (nodal_call N s sheet) bs
  unfolding snap_number
  nodal_one sheet ok bs e = sheet_one N (solution_long N s) (solution_holds true N s) (test 7 (short nodal sheet) ∷ []) nodal sheet ok bs e

-- a solution sheet that 6017 doubles do not hold is ragged, or longer than the network's
module _ (w r i k s : List ℕ) where
  pub unread_solution : false ≡ fits 8 s 6017 → (wholes w r i k && whole 8 s) && (sizes_hold (network w r i k) && solution_long (network w r i k) (doubles_of s)) ≡ false
  unread_solution = unsized_own (network w r i k) (wholes w r i k) s (solution_long (network w r i k) (doubles_of s)) (long_few (network w r i k) (doubles_of s))

-- ---- a solver's raw vectors: as many words as the solution sheet has

module _ (N : Network) (x z : List Float) (raw : Float) where
  read_few : first_of (raw_tests N x z raw) ≡ 0 → length (read_of N x z raw) ≤ 6017
  read_few e =
      omega (arith, read_long (counted N) N.wiring N.readings N.indexes N.coefficients x z raw, few_counts N (raw_long N x z) (raw_holds x z raw) e, few_pieces (counted N) N.wiring)

  module _ (bs : List ℕ) (cells : List Float) (room : Cells 6017 (length bs) (length cells)) {n k : ℕ} {new : List Float} (e : filled n k new ≡ read_call N x z raw cells) where
    pub read_answer : filled_out true (filled n k new) bs ≡ filled_out true (read_call N x z raw (doubles_of bs)) bs
    unfolding read_number marked
    read_answer = sheet_answer (raw_tests N x z raw) tt (read_of N x z raw) 6017 bs cells room read_few e

    pub read_count : k ≤ length cells
    unfolding read_number marked
    read_count = sheet_count (raw_tests N x z raw) tt (read_of N x z raw) 6017 bs cells room read_few e

  pub read_one : (sheet : List Float) (ok : Bool) (bs : List ℕ) → ok && (sizes_hold N && raw_long N x z) ≡ false → out 1 bs ≡ filled_out ok (read_call N x z raw sheet) bs
  unfolding read_number
  read_one sheet ok bs e = sheet_one N (raw_long N x z) (raw_holds x z raw) (test 7 (short (read_of N x z raw) sheet) ∷ []) (read_of N x z raw) sheet ok bs e

-- ---- raw vectors that are not decoded have a ragged slice, or lengths that are not the program's

module _ (N : Network) (ok : Bool) (x z : List ℕ) where
  abbrev whole_raw : Bool
  whole_raw = ok && (whole 8 x && whole 8 z)

  abbrev sized_raw : Bool
  sized_raw = sizes_hold N && raw_long N (doubles_of x) (doubles_of z)

  module _ (e : whole_raw && sized_raw ≡ true) where
    wholes_hold : whole_raw ≡ true
    wholes_hold = and_left whole_raw sized_raw e

    own_wholes : whole 8 x && whole 8 z ≡ true
    own_wholes = and_right ok _ wholes_hold

    sized : sizes_hold N ≡ true
    sized = and_left (sizes_hold N) _ (and_right whole_raw sized_raw e)

    long : raw_long N (doubles_of x) (doubles_of z) ≡ true
    long = and_right (sizes_hold N) _ (and_right whole_raw sized_raw e)

    both : ok && sizes_hold N ≡ true
    both = rw (and_left ok _ wholes_hold, sized)

    primal_fits : fits 8 x 1536 ≡ true
    primal_fits =
        fits_of 8 x 1536 (and_left (whole 8 x) _ own_wholes) (omega (arith, columns_few N (doubles_of x) (doubles_of z) sized long, made_length (double_at x) (length x / 8)))

    dual_fits : fits 8 z 5072 ≡ true
    dual_fits =
        fits_of 8 z 5072 (and_right (whole 8 x) _ own_wholes) (omega (arith, rows_few N (doubles_of x) (doubles_of z) sized long, made_length (double_at z) (length z / 8)))

  pub unsized_raw : ok && sizes_hold N ≡ false → whole_raw && sized_raw ≡ false
  unsized_raw = contrary _ _ both

  pub unsized_primal : false ≡ fits 8 x 1536 → whole_raw && sized_raw ≡ false
  unsized_primal e = contrary _ _ primal_fits (sym e)

  pub unsized_dual : false ≡ fits 8 z 5072 → whole_raw && sized_raw ≡ false
  unsized_dual e = contrary _ _ dual_fits (sym e)

  pub wholly_raw : ok ≡ true → true ≡ fits 8 x 1536 → true ≡ fits 8 z 5072 → whole_raw ≡ true
  wholly_raw o e d = rw (o, whole_of 8 x 1536 (sym e), whole_of 8 z 5072 (sym d))
