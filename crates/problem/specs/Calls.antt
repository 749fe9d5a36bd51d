-- The calls of problem/dc.rs: 01's number, the counts, and the words that are left.
-- Main definitions: `nodal_call`, `read_call`. Assumes nothing.
use Rattle.std.specs.Prelude.{ℕ, List, [], ◌∷◌, ◌++◌, Float}
use Rattle.sequence.specs.Answers.{test, first_of, short, Filled, fills}
use Rattle.network.specs.Numbers.{Network}
use Rattle.solution_check.specs.Tests.{counted}
use Rattle.sens_snap.specs.Calls.{sheet_call}
use Rattle.raw_check.specs.Tests.{raw_tests}
use Rattle.opf_readback.specs.Readback.{read_sheet, nodal_sheet}

-- "network, solution" tested whole; n doubles
abbrev pub nodal_call : Network → List Float → List Float → Filled Float
nodal_call N s sheet = sheet_call N s (nodal_sheet (counted N) N.wiring N.readings s) sheet

-- ---- `read_dc_solution`: the solution sheet of a solver's raw vectors and objective

abbrev pub read_of : Network → List Float → List Float → Float → List Float
read_of N x z raw = read_sheet (counted N) N.wiring N.readings N.indexes N.coefficients x z raw

unfoldable pub read_number : Network → List Float → List Float → Float → List Float → ℕ
read_number N x z raw sheet = first_of (raw_tests N x z raw ++ test 7 (short (read_of N x z raw) sheet) ∷ [])

abbrev pub read_call : Network → List Float → List Float → Float → List Float → Filled Float
read_call N x z raw sheet = fills (read_number N x z raw sheet) (read_of N x z raw) sheet
