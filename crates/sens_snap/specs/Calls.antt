-- The calls of sens/dc.rs that fill a sheet: 01's number, a count of readings, and the sheet afterwards. Assumes nothing.
use Rattle.std.specs.Prelude.{ℕ, true, List, [], ◌∷◌, ◌++◌, Float}
use Rattle.sequence.specs.Answers.{test, first_of, short, Filled, fills}
use Rattle.network.specs.Numbers.{Network}
use Rattle.snapping.specs.Snap.{snap_sheet, dual_sheet, nu_flow_sheet}
use Rattle.solution_check.specs.Tests.{counted, pieces_of, solution_tests}

-- "network, solution" tested, and then whether the lent sheet is long enough
unfoldable pub snap_number : Network → List Float → List Float → List Float → ℕ
snap_number N s result sheet = first_of (solution_tests true N s ++ test 7 (short result sheet) ∷ [])

abbrev pub sheet_call : Network → List Float → List Float → List Float → Filled Float
sheet_call N s result sheet = fills (snap_number N s result sheet) result sheet

abbrev pub snap_call : Network → List Float → List Float → Filled Float
snap_call N s sheet = sheet_call N s (snap_sheet (counted N) N.wiring (pieces_of N) N.readings s) sheet

abbrev pub snap_linear_call : Network → List Float → List Float → Filled Float
snap_linear_call N s sheet =
    sheet_call N s (dual_sheet (counted N) N.wiring N.indexes N.coefficients (pieces_of N) N.readings s) sheet

abbrev pub nu_flow_call : Network → List Float → List Float → Filled Float
nu_flow_call N s sheet =
    sheet_call N s (nu_flow_sheet (counted N) N.wiring N.indexes N.coefficients (pieces_of N) N.readings s) sheet
