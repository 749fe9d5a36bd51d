-- The matrix call: 01's number, the count of triplets, and the three sheets afterwards. The reference rule and the tests after 7 are parameters. Assumes nothing.
use Rattle.std.specs.Prelude.{ℕ, false, List, ◌∷◌, ◌++◌, Float}
use Rattle.sequence.specs.Answers.{Test, test, first_of}
use Rattle.sequence.specs.declared.Triplet.{Triplet}
use Rattle.sequence.specs.Sheets.{Laid, lays, short_list}
use Rattle.network.specs.Numbers.{Network}
use Rattle.solution_check.specs.Tests.{counted, solution_tests}
use Rattle.kkt.specs.Slots.{Rule}
use Rattle.kkt.specs.Matrix.{kkt_matrix_list}

-- the list for a network and its solution sheet
abbrev pub list_of : Rule → Network → List Float → List Triplet
list_of rule N s = kkt_matrix_list rule (counted N) N.wiring N.readings N.indexes N.coefficients s

-- the last q + 1 words of the sheet are not looked at; "7: a lent output shorter than the result"; then further tests
unfoldable pub matrix_number : List Test → Network → List Float → List Triplet → List ℕ → List ℕ → List Float → ℕ
matrix_number further N s ts rows cols values = first_of (solution_tests false N s ++ test 7 (short_list ts rows cols values) ∷ further)

abbrev pub matrix_call : Rule → List Test → Network → List Float → List ℕ → List ℕ → List Float → Laid
matrix_call rule further N s rows cols values =
    lays (matrix_number further N s (list_of rule N s) rows cols values) (list_of rule N s) rows cols values
