-- 01's tests of a solution sheet, beside the network's: its length is number 1's, its words are number 3's.
-- "The matrix, parameter columns and site changes ignore and don't check the last q + 1." Main definitions: `solution_long`, `solution_holds`, `solution_tests`. Assumes nothing.
use Rattle.std.specs.Prelude.{ℕ, ◌+◌, ◌-◌, Bool, cond, List, length, take, eqb, Float}
use Rattle.float64.specs.Values.{sheet_limit}
use Rattle.sequence.specs.Answers.{Test}
use Rattle.network.specs.declared.Counts.{Counts}
use Rattle.network.specs.Layout.{counts_of}
use Rattle.network.specs.Numbers.{Network, all_within, network_tests, Accepted}
use Rattle.solution.specs.Sheet.{pieces, sheet_length, SheetLaid}

-- the network's counts, and how many of its generators are piecewise
abbrev pub counted : Network → Counts
counted N = counts_of N.wiring

abbrev pub pieces_of : Network → ℕ
pieces_of N = pieces (counted N) N.wiring

-- "a solution sheet of wrong length" is number 1
unfoldable pub solution_long : Network → List Float → Bool
solution_long N s = eqb (length s) (sheet_length (counted N) (pieces_of N))

-- how many words are looked at: all of them, or all but the last q + 1
abbrev pub looked_at : Bool → Counts → List Float → ℕ
looked_at whole c s = cond whole (length s) (length s - (c.rows + 1))

-- "Sheet readings: at most 10^15"
unfoldable pub solution_holds : Bool → Network → List Float → Bool
solution_holds whole N s = all_within sheet_limit (take (looked_at whole (counted N) s) s)

abbrev pub solution_tests : Bool → Network → List Float → List Test
solution_tests whole N s = network_tests N (solution_long N s) (solution_holds whole N s)

-- what 0 says
pub record Solved (N : Network) (s : List Float) (c : Counts) : Type 0 where
  pub accepted : Accepted N c
  pub laid : SheetLaid c (pieces c N.wiring) s
