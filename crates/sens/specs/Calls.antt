-- `forward_adjoint` around an outside solve, as 01 splits it into three calls.
-- Main definitions: `first_tests`, `first_call`; `side_of`; `third_tests`, `third_call`. Assumes nothing.
use Rattle.std.specs.Prelude.{ℕ, ◌*◌, ◌≡◌, Bool, true, false, cond, ◌&&◌, List, [], ◌∷◌, ◌++◌, length, take, eqb, leb, Float}
use Rattle.float64.specs.Values.{sheet_limit, parameter_limit}
use Rattle.sequence.specs.Lists.{when, front}
use Rattle.sequence.specs.Answers.{Test, test, first_of, short, Filled, filled, fills}
use Rattle.network.specs.Numbers.{Network, sizes_hold, all_within}
use Rattle.interface.specs.declared.Mode.{Mode}
use Rattle.interface.specs.declared.Mode.TheVariants.{Forward, Adjoint, Auto}
use Rattle.contraction.specs.Contraction.{Selector, elements, selection_sheet, sides, contracted, Entered, Sided}
use Rattle.selector_check.specs.Tests.{dim_of, is_auto, selector_tests}

-- ---- the first call

-- forward, a count of 2^64 or more is no `usize`: number 1
abbrev pub count_fits : Mode → ℕ → ℕ → Bool
count_fits Forward dim columns = leb (dim * columns) 0xffff_ffff_ffff_ffff
count_fits Adjoint dim columns = true
count_fits Auto dim columns = true

-- "when adjoint, fills the selection sheet"
abbrev pub first_sheet : Mode → Selector → ℕ → List Float
first_sheet Forward S dim = []
first_sheet Adjoint S dim = selection_sheet S dim
first_sheet Auto S dim = []

abbrev pub first_tests : Network → Mode → Selector → ℕ → List Test
first_tests N mode S columns = selector_tests N (count_fits mode (dim_of N) columns) true mode S

unfoldable pub first_number : Network → Mode → Selector → ℕ → List Float → ℕ
first_number N mode S columns selection = first_of (first_tests N mode S columns ++ test 7 (short (first_sheet mode S (dim_of N)) selection) ∷ [])

-- "number and count (dim times columns, or dim times elements)"
unfoldable pub first_call : Network → Mode → Selector → ℕ → List Float → Filled Float
first_call N mode S columns selection =
    cond (eqb (first_number N mode S columns selection) 0)
    (filled 0 (dim_of N * sides mode columns (elements S)) (front (first_sheet mode S (dim_of N)) selection))
    (filled (first_number N mode S columns selection) 0 selection)

-- what 0 says of the first call's inputs
pub record FirstAccepted (N : Network) (mode : Mode) (S : Selector) (columns : ℕ) : Type 0 where
  pub sized : sizes_hold N ≡ true
  pub fits : count_fits mode (dim_of N) columns ≡ true
  pub resolved : is_auto mode ≡ false
  pub entered : Entered S (dim_of N)

-- a result where the sheet holds it, and number 7 where the sheet is short
abbrev pub fills_if : List Float → List Float → Filled Float
fills_if result sheet = fills (cond (short result sheet) 7 0) result sheet

-- ---- the second call

-- "that sheet's front of the given count, and an empty part where the sheet is shorter"
abbrev pub front_of : List Float → ℕ → List Float
front_of sheet count = when (leb count (length sheet)) (take count sheet)

-- "the right side to be solved: the parameter sheet when forward, the selection sheet when adjoint"; none when `Auto`
abbrev pub side_of : Mode → ℕ → List Float → List Float → List Float
side_of Forward count parameter selection = front_of parameter count
side_of Adjoint count parameter selection = front_of selection count
side_of Auto count parameter selection = []

-- ---- the third call

-- the solved columns have their exact length; `Auto` has none to compare with
abbrev pub solved_long : Mode → ℕ → ℕ → ℕ → ℕ → Bool
solved_long Forward dim columns elements n = eqb n (dim * columns)
solved_long Adjoint dim columns elements n = eqb n (dim * elements)
solved_long Auto dim columns elements n = true

-- a parameter sheet holds its columns, and may be longer
abbrev pub third_long : Mode → ℕ → ℕ → ℕ → ℕ → ℕ → Bool
third_long mode dim columns elements parameter solved = leb (dim * columns) parameter && solved_long mode dim columns elements solved

-- "solved columns: at most 10^15. A parameter sheet handed in: at most 10^60"
unfoldable pub third_holds : ℕ → List Float → List Float → Bool
third_holds n parameter solved = all_within parameter_limit (take n parameter) && all_within sheet_limit solved

abbrev pub third_tests : Network → Mode → Selector → ℕ → List Float → List Float → List Test
third_tests N mode S columns parameter solved =
    selector_tests N (third_long mode (dim_of N) columns (elements S) (length parameter) (length solved)) (third_holds (dim_of N * columns) parameter solved) mode S

-- "contracts the solved columns and writes element by element, columns within"
abbrev pub third_sheet : Network → Mode → Selector → ℕ → List Float → List Float → List Float
third_sheet N mode S columns parameter solved = contracted mode S (dim_of N) columns parameter solved

unfoldable pub third_number : Network → Mode → Selector → ℕ → List Float → List Float → List Float → ℕ
third_number N mode S columns parameter solved out = first_of (third_tests N mode S columns parameter solved ++ test 7 (short (third_sheet N mode S columns parameter solved) out) ∷ [])

unfoldable pub third_call : Network → Mode → Selector → ℕ → List Float → List Float → List Float → Filled Float
third_call N mode S columns parameter solved out =
    fills (third_number N mode S columns parameter solved out) (third_sheet N mode S columns parameter solved) out

-- what 0 says of the third call's inputs
pub record ThirdAccepted (N : Network) (mode : Mode) (S : Selector) (columns : ℕ) (parameter solved : List Float) : Type 0 where
  pub sized : sizes_hold N ≡ true
  pub entered : Entered S (dim_of N)
  pub sided : Sided mode (dim_of N) columns (elements S) parameter solved
