-- 01's tests of a selector and a mode, beside the network's: sizes are number 1's, sign and weights number 3's, `Auto` is 4, a row not below dim 5.
-- Main definitions: `dim_of`, `selector_long`, `selector_holds`, `rows_below`, `selector_tests`, `Selected`. Assumes nothing.
use Rattle.std.specs.Prelude.{ℕ, ◌≡◌, Bool, true, false, not, ◌&&◌, List, [], ◌∷◌, ◌++◌, length, get_or, eqb, ltb}
use Rattle.float64.specs.Values.{within, raw_limit}
use Rattle.sequence.specs.Lists.{every}
use Rattle.sequence.specs.Answers.{Test, test}
use Rattle.network.specs.Numbers.{Network, sizes_hold, all_within, network_tests}
use Rattle.kkt_index.specs.Index.{linear_row_count, dim}
use Rattle.solution_check.specs.Tests.{counted, pieces_of}
use Rattle.interface.specs.declared.Mode.{Mode}
use Rattle.interface.specs.declared.Mode.TheVariants.{Forward, Adjoint, Auto}
use Rattle.contraction.specs.Contraction.{Selector, elements, entry_start, Entered}

-- the dimension of the network's KKT system
abbrev pub dim_of : Network → ℕ
dim_of N = dim (counted N) (pieces_of N) (linear_row_count (counted N) N.wiring N.readings)

-- "Counts not summing to the entries are number 1", and so are rows and weights of different lengths
unfoldable pub selector_long : Selector → Bool
selector_long S = eqb (length S.rows) (length S.weights) && eqb (entry_start S (elements S)) (length S.rows)

-- "a sign (checked as a weight)"; "selector weights: finite, magnitude at most 10^12"
unfoldable pub selector_holds : Selector → Bool
selector_holds S = within raw_limit S.sign && all_within raw_limit S.weights

-- "mode `Auto`" is number 4
abbrev pub is_auto : Mode → Bool
is_auto Forward = false
is_auto Adjoint = false
is_auto Auto = true

-- "selector row not below its length" is number 5
unfoldable pub rows_below : ℕ → List ℕ → Bool
rows_below dim rows = every (λ t. ltb (get_or rows t 0) dim) (length rows)

-- the call's further sizes and values are tested with these: `sizes` and `values` say whether they hold
abbrev pub selector_tests : Network → Bool → Bool → Mode → Selector → List Test
selector_tests N sizes values mode S =
    network_tests N (selector_long S && sizes) (selector_holds S && values) ++ test 4 (is_auto mode) ∷ test 5 (not (rows_below (dim_of N) S.rows)) ∷ []

-- what 0 says
pub record Selected (N : Network) (sizes : Bool) (mode : Mode) (S : Selector) : Type 0 where
  pub sized : sizes_hold N ≡ true
  pub own : sizes ≡ true
  pub resolved : is_auto mode ≡ false
  pub entered : Entered S (dim_of N)
