-- The limits of a linear row, as an enum whose cases carry the doubles. Assumes nothing.
use Rattle.std.specs.Prelude.{ℕ, Bool, true, false, cond, List, eqb, Float}
use Rattle.std.specs.Float.Ieee.{eq}
use Rattle.network.specs.declared.Counts.{Counts}
use Rattle.network.specs.declared.Part.TheVariants.{Masks}
use Rattle.network.specs.declared.Field.TheVariants.{UpperMw, LowerMw}
use Rattle.model.specs.declared.RowLimits.{RowLimits}
use Rattle.model.specs.declared.RowLimits.TheVariants.{None, Upper, Lower, Both, Equal}
use Rattle.network.specs.Layout.{wire, reading}

-- "`is_equality`: both limits, equal as numbers", so -0 and +0 are; the Rust then reads the lower limit
abbrev pub both_of : Bool → Float → Float → RowLimits
both_of true upper lower = Equal lower
both_of false upper lower = Both upper lower

-- "row masks (0 none, 1 upper, 2 lower, 3 both)"; the slot of an absent limit is ignored
abbrev pub masked_limits : ℕ → Float → Float → RowLimits
masked_limits mask upper lower =
    cond (eqb mask 1) (Upper upper) (cond (eqb mask 2) (Lower lower) (cond (eqb mask 3) (both_of (eq lower upper) upper lower) None))

unfoldable pub row_limits : Counts → List ℕ → List Float → ℕ → RowLimits
row_limits c w r q = masked_limits (wire c w Masks q) (reading c r UpperMw q) (reading c r LowerMw q)

abbrev pub is_equality : RowLimits → Bool
is_equality None = false
is_equality (Upper u) = false
is_equality (Lower l) = false
is_equality (Both u l) = false
is_equality (Equal l) = true

-- a number for each case: the mask, and 4 for an equality
abbrev pub kind_of : RowLimits → ℕ
kind_of None = 0
kind_of (Upper u) = 1
kind_of (Lower l) = 2
kind_of (Both u l) = 3
kind_of (Equal l) = 4
