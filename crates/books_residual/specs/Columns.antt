-- What a parameter's column must hold by the books: in each row the derivative of the residual in the parameter, at the snapped solution.
-- Main definitions: `direction`, `ColumnIs`. Assumes nothing.
use Rattle.std.specs.Prelude.{ℕ, Bool, cond, ◌&&◌, List, get_or, eqb, Float}
use Rattle.std.specs.Float.{nan}
use Rattle.sequence.specs.Facts.{All}
use Rattle.network.specs.declared.Counts.{Counts}
use Rattle.network.specs.declared.Field.{Field}
use Rattle.network.specs.declared.Field.TheVariants.{BaseMva, Susceptance, Sw, Shift, FlowOffset, Fmax, Cq, Cl, Demand, UpperMw, LowerMw}
use Rattle.network.specs.Layout.{rank}
use Rattle.solution.specs.Sheet.{pieces}
use Rattle.parameter_column.specs.declared.Served.{Served}
use Rattle.parameter_column.specs.declared.Served.TheVariants as served
use Rattle.parameter_column.specs.Columns.{column_words}
use Rattle.books.specs.Forms.{Alike}
use Rattle.books.specs.Forms.Form.{rd}
use Rattle.books.specs.Matrix.{site_of, value, flat}
use Rattle.books_residual.specs.Residual.{Row, residual}
use Rattle.books_residual.specs.Rates.{Direction, rate, rate_value}
use Rattle.books_residual.specs.Rates.Rate.{still, same, by}

-- ---- what a parameter moves

abbrev pub is_reading : Field → ℕ → Field → ℕ → Bool
is_reading f i g j = eqb (rank f) (rank g) && eqb i j

-- one reading alone, at rate 1
abbrev pub only : Field → ℕ → Direction
only g j f i = cond (is_reading f i g j) same still

abbrev pub direction : Served → ℕ → Direction
direction served.Demand j = only Demand j
direction served.CostQuadratic j = only Cq j
direction served.CostLinear j = only Cl j
direction served.LineLimit j = only Fmax j
-- P_f,shift = −b θ_shift moves with b: the offset, b times shift, at the rate of the shift
direction served.BranchSusceptance j = λ f i. cond (is_reading f i FlowOffset j) (by (rd Shift j)) (only Susceptance j f i)
direction served.Switching j = only Sw j
-- both limits of the row by 1 in per unit, which is the base in MW
direction served.ConstraintLimit j = λ f i. cond (is_reading f i UpperMw j) (by (rd BaseMva 0)) (cond (is_reading f i LowerMw j) (by (rd BaseMva 0)) still)

-- ---- the claim

module _ (c : Counts) (w : List ℕ) (r : List Float) (ti : List ℕ) (tc s : List Float) where
  -- row by row the column's word is the derivative's value
  abbrev pub ColumnIs : Served → ℕ → Type 0
  ColumnIs k i =
      (eta : ℕ → Float)
      → All (λ (x : Row). Alike (get_or (column_words c w ti tc (pieces c w) r s k i) (flat c w r ti tc s x.0) nan) (rate_value (value c w r ti tc s eta) (rate (direction k i) x.1)))
      (residual (site_of c w r ti tc s))
