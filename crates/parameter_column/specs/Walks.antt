-- A column before and after some touches.
-- Main definitions: `Touched`, `Fitted`, `rows_in`, `weight_touches`, `shift_touches`. Assumes nothing.
use Rattle.std.specs.Prelude.{ℕ, ◌+◌, ◌≤◌, ◌≡◌, List, [], ◌∷◌, Float, length, get_or}
use Rattle.std.specs.Float.{nan}
use Rattle.std.specs.Float.Ieee.{neg}
use Rattle.float64.specs.Values.{one}
use Rattle.network.specs.declared.Counts.{Counts}
use Rattle.model.specs.declared.RowLimits.{RowLimits}
use Rattle.model.specs.declared.RowLimits.TheVariants.{None, Upper, Lower, Both, Equal}
use Rattle.snapping.specs.declared.LinearDuals.{LinearDuals}
use Rattle.network.specs.declared.Part.TheVariants.{BrFrom, BrTo}
use Rattle.network.specs.Layout.{Few, wire}
use Rattle.kkt_index.specs.declared.Block.{Block}
use Rattle.kkt_index.specs.declared.Block.TheVariants.{Va, Linear, NuBal, NuFlow}
use Rattle.kkt_index.specs.declared.KktIdx.{KktIdx}
use Rattle.kkt_index.specs.Index.{size, Narrow, Indexed, dim}
use Rattle.parameter_column.specs.declared.How.TheVariants.{Put, Plus, Less}
use Rattle.parameter_column.specs.Columns.{Touch, touch, word_of}

-- new is old with each touch made, in order
pub record Touched (start : Block → ℕ) (ts : List Touch) (old new : List Float) : Type 0 where
  pub at : (r : ℕ) → get_or new r nan ≡ word_of start ts r (get_or old r nan)
  pub kept : length new ≡ length old

-- the index is the system's, and the column has a word for each of its rows
pub record Fitted (c : Counts) (x : KktIdx) (column : List Float) : Type 0 where
  pub few : Few c
  pub indexed : Indexed c x.pieces x.linear_rows x
  pub narrow : Narrow x
  pub room : dim c x.pieces x.linear_rows ≤ length column

-- how many rows a block has
abbrev pub rows_in : Counts → KktIdx → Block → ℕ
rows_in c x b = size c x.pieces x.linear_rows b

-- what a branch's weight moves, by the three doubles
abbrev pub weight_touches : Counts → List ℕ → ℕ → Float → Float → Float → List Touch
weight_touches c w e flow atFrom atTo =
    touch NuBal (wire c w BrFrom e) Plus flow
    ∷ touch NuBal (wire c w BrTo e) Less flow
    ∷ touch NuFlow e Plus flow
    ∷ touch Va (wire c w BrFrom e) Plus atFrom
    ∷ touch Va (wire c w BrTo e) Plus atTo
    ∷ []

-- what a shift of a linear row's limits moves, by the row's multipliers
abbrev pub shift_touches : ℕ → LinearDuals → RowLimits → List Touch
shift_touches start d None = []
shift_touches start d (Upper u) = touch Linear start Put d.upper ∷ []
shift_touches start d (Lower l) = touch Linear start Put (neg d.lower) ∷ []
shift_touches start d (Both u l) = touch Linear start Put d.upper ∷ touch Linear (start + 1) Put (neg d.lower) ∷ []
shift_touches start d (Equal l) = touch Linear start Put (neg one) ∷ []
