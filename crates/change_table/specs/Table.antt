-- 01's "Site changes and the cells they may move": the reading that each kind sets, and the cells that it names.
-- Main definitions: `kinds`, `cells_of`, `named_cells`, `values_at`. Assumes nothing.
use Rattle.std.specs.Prelude.{ℕ, ◌+◌, ◌-◌, Bool, true, false, not, ◌&&◌, ◌||◌, List, [], ◌∷◌, ◌++◌, map, length, get_or, eqb, leb, Float}
use Rattle.sequence.specs.Lists.{when}
use Rattle.sequence.specs.declared.Triplet.{Triplet}
use Rattle.network.specs.declared.Counts.{Counts}
use Rattle.network.specs.declared.Field.{Field}
use Rattle.network.specs.declared.Field.TheVariants.{BaseMva, Susceptance, Sw, Shift, FlowOffset, Fmax, Angmin, Angmax, Gmin, Gmax, Cq, Cl, Cc, CShed, Demand, ShuntConductance, HvdcInjection, Slopes, Intercepts, UpperMw, LowerMw}
use Rattle.network.specs.declared.Part.TheVariants.{BrFrom, BrTo}
use Rattle.network.specs.Layout.{wire}
use Rattle.solution.specs.Sheet.{pieces}
use Rattle.kkt_index.specs.declared.Block.{Block}
use Rattle.kkt_index.specs.declared.Block.TheVariants.{Va, Pg, Psh, LamLb, LamUb, GammaLb, GammaUb, RhoLb, RhoUb, MuLb, MuUb, NuBal, NuFlow}
use Rattle.kkt_index.specs.Index.{linear_row_count, block_start}
use Rattle.kkt.specs.Slots.{Place}

-- ---- the table's column "reading"

-- of kinds 1 to 9
abbrev pub kinds : List Field
kinds = Demand ∷ Fmax ∷ Sw ∷ Susceptance ∷ Angmin ∷ Angmax ∷ Cq ∷ Gmin ∷ Gmax ∷ []

-- "kind 0 or 10 to 15" is none
abbrev pub is_kind : ℕ → Bool
is_kind k = leb 1 k && leb k (length kinds)

-- no call looks at the reading of what is no kind
abbrev pub field_of : ℕ → Field
field_of k = get_or kinds (k - 1) BaseMva

-- ---- the table's column "cells", each a row and a column by block and index

abbrev pub Pair : Type 0
Pair = Place × Place

abbrev pub diagonal : Block → ℕ → List Pair
diagonal b i = ((b, i), (b, i)) ∷ []

module _ (c : Counts) (w : List ℕ) where
  -- row b+e against va+v, "u and v run over both ends of branch e"
  abbrev pub against : Block → ℕ → List Pair
  against b e = ((b, e), (Va, wire c w BrFrom e)) ∷ ((b, e), (Va, wire c w BrTo e)) ∷ []

  abbrev pub both_ways : Block → ℕ → List Pair
  both_ways b e = against b e ++ ((Va, wire c w BrFrom e), (b, e)) ∷ ((Va, wire c w BrTo e), (b, e)) ∷ []

  -- (a+u, b+v)
  abbrev pub crossing : Block → Block → ℕ → List Pair
  crossing a b e =
      ((a, wire c w BrFrom e), (b, wire c w BrFrom e))
      ∷ ((a, wire c w BrFrom e), (b, wire c w BrTo e))
      ∷ ((a, wire c w BrTo e), (b, wire c w BrFrom e))
      ∷ ((a, wire c w BrTo e), (b, wire c w BrTo e))
      ∷ []

  -- (nu_bal+u, va+v), (va+u, nu_bal+v)
  abbrev pub balance_cells : ℕ → List Pair
  balance_cells e = crossing NuBal Va e ++ crossing Va NuBal e

  -- the readings below are those of the kinds; no change sets the others
  abbrev pub cells_of : Field → ℕ → List Pair
  cells_of Demand i = ((MuLb, i), (Psh, i)) ∷ ((MuUb, i), (Psh, i)) ∷ (diagonal MuLb i ++ diagonal MuUb i)
  cells_of Fmax e = diagonal LamLb e ++ diagonal LamUb e
  cells_of Sw e =
      both_ways GammaLb e ++ (both_ways GammaUb e ++ (both_ways NuFlow e ++ (diagonal GammaLb e ++ (diagonal GammaUb e ++ balance_cells e))))
  cells_of Susceptance e = both_ways NuFlow e ++ balance_cells e
  cells_of Angmin e = against GammaLb e ++ diagonal GammaLb e
  cells_of Angmax e = against GammaUb e ++ diagonal GammaUb e
  cells_of Cq j = diagonal Pg j
  cells_of Gmin j = diagonal RhoLb j
  cells_of Gmax j = diagonal RhoUb j
  cells_of BaseMva i = []
  cells_of Shift i = []
  cells_of FlowOffset i = []
  cells_of Cl i = []
  cells_of Cc i = []
  cells_of CShed i = []
  cells_of ShuntConductance i = []
  cells_of HvdcInjection i = []
  cells_of Slopes i = []
  cells_of Intercepts i = []
  cells_of UpperMw i = []
  cells_of LowerMw i = []

-- ---- as rows and columns of the matrix

-- "A cell is (row, column)"
abbrev pub Cell : Type 0
Cell = ℕ × ℕ

abbrev pub cell_at : (Block → ℕ) → Pair → Cell
cell_at start p = (start p.0.0 + p.0.1, start p.1.0 + p.1.1)

abbrev pub cells_at : (Block → ℕ) → List Pair → List Cell
cells_at start ps = map (cell_at start) ps

-- the cells that a change of kind k at index i may move, in the matrix of a network
unfoldable pub named_cells : Counts → List ℕ → List Float → ℕ → ℕ → List Cell
named_cells c w r k i = cells_at (block_start c (pieces c w) (linear_row_count c w r)) (cells_of c w (field_of k) i)

abbrev pub same_cell : Cell → Cell → Bool
same_cell x y = eqb x.0 y.0 && eqb x.1 y.1

unfoldable pub among : Cell → List Cell → Bool
among x [] = false
among x (y ∷ ys) = same_cell x y || among x ys

unfoldable pub distinct : List Cell → Bool
distinct [] = true
distinct (x ∷ xs) = not (among x xs) && distinct xs

-- "its values are those of its triplets in list order"
unfoldable pub values_at : List Triplet → Cell → List Float
values_at [] x = []
values_at (t ∷ ts) x = when (same_cell (t.row, t.col) x) (t.value ∷ []) ++ values_at ts x
