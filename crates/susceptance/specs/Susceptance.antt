-- 01's `susceptance_coo`: the susceptance matrix as triplets, by row, then column.
-- "walks branches in order with w = -b times sw, skips w = 0, and at cells (i,i), (j,j), (i,j), (j,i) adds w, w, -w, -w in that order". Assumes nothing.
use Rattle.std.specs.Prelude.{ℕ, Bool, cond, not, ◌&&◌, ◌||◌, List, [], ◌∷◌, eqb, Float}
use Rattle.std.specs.Float.{binary64}
use Rattle.std.specs.Float.Ieee.{mul, neg, eq}
use Rattle.float64.specs.Values.{nought, add_at, sub_at}
use Rattle.sequence.specs.Lists.{each, when, turns, some}
use Rattle.sequence.specs.declared.Triplet.{Triplet}
use Rattle.sequence.specs.Sheets.{triplet}
use Rattle.network.specs.declared.Counts.{Counts}
use Rattle.network.specs.declared.Part.TheVariants.{BrFrom, BrTo}
use Rattle.network.specs.declared.Field.TheVariants.{Susceptance, Sw}
use Rattle.network.specs.Layout.{wire, reading}

-- -b[e] * sw[e]
unfoldable pub weight : Counts → List Float → ℕ → Float
weight c r e = mul binary64 (neg (reading c r Susceptance e)) (reading c r Sw e)

-- whether cell (i, j) is cell (p, q)
abbrev pub is_cell : ℕ → ℕ → ℕ → ℕ → Bool
is_cell i j p q = eqb i p && eqb j q

-- what a branch from p to q of weight x does to cell (i, j)
unfoldable pub cell_turn : ℕ → ℕ → ℕ → ℕ → Float → Float → Float
cell_turn i j p q x a =
    cond (eq x nought) a (sub_at (is_cell i j q p) x (sub_at (is_cell i j p q) x (add_at (is_cell i j q q) x (add_at (is_cell i j p p) x a))))

-- the sum at cell (i, j), made in branch order
unfoldable pub susceptance : Counts → List ℕ → List Float → ℕ → ℕ → Float
susceptance c w r i j = turns (λ e a. cell_turn i j (wire c w BrFrom e) (wire c w BrTo e) (weight c r e) a) nought c.branches

-- whether a branch from p to q of weight x touches cell (i, j)
unfoldable pub touches : ℕ → ℕ → ℕ → ℕ → Float → Bool
touches i j p q x = not (eq x nought) && ((eqb i p || eqb i q) && (eqb j p || eqb j q))

unfoldable pub touched : Counts → List ℕ → List Float → ℕ → ℕ → Bool
touched c w r i j = some (λ e. touches i j (wire c w BrFrom e) (wire c w BrTo e) (weight c r e)) c.branches

-- a cell that branches touch, also where its sum is 0
unfoldable pub susceptance_cell : Counts → List ℕ → List Float → ℕ → ℕ → List Triplet
susceptance_cell c w r i j = when (touched c w r i j) (triplet i j (susceptance c w r i j) ∷ [])

unfoldable pub susceptance_row : Counts → List ℕ → List Float → ℕ → List Triplet
susceptance_row c w r i = each c.buses (susceptance_cell c w r i)

unfoldable pub susceptance_coo : Counts → List ℕ → List Float → List Triplet
susceptance_coo c w r = each c.buses (susceptance_row c w r)
