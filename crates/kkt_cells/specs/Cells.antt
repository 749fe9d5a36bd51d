-- The susceptance sums kept by bus: which other buses each has a sum with, other than zero, and the sums. Main definitions: `cells_of`, `Kept`. Assumes nothing.
use Rattle.std.specs.Prelude.{ℕ, ◌+◌, ◌≤◌, ◌<◌, ◌≡◌, List, length, get_or, Float}
use Rattle.std.specs.Float.{nan}
use Rattle.sequence.specs.Lists.{each}
use Rattle.sequence.specs.declared.Triplet.{Triplet}
use Rattle.sequence.specs.Sheets.{emit, rows_of, values_of}
use Rattle.network.specs.declared.Counts.{Counts}
use Rattle.susceptance.specs.Susceptance.{susceptance}
use Rattle.kkt.specs.Matrix.{kept}

-- bus j's sums that are not zero, by bus
unfoldable pub cells_of : Counts → List ℕ → List Float → ℕ → List Triplet
cells_of c w r j = each c.buses (λ i. emit (kept i j (susceptance c w r j i)))

-- how many stand before bus j's
unfoldable pub cell_start : Counts → List ℕ → List Float → ℕ → ℕ
cell_start c w r j = length (each j (cells_of c w r))

-- every bus's, one after the other
pub record Kept (c : Counts) (w : List ℕ) (r : List Float) (starts buses : List ℕ) (sums : List Float) : Type 0 where
  pub starts_at : (j : ℕ) → j ≤ c.buses → get_or starts j 0 ≡ cell_start c w r j
  pub starts_fit : c.buses < length starts
  pub bus_at : (j t : ℕ) → j < c.buses → t < length (cells_of c w r j) → get_or buses (cell_start c w r j + t) 0 ≡ get_or (rows_of (cells_of c w r j)) t 0
  pub sum_at : (j t : ℕ) → j < c.buses → t < length (cells_of c w r j) → get_or sums (cell_start c w r j + t) nan ≡ get_or (values_of (cells_of c w r j)) t nan
  pub few : cell_start c w r c.buses ≤ 1280
  pub buses_fit : cell_start c w r c.buses ≤ length buses
  pub sums_fit : cell_start c w r c.buses ≤ length sums
