-- 01's "Solution sheet": the order, size and place of every word, by name. p is the number of piecewise generators.
-- Main definitions: `pieces`, `sheet_length`, `solved`; `SheetLaid` says that a sheet is so long. Assumes nothing.
use Rattle.std.specs.Prelude.{ℕ, ◌+◌, ◌≤◌, ◌≡◌, cond, List, [], ◌∷◌, map, length, get_or, eqb, Float}
use Rattle.std.specs.Float.{nan}
use Rattle.sequence.specs.Layout.{total, start}
use Rattle.sequence.specs.Lists.{before}
use Rattle.network.specs.declared.Counts.{Counts}
use Rattle.network.specs.Layout.{segments_at, Few}
use Rattle.solution.specs.declared.Entry.{Entry}
use Rattle.solution.specs.declared.Entry.TheVariants.{Va, Pg, Flow, Psh, NuBal, LamUb, LamLb, RhoUb, RhoLb, MuUb, MuLb, GammaUb, GammaLb, Epigraph, SegmentDual, LinearDual, LinearValue, Objective}

-- 1 for a piecewise generator, 0 for another
abbrev pub piece : Counts → List ℕ → ℕ → ℕ
piece c w j = cond (eqb (segments_at c w j) 0) 0 1

-- which of the epigraphs is generator j's: as many as there are piecewise generators before it
unfoldable pub piece_rank : Counts → List ℕ → ℕ → ℕ
piece_rank c w j = before (piece c w) j

-- p, the number of piecewise generators
abbrev pub pieces : Counts → List ℕ → ℕ
pieces c w = piece_rank c w c.generators

abbrev pub entries : List Entry
entries =
    Va ∷ Pg ∷ Flow ∷ Psh ∷ NuBal ∷ LamUb ∷ LamLb ∷ RhoUb ∷ RhoLb ∷ MuUb ∷ MuLb ∷ GammaUb ∷ GammaLb ∷ Epigraph ∷ SegmentDual ∷ LinearDual ∷ LinearValue ∷ Objective ∷ []

abbrev pub rank : Entry → ℕ
rank Va = 0
rank Pg = 1
rank Flow = 2
rank Psh = 3
rank NuBal = 4
rank LamUb = 5
rank LamLb = 6
rank RhoUb = 7
rank RhoLb = 8
rank MuUb = 9
rank MuLb = 10
rank GammaUb = 11
rank GammaLb = 12
rank Epigraph = 13
rank SegmentDual = 14
rank LinearDual = 15
rank LinearValue = 16
rank Objective = 17

abbrev pub size : Counts → ℕ → Entry → ℕ
size c p Va = c.buses
size c p Pg = c.generators
size c p Flow = c.branches
size c p Psh = c.buses
size c p NuBal = c.buses
size c p LamUb = c.branches
size c p LamLb = c.branches
size c p RhoUb = c.generators
size c p RhoLb = c.generators
size c p MuUb = c.buses
size c p MuLb = c.buses
size c p GammaUb = c.branches
size c p GammaLb = c.branches
size c p Epigraph = p
size c p SegmentDual = c.segments
size c p LinearDual = c.rows
size c p LinearValue = c.rows
size c p Objective = 1

abbrev pub sizes : Counts → ℕ → List ℕ
sizes c p = map (size c p) entries

-- 5n + 3k + 5m + p + S + 2q + 1
abbrev pub sheet_length : Counts → ℕ → ℕ
sheet_length c p = total (sizes c p)

unfoldable pub entry_start : Counts → ℕ → Entry → ℕ
entry_start c p e = start (sizes c p) (rank e)

-- word i of an entry
unfoldable pub solved : Counts → ℕ → List Float → Entry → ℕ → Float
unfolding entry_start
solved c p s e i = get_or s (entry_start c p e + i) nan

pub record SheetLaid (c : Counts) (p : ℕ) (s : List Float) : Type 0 where
  pub few : Few c
  pub few_pieces : p ≤ c.generators
  pub long : length s ≡ sheet_length c p
