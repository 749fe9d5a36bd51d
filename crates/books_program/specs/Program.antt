-- What `assemble_opf` must give by the manual: the rows and right sides of its constraints, the Hessian and the costs, in 01's layout.
-- The solver's form is min 1/2 x'Px + q'x with Ax + s = b: a row is a constraint's gradient, and its right side.
-- Main definitions: `RowIs`, `HessianIs`, `CostIs`, `ProgramIs`. Assumes nothing.
use Rattle.std.specs.Prelude.{ℕ, ◌+◌, ◌<◌, ◌≡◌, Bool, true, false, not, ◌&&◌, List, [], ◌∷◌, ◌++◌, map, get_or, eqb, Float}
use Rattle.std.specs.Float.{nan, binary64}
use Rattle.std.specs.Float.Ieee.{add, eq}
use Rattle.float64.specs.Values.{nought}
use Rattle.sequence.specs.Lists.{when}
use Rattle.sequence.specs.Facts.{All, Any}
use Rattle.network.specs.declared.Counts.{Counts}
use Rattle.network.specs.Layout.{reading, segments_at}
use Rattle.solution.specs.Sheet.{piece_rank}
use Rattle.kkt_index.specs.declared.Block.TheVariants as blocks
use Rattle.change_table.specs.Table.{values_at}
use Rattle.opf_layout.specs.declared.OpfColumn.{OpfColumn}
use Rattle.opf_layout.specs.declared.OpfColumn.TheVariants.{Va, Pg, Flow, Shed, Cost}
use Rattle.opf_layout.specs.declared.OpfRow.{OpfRow}
use Rattle.opf_layout.specs.declared.OpfRow.TheVariants.{Balance}
use Rattle.opf_layout.specs.Layout.{active_rank, sheds, active_of, column_start, column_rank, row_start, row_rank, ncon}
use Rattle.opf_assembly.specs.Assembly.{a_triplets, p_triplets, q_sheet, b_sheet, column_elements}
use Rattle.books.specs.Forms.{Place, Form, value_of, Alike}
use Rattle.books.specs.Convex.{Gradient, hessian_entries}
use Rattle.books.specs.Manual.{program}
use Rattle.books.specs.Matrix.{same_place, cell_values}
use Rattle.books_program.specs.Rows.{Rowed, site, rowed}

-- a column of the layout as a variable
abbrev pub place_of : (ℕ → ℕ) → OpfColumn → ℕ → Place
place_of rank Va j = (blocks.Va, j)
place_of rank Pg j = (blocks.Pg, j)
place_of rank Flow j = (blocks.Flow, j)
place_of rank Shed j = (blocks.Psh, j)
place_of rank Cost j = (blocks.Cost, rank j)

-- of a gradient the values at a variable that are not zero, in order
unfoldable pub term_values : (Form → Float) → Gradient → Place → List Float
term_values v [] p = []
term_values v (x ∷ g) p = when (same_place x.0 p) (when (not (eq (v x.1) nought)) (v x.1 ∷ [])) ++ term_values v g p

-- from +0 on
unfoldable pub summed : Float → List Float → Float
summed a [] = a
summed a (x ∷ xs) = summed (add binary64 a x) xs

-- a balance row's entries at an angle are written branch by branch, and their sum is −B_bus; every other cell has its gradient's own values
abbrev pub together : OpfRow → OpfColumn → Bool
together a k = eqb (row_rank a) (row_rank Balance) && eqb (column_rank k) (column_rank Va)

abbrev pub Holds : Bool → List Float → List Float → Type 0
Holds true written due = Alike (summed nought written) (summed nought due)
Holds false written due = written ≡ due

module _ (c : Counts) (w : List ℕ) (r : List Float) (ti : List ℕ) (tc : List Float) where
  -- no unknown stands in a row, a right side or a cost
  abbrev pub constant : Form → Float
  constant x = value_of (reading c r) (λ p. nan) x

  -- the element's variable, whether it has a column, and which
  abbrev pub variable : OpfColumn → ℕ → Place
  variable k j = place_of (piece_rank c w) k j

  abbrev pub has_column : OpfColumn → ℕ → Bool
  has_column Va j = true
  has_column Pg j = true
  has_column Flow j = true
  has_column Shed j = sheds c w r j
  has_column Cost j = not (eqb (segments_at c w j) 0)

  abbrev pub column_index : OpfColumn → ℕ → ℕ
  column_index Va j = j
  column_index Pg j = j
  column_index Flow j = j
  column_index Shed j = active_rank (sheds c w r) j
  column_index Cost j = piece_rank c w j

  abbrev pub column_at : OpfColumn → ℕ → ℕ
  column_at k j = column_start c (active_of c w r) k + column_index k j

  abbrev pub row_at : Rowed → ℕ
  row_at x = row_start c (active_of c w r) x.row + x.at

  -- A's row is the constraint's gradient, and b's word its right side
  pub record RowIs (x : Rowed) : Type 0 where
    pub entries : (k : OpfColumn) (j : ℕ) → j < column_elements c k → has_column k j ≡ true
        → Holds (together x.row k) (values_at (a_triplets c w r ti tc) (row_at x, column_at k j)) (term_values constant x.constraint.gradient (variable k j))
    pub right : get_or (b_sheet c w r) (row_at x) nan ≡ constant x.constraint.right

  -- P is ∇²f0
  abbrev pub HessianIs : Type 0
  HessianIs =
      (k l : OpfColumn) (i j : ℕ) → i < column_elements c k → j < column_elements c l → has_column k i ≡ true → has_column l j ≡ true
      → values_at (p_triplets c w r) (column_at k i, column_at l j) ≡ cell_values constant (hessian_entries (program (site c w r ti tc)).hessian) (variable k i) (variable l j)

  -- q is the linear part of ∇f0
  abbrev pub CostIs : Type 0
  CostIs =
      (k : OpfColumn) (j : ℕ) → j < column_elements c k → has_column k j ≡ true
      → Alike (get_or (q_sheet c w r) (column_at k j) nan) (summed nought (term_values constant (program (site c w r ti tc)).costs (variable k j)))

  pub record ProgramIs : Type 0 where
    -- the constraints are the manual's, all of them
    pub constraints : map (λ (x : Rowed). x.constraint) (rowed c w r ti tc) ≡ (program (site c w r ti tc)).constraints
    -- and every row of the layout is one of theirs
    pub complete : (i : ℕ) → i < ncon c (active_of c w r) → Any (λ (x : Rowed). (x.present ≡ true) × (row_at x ≡ i)) (rowed c w r ti tc)
    pub rows : All (λ (x : Rowed). x.present ≡ true → RowIs x) (rowed c w r ti tc)
    pub hessian : HessianIs
    pub costs : CostIs
