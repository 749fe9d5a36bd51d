-- What the matrix must hold by the books, cell by cell: the DC program's KKT matrix at the snapped solution, for a network and a solution sheet.
-- Main definitions: `site_of`, `unknown`, `cell_values`, `MatrixIs`; `Doubles`. Assumes nothing.
use Rattle.std.specs.Prelude.{ℕ, ◌<◌, ◌+◌, ◌≡◌, Bool, false, not, ◌&&◌, List, [], ◌∷◌, ◌++◌, get_or, T, eqb, Float}
use Rattle.std.specs.Float.{nan, binary64}
use Rattle.std.specs.Float.Ieee.{lt, eq, fits}
use Rattle.float64.specs.Values.{nought, tolerance}
use Rattle.sequence.specs.Lists.{some, each, when}
use Rattle.network.specs.declared.Counts.{Counts}
use Rattle.network.specs.declared.Part.TheVariants.{References}
use Rattle.network.specs.Layout.{wire, reading}
use Rattle.model.specs.Rows.{row_limits}
use Rattle.model.specs.Quantities.{shed_cap}
use Rattle.solution.specs.declared.Entry.TheVariants as entries
use Rattle.solution.specs.Sheet.{pieces, solved}
use Rattle.kkt_index.specs.declared.Block.{Block}
use Rattle.kkt_index.specs.declared.Block.TheVariants.{Va, Pg, Flow, Psh, Cost, LamLb, LamUb, GammaLb, GammaUb, RhoLb, RhoUb, MuLb, MuUb, Segments, Linear, NuBal, NuFlow, Eta}
use Rattle.kkt_index.specs.Index.{Shape, shape_of, rank, size, linear_row_count, block_start}
use Rattle.kkt_index.specs.Index.Shape.{free, upper_only, lower_only, two_sided, equality}
use Rattle.snapping.specs.declared.LinearDuals.{LinearDuals}
use Rattle.snapping.specs.Snap.{snap_sheet, duals, nu_flow}
use Rattle.kkt.specs.Slots.{Rule}
use Rattle.kkt.specs.Slots.Rule.{first_place, every_place}
use Rattle.kkt.specs.Matrix.{kkt_matrix_list}
use Rattle.change_table.specs.Table.{values_at}
use Rattle.books.specs.Forms.{Place, Form, value_of}
use Rattle.books.specs.Convex.{Entry, matrix_of}
use Rattle.books.specs.Manual.{Site, program}

-- every word is a double
abbrev pub Doubles : List Float → Type 0
Doubles xs = (i : ℕ) → T (fits binary64 (get_or xs i nan))

-- ---- the values of a cell

abbrev pub same_place : Place → Place → Bool
same_place a b = eqb (rank a.0) (rank b.0) && eqb a.1 b.1

-- of the entries at row a and column b, the values that are not zero, in order
unfoldable pub cell_values : (Form → Float) → List Entry → Place → Place → List Float
cell_values v [] a b = []
cell_values v (x ∷ xs) a b =
    when (same_place x.row a && same_place x.col b) (when (not (eq (v x.what) nought)) (v x.what ∷ [])) ++ cell_values v xs a b

-- ---- the snapped solution, by 01's rules

-- the multipliers of a linear row: "upper then lower, or one equality"
abbrev pub sides_of : Shape → LinearDuals → List Float
sides_of free d = []
sides_of upper_only d = d.upper ∷ []
sides_of lower_only d = d.lower ∷ []
sides_of two_sided d = d.upper ∷ d.lower ∷ []
sides_of equality d = d.equality ∷ []

module _ (c : Counts) (w : List ℕ) (r : List Float) (ti : List ℕ) (tc s : List Float) where
  -- the network as the manual's program sees it: "the matrix fixes the bus if cap < tolerance"
  abbrev pub site_of : Site
  site_of = record {
    counts = c;
    wiring = w;
    indexes = ti;
    coefficients = tc;
    shapes = λ q. shape_of (row_limits c w r q);
    fixed = λ i. lt (shed_cap c w r i) tolerance;
  }

  unfoldable pub linear_words : List Float
  linear_words = each c.rows (λ q. sides_of (shape_of (row_limits c w r q)) (duals c w ti tc (pieces c w) r s q))

  -- each unknown: the sheet that `snap` leaves, the rows that `snap_linear` gives, and `nu_flow_values`; of the references' multipliers no sheet has a value
  abbrev pub unknown : (ℕ → Float) → Block → ℕ → Float
  unknown eta Va i = solved c (pieces c w) (snap_sheet c w (pieces c w) r s) entries.Va i
  unknown eta Pg i = solved c (pieces c w) (snap_sheet c w (pieces c w) r s) entries.Pg i
  unknown eta Flow i = solved c (pieces c w) (snap_sheet c w (pieces c w) r s) entries.Flow i
  unknown eta Psh i = solved c (pieces c w) (snap_sheet c w (pieces c w) r s) entries.Psh i
  unknown eta Cost i = solved c (pieces c w) (snap_sheet c w (pieces c w) r s) entries.Epigraph i
  unknown eta LamLb i = solved c (pieces c w) (snap_sheet c w (pieces c w) r s) entries.LamLb i
  unknown eta LamUb i = solved c (pieces c w) (snap_sheet c w (pieces c w) r s) entries.LamUb i
  unknown eta GammaLb i = solved c (pieces c w) (snap_sheet c w (pieces c w) r s) entries.GammaLb i
  unknown eta GammaUb i = solved c (pieces c w) (snap_sheet c w (pieces c w) r s) entries.GammaUb i
  unknown eta RhoLb i = solved c (pieces c w) (snap_sheet c w (pieces c w) r s) entries.RhoLb i
  unknown eta RhoUb i = solved c (pieces c w) (snap_sheet c w (pieces c w) r s) entries.RhoUb i
  unknown eta MuLb i = solved c (pieces c w) (snap_sheet c w (pieces c w) r s) entries.MuLb i
  unknown eta MuUb i = solved c (pieces c w) (snap_sheet c w (pieces c w) r s) entries.MuUb i
  unknown eta Segments i = solved c (pieces c w) (snap_sheet c w (pieces c w) r s) entries.SegmentDual i
  unknown eta Linear i = get_or linear_words i nan
  unknown eta NuBal i = solved c (pieces c w) (snap_sheet c w (pieces c w) r s) entries.NuBal i
  unknown eta NuFlow i = nu_flow c w ti tc (pieces c w) r s i
  unknown eta Eta i = eta i

  abbrev pub value : (ℕ → Float) → Form → Float
  value eta x = value_of (reading c r) (λ p. unknown eta p.0 p.1) x

  -- ---- the exception: "a bus listed twice as reference gets one entry in its own va column, for its first place"

  -- an earlier place lists the bus too
  abbrev pub listed_before : ℕ → ℕ → Bool
  listed_before j k = some (λ i. eqb (wire c w References i) j) k

  abbrev pub spared : Rule → Place → Place → Bool
  spared first_place a b = eqb (rank a.0) (rank Eta) && (eqb (rank b.0) (rank Va) && listed_before b.1 a.1)
  spared every_place a b = false

  -- ---- the claim

  abbrev pub Inside : Place → Type 0
  Inside a = a.1 < size c (pieces c w) (linear_row_count c w r) a.0

  abbrev pub flat : Place → ℕ
  flat a = block_start c (pieces c w) (linear_row_count c w r) a.0 + a.1

  -- at every cell the list holds, in order, the values of the books' matrix that are not zero
  abbrev pub MatrixIs : Rule → Type 0
  MatrixIs rule =
      (eta : ℕ → Float) (a b : Place) → Inside a → Inside b
      → values_at (kkt_matrix_list rule c w r ti tc s) (flat a, flat b) ≡ when (not (spared rule a b)) (cell_values (value eta) (matrix_of (program site_of)) a b)
