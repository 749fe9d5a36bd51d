-- problem/dc.rs's `assemble_opf`: min 1/2 x'Px + q'x s.t. Ax + s = b. P's and A's entries in the Rust's order of writing, each a row, a column and an expression in its grouping; q and b by column and row.
-- Main definitions: `a_entries`, `a_triplets`, `p_triplets`, `q_sheet`, `b_sheet`. Assumes nothing.
use Rattle.std.specs.Prelude.{ℕ, ◌+◌, not, List, [], ◌∷◌, ◌++◌, length, get_or, eqb, Float, Option}
use Rattle.std.specs.Float.{nan}
use Rattle.std.specs.Float.Ieee.{eq}
use Rattle.float64.specs.Values.{nought, whole}
use Rattle.sequence.specs.Lists.{each, when}
use Rattle.sequence.specs.declared.Triplet.{Triplet}
use Rattle.sequence.specs.Sheets.{item, emit}
use Rattle.network.specs.declared.Counts.{Counts}
use Rattle.network.specs.declared.Field.{Field}
use Rattle.network.specs.declared.Part.TheVariants.{BrFrom, BrTo, GenBus, References, GeneratorFlags, ThermalFlags, AngleFlags, FlowTerms, GenerationTerms}
use Rattle.network.specs.declared.Field.TheVariants.{BaseMva, Sw, Fmax, Angmin, Angmax, Gmin, Gmax, Cq, Cl, CShed, Slopes, Intercepts}
use Rattle.network.specs.Layout.{wire, reading, segments_at, segment_start, term_start}
use Rattle.model.specs.declared.RowLimits.{RowLimits}
use Rattle.model.specs.declared.RowLimits.TheVariants.{None, Upper, Lower, Both, Equal}
use Rattle.model.specs.Rows.{row_limits}
use Rattle.model.specs.Quantities.{flow_offset, fixed_at}
use Rattle.solution.specs.declared.Entry.{Entry}
use Rattle.solution.specs.Sheet.{piece_rank}
use Rattle.snapping.specs.Expr.{Expr, eval, none, unit, less_unit}
use Rattle.snapping.specs.Expr.Expr.{num, rd, minus, ◌⊕◌, ◌⊗◌, ◌⊘◌}
use Rattle.snapping.specs.Snap.{cap_of}
use Rattle.kkt.specs.Slots.{weight_of}
use Rattle.opf_layout.specs.declared.Active.{Active}
use Rattle.opf_layout.specs.declared.OpfColumn.{OpfColumn}
use Rattle.opf_layout.specs.declared.OpfColumn.TheVariants.{Va, Pg, Flow, Shed, Cost}
use Rattle.opf_layout.specs.declared.OpfRow.{OpfRow}
use Rattle.opf_layout.specs.declared.OpfRow.TheVariants.{Balance, FlowRow, Reference, LineUb, LineLb, GenUb, GenLb, ShedUb, ShedLb, PhaseUb, PhaseLb, Segment, LinearEqual, LinearLimit}
use Rattle.opf_layout.specs.Layout.{active_rank, flagged, sheds, equality_rank, inequality_rank, active_of, columns, column_start, rows, row_start}

-- no expression of the program reads a solution
abbrev pub blank : Entry → ℕ → Float
blank e i = nan

-- an entry of A: a row and a column by block and index, and its value
pub record Coefficient : Type 0 where
  pub row : OpfRow × ℕ
  pub col : OpfColumn × ℕ
  pub what : Expr

abbrev pub coefficient : OpfRow → ℕ → OpfColumn → ℕ → Expr → Coefficient
coefficient r i k j x = record { row = (r, i); col = (k, j); what = x }

-- a segment's places and a limit's two sides
abbrev pub two_sides : OpfRow → OpfRow → ℕ → OpfColumn → ℕ → List Coefficient
two_sides ub lb i k j = coefficient ub i k j unit ∷ coefficient lb i k j less_unit ∷ []

module _ (c : Counts) (w : List ℕ) (r : List Float) where
  abbrev pub from : ℕ → ℕ
  from e = wire c w BrFrom e

  abbrev pub to : ℕ → ℕ
  to e = wire c w BrTo e

  -- which of its block's rows an active limit has, and which shed column a bus
  abbrev pub line : ℕ → ℕ
  line e = active_rank (flagged c w ThermalFlags) e

  abbrev pub phase : ℕ → ℕ
  phase e = active_rank (flagged c w AngleFlags) e

  abbrev pub capability : ℕ → ℕ
  capability j = active_rank (flagged c w GeneratorFlags) j

  abbrev pub shed : ℕ → ℕ
  shed i = active_rank (sheds c w r) i

  -- ---- A, in the Rust's order of writing

  -- "Power balance: G_inc g + psh - B theta = fixed_withdrawal(sw)"
  abbrev pub shed_entry : ℕ → List Coefficient
  shed_entry i = when (sheds c w r i) (coefficient Balance i Shed (shed i) unit ∷ [])

  abbrev pub generator_entry : ℕ → List Coefficient
  generator_entry j = coefficient Balance (wire c w GenBus j) Pg j unit ∷ []

  -- -B = -A' diag(w) A, and the flow definition f - w (theta_from - theta_to)
  abbrev pub branch_own : ℕ → List Coefficient
  branch_own e =
      coefficient Balance (from e) Va (from e) (minus (weight_of e))
      ∷ coefficient Balance (to e) Va (to e) (minus (weight_of e))
      ∷ coefficient Balance (from e) Va (to e) (weight_of e)
      ∷ coefficient Balance (to e) Va (from e) (weight_of e)
      ∷ coefficient FlowRow e Flow e unit
      ∷ coefficient FlowRow e Va (from e) (minus (weight_of e))
      ∷ coefficient FlowRow e Va (to e) (weight_of e)
      ∷ []

  -- "sw (A theta) within sw [angmin, angmax]"
  abbrev pub phase_entries : ℕ → List Coefficient
  phase_entries e =
      coefficient PhaseUb (phase e) Va (from e) (rd Sw e)
      ∷ coefficient PhaseUb (phase e) Va (to e) (minus (rd Sw e))
      ∷ coefficient PhaseLb (phase e) Va (from e) (minus (rd Sw e))
      ∷ coefficient PhaseLb (phase e) Va (to e) (rd Sw e)
      ∷ []

  abbrev pub branch_entries : ℕ → List Coefficient
  branch_entries e =
      branch_own e
      ++ (when (flagged c w ThermalFlags e) (two_sides LineUb LineLb (line e) Flow e)
      ++ when (flagged c w AngleFlags e) (phase_entries e))

  abbrev pub reference_entry : ℕ → List Coefficient
  reference_entry k = coefficient Reference k Va (wire c w References k) unit ∷ []

  abbrev pub capability_entries : ℕ → List Coefficient
  capability_entries j = when (flagged c w GeneratorFlags j) (two_sides GenUb GenLb (capability j) Pg j)

  abbrev pub shed_bounds : ℕ → List Coefficient
  shed_bounds i = when (sheds c w r i) (two_sides ShedUb ShedLb (shed i) Shed (shed i))

  -- one epigraph variable above every segment line
  abbrev pub segment_entries : ℕ → List Coefficient
  segment_entries j =
      each (segments_at c w j) (λ t.
      coefficient Segment (segment_start c w j + t) Pg j (rd Slopes (segment_start c w j + t))
      ∷ coefficient Segment (segment_start c w j + t) Cost (piece_rank c w j) less_unit
      ∷ [])

  module _ (ti : List ℕ) (tc : List Float) where
    -- term t of a linear row, in a row of the program, by its sign
    abbrev pub term_entry : OpfRow → ℕ → Expr → OpfColumn → ℕ → List Coefficient
    term_entry b x sign k t = coefficient b x k (get_or ti t 0) (sign ⊗ num (get_or tc t nan)) ∷ []

    abbrev pub written_row : OpfRow → ℕ → Expr → ℕ → List Coefficient
    written_row b x sign q =
        each (wire c w FlowTerms q) (λ t. term_entry b x sign Flow (term_start c w q + t))
        ++ each (wire c w GenerationTerms q) (λ t. term_entry b x sign Pg (term_start c w q + wire c w FlowTerms q + t))

    -- "An upper limit is a'x <= upper, a lower limit -a'x <= -lower, and an equality a'x = lower"
    abbrev pub linear_entries : RowLimits → ℕ → List Coefficient
    linear_entries None q = []
    linear_entries (Upper u) q = written_row LinearLimit (inequality_rank c w r q) unit q
    linear_entries (Lower l) q = written_row LinearLimit (inequality_rank c w r q) less_unit q
    linear_entries (Both u l) q =
        written_row LinearLimit (inequality_rank c w r q) unit q ++ written_row LinearLimit (inequality_rank c w r q + 1) less_unit q
    linear_entries (Equal l) q = written_row LinearEqual (equality_rank c w r q) unit q

    unfoldable pub a_entries : List Coefficient
    a_entries =
        each c.buses shed_entry
        ++ (each c.generators generator_entry
        ++ (each c.branches branch_entries
        ++ (each c.references reference_entry
        ++ (each c.generators capability_entries
        ++ (each c.buses shed_bounds
        ++ (each c.generators segment_entries ++ each c.rows (λ q. linear_entries (row_limits c w r q) q)))))))

-- ---- as triplets: zero values dropped, in the order written, not merged

-- by where the blocks of rows and of columns start
module _ (row_at : OpfRow → ℕ) (column_at : OpfColumn → ℕ) (R : Field → ℕ → Float) (S : Entry → ℕ → Float) where
  abbrev pub item_by : Coefficient → Option Triplet
  item_by x =
      item (not (eq (eval R S x.what) nought)) (row_at x.row.0 + x.row.1) (column_at x.col.0 + x.col.1) (eval R S x.what)

  unfoldable pub triplets_by : List Coefficient → List Triplet
  triplets_by [] = []
  triplets_by (x ∷ xs) = emit (item_by x) ++ triplets_by xs

module _ (c : Counts) (a : Active) (R : Field → ℕ → Float) (S : Entry → ℕ → Float) where
  abbrev pub triplet_of : ℕ → ℕ → Float → List Triplet
  triplet_of i j v = emit (item (not (eq v nought)) i j v)

  abbrev pub triplets : List Coefficient → List Triplet
  triplets xs = triplets_by (row_start c a) (column_start c a) R S xs

  -- P: "2 cq on pg"
  unfoldable pub quad_triplets : List Triplet
  quad_triplets =
      each c.generators (λ j. triplet_of (column_start c a Pg + j) (column_start c a Pg + j) (eval R S (num (whole 2) ⊗ rd Cq j)))

module _ (c : Counts) (w : List ℕ) (r : List Float) where
  abbrev pub a_triplets : List ℕ → List Float → List Triplet
  a_triplets ti tc = triplets c (active_of c w r) (reading c r) blank (a_entries c w r ti tc)

  abbrev pub p_triplets : List Triplet
  p_triplets = quad_triplets c (active_of c w r) (reading c r) blank

-- ---- how many elements stand behind a block of columns, and of rows

abbrev pub column_elements : Counts → OpfColumn → ℕ
column_elements c Va = c.buses
column_elements c Pg = c.generators
column_elements c Flow = c.branches
column_elements c Shed = c.buses
column_elements c Cost = c.generators

abbrev pub row_elements : Counts → OpfRow → ℕ
row_elements c Balance = c.buses
row_elements c FlowRow = c.branches
row_elements c Reference = c.references
row_elements c LineUb = c.branches
row_elements c LineLb = c.branches
row_elements c GenUb = c.generators
row_elements c GenLb = c.generators
row_elements c ShedUb = c.buses
row_elements c ShedLb = c.buses
row_elements c PhaseUb = c.branches
row_elements c PhaseLb = c.branches
row_elements c Segment = c.segments
row_elements c LinearEqual = c.rows
row_elements c LinearLimit = c.rows

module _ (c : Counts) (r : List Float) where
  abbrev pub value : Expr → Float
  value x = eval (reading c r) blank x

  -- a limit of a linear row in per unit: sign * limit_mw / base_mva
  abbrev pub per_unit : Expr → Float → Float
  per_unit sign limit = value (sign ⊗ num limit ⊘ rd BaseMva 0)

  abbrev pub equal_side : RowLimits → List Float
  equal_side None = []
  equal_side (Upper u) = []
  equal_side (Lower l) = []
  equal_side (Both u l) = []
  equal_side (Equal l) = per_unit unit l ∷ []

  abbrev pub limit_sides : RowLimits → List Float
  limit_sides None = []
  limit_sides (Upper u) = per_unit unit u ∷ []
  limit_sides (Lower l) = per_unit less_unit l ∷ []
  limit_sides (Both u l) = per_unit unit u ∷ per_unit less_unit l ∷ []
  limit_sides (Equal l) = []

module _ (c : Counts) (w : List ℕ) (r : List Float) where
  -- ---- q, column by column: every word begins at +0, and `lin` adds

  -- "cl on pg, c_shed on psh", 1 on an epigraph; no word where element i has no column
  abbrev pub linear : OpfColumn → ℕ → List Float
  linear Va i = nought ∷ []
  linear Pg j = value c r (none ⊕ rd Cl j) ∷ []
  linear Flow e = nought ∷ []
  linear Shed i = when (sheds c w r i) (value c r (none ⊕ rd CShed i) ∷ [])
  linear Cost j = when (not (eqb (segments_at c w j) 0)) (value c r (none ⊕ unit) ∷ [])

  -- the words of one block, and of all of them in the layout's order
  abbrev pub column_words : OpfColumn → List Float
  column_words k = each (column_elements c k) (linear k)

  unfoldable pub q_sheet : List Float
  q_sheet = each (length columns) (λ k. column_words (get_or columns k Va))

  -- ---- b, row by row: `rhs` sets

  -- the right sides of element i: none where its limit is inactive, two for a linear row with two limits
  abbrev pub right_sides : OpfRow → ℕ → List Float
  right_sides Balance i = fixed_at c w r i ∷ []
  right_sides FlowRow e = flow_offset c r e ∷ []
  right_sides Reference k = nought ∷ []
  right_sides LineUb e = when (flagged c w ThermalFlags e) (value c r (rd Fmax e) ∷ [])
  right_sides LineLb e = when (flagged c w ThermalFlags e) (value c r (rd Fmax e) ∷ [])
  right_sides GenUb j = when (flagged c w GeneratorFlags j) (value c r (rd Gmax j) ∷ [])
  right_sides GenLb j = when (flagged c w GeneratorFlags j) (value c r (minus (rd Gmin j)) ∷ [])
  right_sides ShedUb i = when (sheds c w r i) (value c r (cap_of w i) ∷ [])
  right_sides ShedLb i = when (sheds c w r i) (nought ∷ [])
  right_sides PhaseUb e = when (flagged c w AngleFlags e) (value c r (rd Sw e ⊗ rd Angmax e) ∷ [])
  right_sides PhaseLb e = when (flagged c w AngleFlags e) (value c r (minus (rd Sw e) ⊗ rd Angmin e) ∷ [])
  right_sides Segment s = value c r (minus (rd Intercepts s)) ∷ []
  right_sides LinearEqual q = equal_side c r (row_limits c w r q)
  right_sides LinearLimit q = limit_sides c r (row_limits c w r q)

  abbrev pub row_words : OpfRow → List Float
  row_words k = each (row_elements c k) (right_sides k)

  unfoldable pub b_sheet : List Float
  b_sheet = each (length rows) (λ k. row_words (get_or rows k Balance))
