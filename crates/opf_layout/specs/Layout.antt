-- 01's layout of the program: "Columns va, pg, f, shed, cost. Rows: balance n, flow m, reference R, then upper half before lower half of thermal, generator, shed, angle; segments; linear equalities; linear inequalities."
-- Main definitions: `flagged`, `sheds`, `active_rank`, `active_of`, `column_start`, `row_start`, `cones`, `Placed`. Assumes nothing.
use Rattle.std.specs.Prelude.{ℕ, ◌+◌, ◌*◌, ◌≤◌, ◌≡◌, Bool, cond, not, List, [], ◌∷◌, map, get_or, eqb, Float}
use Rattle.std.specs.Float.Ieee.{lt}
use Rattle.float64.specs.Values.{nought}
use Rattle.sequence.specs.Layout.{total, start}
use Rattle.sequence.specs.Lists.{before}
use Rattle.network.specs.declared.Counts.{Counts}
use Rattle.network.specs.declared.Part.{Part}
use Rattle.network.specs.declared.Part.TheVariants.{GeneratorFlags, ThermalFlags, AngleFlags}
use Rattle.network.specs.Layout.{Few, wire}
use Rattle.model.specs.declared.RowLimits.{RowLimits}
use Rattle.model.specs.declared.RowLimits.TheVariants.{None, Upper, Lower, Both, Equal}
use Rattle.model.specs.Rows.{row_limits}
use Rattle.model.specs.Quantities.{shed_cap}
use Rattle.solution.specs.Sheet.{pieces}
use Rattle.opf_layout.specs.declared.Active.{Active}
use Rattle.opf_layout.specs.declared.OpfColumn.{OpfColumn}
use Rattle.opf_layout.specs.declared.OpfColumn.TheVariants.{Va, Pg, Flow, Shed, Cost}
use Rattle.opf_layout.specs.declared.OpfRow.{OpfRow}
use Rattle.opf_layout.specs.declared.OpfRow.TheVariants.{Balance, FlowRow, Reference, LineUb, LineLb, GenUb, GenLb, ShedUb, ShedLb, PhaseUb, PhaseLb, Segment, LinearEqual, LinearLimit}
use Rattle.opf_layout.specs.declared.OpfLayout.{OpfLayout}

-- ---- what has a row or a column of its own

-- how many of the first n are active: the rank of the next
unfoldable pub active_rank : (ℕ → Bool) → ℕ → ℕ
active_rank on n = before (λ i. cond (on i) 1 0) n

-- "An inactive limit has no row": its flag is 0
abbrev pub flagged : Counts → List ℕ → Part → ℕ → Bool
flagged c w p i = not (eqb (wire c w p i) 0)

-- "A shed column exists if cap > 0"
unfoldable pub sheds : Counts → List ℕ → List Float → ℕ → Bool
sheds c w r i = lt nought (shed_cap c w r i)

-- rows of a linear row among the equalities, and among the inequalities
abbrev pub equalities : RowLimits → ℕ
equalities None = 0
equalities (Upper u) = 0
equalities (Lower l) = 0
equalities (Both u l) = 0
equalities (Equal l) = 1

abbrev pub inequalities : RowLimits → ℕ
inequalities None = 0
inequalities (Upper u) = 1
inequalities (Lower l) = 1
inequalities (Both u l) = 2
inequalities (Equal l) = 0

-- where linear row q stands among the equalities, and among the inequalities
unfoldable pub equality_rank : Counts → List ℕ → List Float → ℕ → ℕ
equality_rank c w r q = before (λ i. equalities (row_limits c w r i)) q

unfoldable pub inequality_rank : Counts → List ℕ → List Float → ℕ → ℕ
inequality_rank c w r q = before (λ i. inequalities (row_limits c w r i)) q

-- how many of each there are
unfoldable pub active_of : Counts → List ℕ → List Float → Active
active_of c w r =
    record {
      lines = active_rank (flagged c w ThermalFlags) c.branches;
      generators = active_rank (flagged c w GeneratorFlags) c.generators;
      sheds = active_rank (sheds c w r) c.buses;
      phases = active_rank (flagged c w AngleFlags) c.branches;
      pieces = pieces c w;
      equalities = equality_rank c w r c.rows;
      inequalities = inequality_rank c w r c.rows;
    }

-- no more than there are of each
pub record Bounded (c : Counts) (a : Active) : Type 0 where
  pub few : Few c
  pub few_lines : a.lines ≤ c.branches
  pub few_generators : a.generators ≤ c.generators
  pub few_sheds : a.sheds ≤ c.buses
  pub few_phases : a.phases ≤ c.branches
  pub few_pieces : a.pieces ≤ c.generators
  pub few_equalities : a.equalities ≤ c.rows
  pub few_inequalities : a.inequalities ≤ 2 * c.rows

-- ---- the columns

abbrev pub columns : List OpfColumn
columns = Va ∷ Pg ∷ Flow ∷ Shed ∷ Cost ∷ []

abbrev pub column_rank : OpfColumn → ℕ
column_rank Va = 0
column_rank Pg = 1
column_rank Flow = 2
column_rank Shed = 3
column_rank Cost = 4

abbrev pub column_size : Counts → Active → OpfColumn → ℕ
column_size c a Va = c.buses
column_size c a Pg = c.generators
column_size c a Flow = c.branches
column_size c a Shed = a.sheds
column_size c a Cost = a.pieces

abbrev pub column_sizes : Counts → Active → List ℕ
column_sizes c a = map (column_size c a) columns

unfoldable pub column_start : Counts → Active → OpfColumn → ℕ
column_start c a b = start (column_sizes c a) (column_rank b)

-- how many columns there are
unfoldable pub nvar : Counts → Active → ℕ
nvar c a = total (column_sizes c a)

-- ---- the rows

abbrev pub rows : List OpfRow
rows =
    Balance ∷ FlowRow ∷ Reference ∷ LineUb ∷ LineLb ∷ GenUb ∷ GenLb ∷ ShedUb ∷ ShedLb ∷ PhaseUb ∷ PhaseLb ∷ Segment ∷ LinearEqual ∷ LinearLimit ∷ []

abbrev pub row_rank : OpfRow → ℕ
row_rank Balance = 0
row_rank FlowRow = 1
row_rank Reference = 2
row_rank LineUb = 3
row_rank LineLb = 4
row_rank GenUb = 5
row_rank GenLb = 6
row_rank ShedUb = 7
row_rank ShedLb = 8
row_rank PhaseUb = 9
row_rank PhaseLb = 10
row_rank Segment = 11
row_rank LinearEqual = 12
row_rank LinearLimit = 13

abbrev pub row_size : Counts → Active → OpfRow → ℕ
row_size c a Balance = c.buses
row_size c a FlowRow = c.branches
row_size c a Reference = c.references
row_size c a LineUb = a.lines
row_size c a LineLb = a.lines
row_size c a GenUb = a.generators
row_size c a GenLb = a.generators
row_size c a ShedUb = a.sheds
row_size c a ShedLb = a.sheds
row_size c a PhaseUb = a.phases
row_size c a PhaseLb = a.phases
row_size c a Segment = c.segments
row_size c a LinearEqual = a.equalities
row_size c a LinearLimit = a.inequalities

abbrev pub row_sizes : Counts → Active → List ℕ
row_sizes c a = map (row_size c a) rows

unfoldable pub row_start : Counts → Active → OpfRow → ℕ
row_start c a b = start (row_sizes c a) (row_rank b)

-- how many rows there are
unfoldable pub ncon : Counts → Active → ℕ
ncon c a = total (row_sizes c a)

-- ---- the cones, in row order: equalities, inequalities, and "the linear two only if above 0"

abbrev pub also_if : ℕ → List ℕ → List ℕ
also_if n rest = cond (eqb n 0) rest (n ∷ rest)

unfoldable pub cones : Counts → Active → List ℕ
cones c a =
    row_start c a LineUb ∷ (a.lines + a.lines + (a.generators + a.generators) + (a.sheds + a.sheds) + (a.phases + a.phases) + c.segments) ∷ also_if a.equalities (also_if a.inequalities [])

-- ---- the layout as a struct

-- a block's start, as the struct holds it
abbrev pub column_in : OpfLayout → OpfColumn → ℕ
column_in x Va = x.va
column_in x Pg = x.pg
column_in x Flow = x.flow
column_in x Shed = x.shed
column_in x Cost = x.cost

abbrev pub row_in : OpfLayout → OpfRow → ℕ
row_in x Balance = x.balance
row_in x FlowRow = x.flow_def
row_in x Reference = x.reference
row_in x LineUb = x.line_ub
row_in x LineLb = x.line_lb
row_in x GenUb = x.gen_ub
row_in x GenLb = x.gen_lb
row_in x ShedUb = x.shed_ub
row_in x ShedLb = x.shed_lb
row_in x PhaseUb = x.phase_ub
row_in x PhaseLb = x.phase_lb
row_in x Segment = x.segment
row_in x LinearEqual = x.linear_equal
row_in x LinearLimit = x.linear_limit

-- every start is far below 2^32
pub record Narrow (x : OpfLayout) : Type 0 where
  pub columns_narrow : (b : OpfColumn) → column_in x b ≤ 0x1_0000
  pub rows_narrow : (b : OpfRow) → row_in x b ≤ 0x1_0000

-- every start is its block's, the totals are the program's, and the first two cones are `cones`'
pub record Placed (c : Counts) (a : Active) (x : OpfLayout) : Type 0 where
  pub va_start : x.va ≡ column_start c a Va
  pub pg_start : x.pg ≡ column_start c a Pg
  pub flow_start : x.flow ≡ column_start c a Flow
  pub shed_start : x.shed ≡ column_start c a Shed
  pub cost_start : x.cost ≡ column_start c a Cost
  pub nvar_is : x.nvar ≡ nvar c a
  pub balance_start : x.balance ≡ row_start c a Balance
  pub flow_def_start : x.flow_def ≡ row_start c a FlowRow
  pub reference_start : x.reference ≡ row_start c a Reference
  pub line_ub_start : x.line_ub ≡ row_start c a LineUb
  pub line_lb_start : x.line_lb ≡ row_start c a LineLb
  pub gen_ub_start : x.gen_ub ≡ row_start c a GenUb
  pub gen_lb_start : x.gen_lb ≡ row_start c a GenLb
  pub shed_ub_start : x.shed_ub ≡ row_start c a ShedUb
  pub shed_lb_start : x.shed_lb ≡ row_start c a ShedLb
  pub phase_ub_start : x.phase_ub ≡ row_start c a PhaseUb
  pub phase_lb_start : x.phase_lb ≡ row_start c a PhaseLb
  pub segment_block_start : x.segment ≡ row_start c a Segment
  pub linear_equal_start : x.linear_equal ≡ row_start c a LinearEqual
  pub linear_limit_start : x.linear_limit ≡ row_start c a LinearLimit
  pub ncon_is : x.ncon ≡ ncon c a
  pub n_eq_is : x.n_eq ≡ row_start c a LineUb
  pub n_ineq_is : x.n_ineq ≡ get_or (cones c a) 1 0
  pub active_is : x.active ≡ a
