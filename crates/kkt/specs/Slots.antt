-- The KKT matrix as slots in the Rust's order of emission: a row, a column and an expression each. Of the readings only the shapes of the linear rows shape this list.
-- Rows and columns are places, a block and an index in it. Main definitions: `columns`, `slots`. Assumes nothing.
use Rattle.std.specs.Prelude.{ℕ, zero, suc, ◌+◌, Bool, true, false, not, ◌&&◌, List, [], ◌∷◌, ◌++◌, length, get_or, eqb, Float}
use Rattle.std.specs.Float.{nan}
use Rattle.float64.specs.Values.{whole}
use Rattle.sequence.specs.Lists.{before, some, each, when}
use Rattle.network.specs.declared.Counts.{Counts}
use Rattle.network.specs.declared.Part.TheVariants.{BrFrom, BrTo, GenBus, References, FlowTerms, GenerationTerms}
use Rattle.network.specs.declared.Field.TheVariants.{Susceptance, Sw, Fmax, Angmin, Angmax, Gmin, Gmax, Cq, Slopes}
use Rattle.network.specs.Layout.{wire, segments_at, segment_start, term_start}
use Rattle.model.specs.Rows.{row_limits}
use Rattle.susceptance.specs.Susceptance.{is_cell}
use Rattle.solution.specs.declared.Entry
use Rattle.solution.specs.Sheet.{piece_rank}
use Rattle.kkt_index.specs.declared.Block.{Block}
use Rattle.kkt_index.specs.declared.Block.TheVariants.{Va, Pg, Flow, Psh, Cost, LamLb, LamUb, GammaLb, GammaUb, RhoLb, RhoUb, MuLb, MuUb, Segments, Linear, NuBal, NuFlow, Eta}
use Rattle.kkt_index.specs.Index.{Shape, shape_of, width}
use Rattle.kkt_index.specs.Index.Shape.{free, upper_only, lower_only, two_sided, equality}
use Rattle.snapping.specs.Expr.{Expr, none, unit, less_unit}
use Rattle.snapping.specs.Expr.Expr.{num, rd, sol, minus, ◌⊕◌, ◌⊖◌, ◌⊗◌, gather}
use Rattle.kkt.specs.declared.Side.{Side}
use Rattle.kkt.specs.declared.Side.TheVariants.{Above, Below, Level}
use Rattle.snapping.specs.Snap.{cap_of, shed_of, mu_lb_of, mu_ub_of, if_fixed, angle, gamma_ub_of, gamma_lb_of, segment_slack, segment_dual, upper_slack, lower_slack, upper_dual, lower_dual}

-- a block and an index in it
abbrev pub Place : Type 0
Place = Block × ℕ

pub record Slot : Type 0 where
  pub row : Place
  pub col : Place
  pub what : Expr

abbrev pub slot : Place → Place → Expr → Slot
slot r c x = record { row = r; col = c; what = x }

-- ---- columns of the branches, the buses and the references, each of so many slots

-- -sw and sw at a branch's ends, and sw times the slack
abbrev pub ends_of : Counts → List ℕ → Block → ℕ → Expr → Expr → Expr → List Slot
ends_of c w b e x y z =
    slot (Va, wire c w BrFrom e) (b, e) x ∷ slot (Va, wire c w BrTo e) (b, e) y ∷ slot (b, e) (b, e) z ∷ []

-- a bound on f, pg or psh: its gradient's entry, and its slack on the diagonal
abbrev pub bound_of : Block → Block → ℕ → Expr → Expr → List Slot
bound_of a b i x y = slot (a, i) (b, i) x ∷ slot (b, i) (b, i) y ∷ []

abbrev pub flow_column : ℕ → List Slot
flow_column e =
    slot (LamLb, e) (Flow, e) (sol Entry.TheVariants.LamLb e)
    ∷ slot (LamUb, e) (Flow, e) (minus (sol Entry.TheVariants.LamUb e))
    ∷ slot (NuFlow, e) (Flow, e) unit
    ∷ []

-- a fixed bus has the Rust's rows
abbrev pub psh_column : List ℕ → ℕ → List Slot
psh_column w i =
    slot (MuLb, i) (Psh, i) (if_fixed w i unit (mu_lb_of w i))
    ∷ slot (MuUb, i) (Psh, i) (if_fixed w i none (minus (mu_ub_of w i)))
    ∷ slot (NuBal, i) (Psh, i) unit
    ∷ []

abbrev pub lam_lb_column : ℕ → List Slot
lam_lb_column e = bound_of Flow LamLb e less_unit (sol Entry.TheVariants.Flow e ⊕ rd Fmax e)

abbrev pub lam_ub_column : ℕ → List Slot
lam_ub_column e = bound_of Flow LamUb e unit (rd Fmax e ⊖ sol Entry.TheVariants.Flow e)

abbrev pub gamma_lb_column : Counts → List ℕ → ℕ → List Slot
gamma_lb_column c w e = ends_of c w GammaLb e (minus (rd Sw e)) (rd Sw e) (rd Sw e ⊗ (angle c w e ⊖ rd Angmin e))

abbrev pub gamma_ub_column : Counts → List ℕ → ℕ → List Slot
gamma_ub_column c w e = ends_of c w GammaUb e (rd Sw e) (minus (rd Sw e)) (rd Sw e ⊗ (rd Angmax e ⊖ angle c w e))

abbrev pub rho_lb_column : ℕ → List Slot
rho_lb_column j = bound_of Pg RhoLb j less_unit (sol Entry.TheVariants.Pg j ⊖ rd Gmin j)

abbrev pub rho_ub_column : ℕ → List Slot
rho_ub_column j = bound_of Pg RhoUb j unit (rd Gmax j ⊖ sol Entry.TheVariants.Pg j)

abbrev pub mu_lb_column : List ℕ → ℕ → List Slot
mu_lb_column w i = bound_of Psh MuLb i less_unit (if_fixed w i none (shed_of w i))

abbrev pub mu_ub_column : List ℕ → ℕ → List Slot
mu_ub_column w i = bound_of Psh MuUb i unit (if_fixed w i unit (cap_of w i ⊖ shed_of w i))

abbrev pub nu_flow_column : Counts → List ℕ → ℕ → List Slot
nu_flow_column c w e =
    slot (Va, wire c w BrFrom e) (NuFlow, e) (minus (rd Susceptance e) ⊗ rd Sw e)
    ∷ slot (Va, wire c w BrTo e) (NuFlow, e) (rd Susceptance e ⊗ rd Sw e)
    ∷ slot (Flow, e) (NuFlow, e) less_unit
    ∷ []

abbrev pub eta_column : Counts → List ℕ → ℕ → List Slot
eta_column c w k = slot (Va, wire c w References k) (Eta, k) unit ∷ []

-- ---- columns of the generators and of their segments

abbrev pub pg_own : Counts → List ℕ → ℕ → List Slot
pg_own c w j =
    slot (Pg, j) (Pg, j) (num (whole 2) ⊗ rd Cq j)
    ∷ slot (RhoLb, j) (Pg, j) (sol Entry.TheVariants.RhoLb j)
    ∷ slot (RhoUb, j) (Pg, j) (minus (sol Entry.TheVariants.RhoUb j))
    ∷ slot (NuBal, wire c w GenBus j) (Pg, j) unit
    ∷ []

-- segment s of generator j, whose epigraph is of rank g, in each of the three loops over the generators
abbrev pub pg_segment : ℕ → ℕ → ℕ → List Slot
pg_segment j g s = slot (Segments, s) (Pg, j) (minus (segment_dual j g s) ⊗ rd Slopes s) ∷ []

abbrev pub cost_segment : ℕ → ℕ → ℕ → List Slot
cost_segment j g s = slot (Segments, s) (Cost, g) (segment_dual j g s) ∷ []

abbrev pub segment_column : ℕ → ℕ → ℕ → List Slot
segment_column j g s =
    slot (Pg, j) (Segments, s) (rd Slopes s)
    ∷ slot (Cost, g) (Segments, s) less_unit
    ∷ slot (Segments, s) (Segments, s) (segment_slack j g s)
    ∷ []

abbrev pub segments_of : Counts → List ℕ → (ℕ → ℕ → ℕ → List Slot) → ℕ → List Slot
segments_of c w f j = each (segments_at c w j) (λ t. f j (piece_rank c w j) (segment_start c w j + t))

-- ---- the susceptance sums

-- "w = -b times sw"
abbrev pub weight_of : ℕ → Expr
weight_of e = minus (rd Susceptance e) ⊗ rd Sw e

abbrev pub gather_at : Bool → Bool → ℕ → Expr → Expr
gather_at true up e a = gather up (weight_of e) a
gather_at false up e a = a

-- "skips w = 0, and at cells (i,i), (j,j), (i,j), (j,i) adds w, w, -w, -w in that order": branch e's part in cell (i, j)
abbrev pub branch_part : Counts → List ℕ → ℕ → ℕ → ℕ → Expr → Expr
branch_part c w i j e a =
    gather_at (is_cell i j (wire c w BrTo e) (wire c w BrFrom e)) false e
    (gather_at (is_cell i j (wire c w BrFrom e) (wire c w BrTo e)) false e
    (gather_at (is_cell i j (wire c w BrTo e) (wire c w BrTo e)) true e
    (gather_at (is_cell i j (wire c w BrFrom e) (wire c w BrFrom e)) true e a)))

unfoldable pub branch_parts : Counts → List ℕ → ℕ → ℕ → ℕ → Expr
branch_parts c w i j zero = none
branch_parts c w i j (suc e) = branch_part c w i j e (branch_parts c w i j e)

-- "the sum is made again"
abbrev pub balance : Counts → List ℕ → ℕ → ℕ → Expr
balance c w i j = branch_parts c w i j c.branches

-- ---- columns of the angles

-- branch e at its end of sign a, which is bus j
abbrev pub end_slots : Counts → List ℕ → ℕ → Expr → ℕ → List Slot
end_slots c w j a e =
    slot (GammaLb, e) (Va, j) (gamma_lb_of c w e ⊗ rd Sw e ⊗ a)
    ∷ slot (GammaUb, e) (Va, j) (minus (gamma_ub_of c w e) ⊗ rd Sw e ⊗ a)
    ∷ slot (NuFlow, e) (Va, j) (rd Susceptance e ⊗ rd Sw e ⊗ a)
    ∷ []

abbrev pub incident : Counts → List ℕ → ℕ → ℕ → List Slot
incident c w j e =
    when (eqb (wire c w BrFrom e) j) (end_slots c w j unit e) ++ when (eqb (wire c w BrTo e) j) (end_slots c w j less_unit e)

-- which places of a reference emit an entry in their bus's own column: "one entry in its own va column, for its first place", or every place
pub data Rule : Type 0 where
  first_place every_place : Rule

abbrev pub admits : Rule → Bool → Bool
admits first_place seen = not seen
admits every_place seen = true

-- place k of the references, in bus j's column
unfoldable pub reference_slot : Rule → Counts → List ℕ → ℕ → ℕ → List Slot
reference_slot rule c w j k =
    when (eqb (wire c w References k) j && admits rule (some (λ i. eqb (wire c w References i) j) k)) (slot (Eta, k) (Va, j) unit ∷ [])

abbrev pub va_column : Rule → Counts → List ℕ → ℕ → List Slot
va_column rule c w j =
    each c.branches (incident c w j)
    ++ (each c.buses (λ i. slot (NuBal, i) (Va, j) (minus (balance c w i j)) ∷ [])
    ++ each c.references (reference_slot rule c w j))

-- ---- columns of the balances

abbrev pub nu_bal_column : Counts → List ℕ → ℕ → List Slot
nu_bal_column c w i =
    each c.buses (λ r. slot (Va, r) (NuBal, i) (balance c w r i) ∷ [])
    ++ (each c.generators (λ j. when (eqb (wire c w GenBus j) i) (slot (Pg, j) (NuBal, i) less_unit ∷ []))
    ++ slot (Psh, i) (NuBal, i) less_unit ∷ [])

-- ---- the linear rows, each with its rows and its columns

module _ (c : Counts) (w ti : List ℕ) (tc : List Float) where
  abbrev pub coefficient : ℕ → Expr
  coefficient t = num (get_or tc t nan)

  -- on which side a row binds: what it holds in its row against a term's column, and in its column
  abbrev pub row_part : Side → ℕ → ℕ → Expr
  row_part Above q t = minus (upper_dual c w ti tc q) ⊗ coefficient t
  row_part Below q t = lower_dual c w ti tc q ⊗ coefficient t
  row_part Level q t = coefficient t

  abbrev pub column_part : Side → ℕ → Expr
  column_part Above t = coefficient t
  column_part Below t = minus (coefficient t)
  column_part Level t = coefficient t

  -- term t of linear row q, whose side is row x of the linear block, in block b
  abbrev pub term_pair : Side → ℕ → ℕ → Block → ℕ → List Slot
  term_pair s q x b t =
      slot (Linear, x) (b, get_or ti t 0) (row_part s q t) ∷ slot (b, get_or ti t 0) (Linear, x) (column_part s t) ∷ []

  abbrev pub diagonal : Side → ℕ → ℕ → List Slot
  diagonal Above q x = slot (Linear, x) (Linear, x) (upper_slack c w ti tc q) ∷ []
  diagonal Below q x = slot (Linear, x) (Linear, x) (lower_slack c w ti tc q) ∷ []
  diagonal Level q x = []

  abbrev pub term_slots : Side → ℕ → ℕ → List Slot
  term_slots s q x =
      each (wire c w FlowTerms q) (λ t. term_pair s q x Flow (term_start c w q + t))
      ++ each (wire c w GenerationTerms q) (λ t. term_pair s q x Pg (term_start c w q + wire c w FlowTerms q + t))

  abbrev pub side_slots : Side → ℕ → ℕ → List Slot
  side_slots s q x = term_slots s q x ++ diagonal s q x

  -- "upper then lower, or one equality"
  abbrev pub row_slots : Shape → ℕ → ℕ → List Slot
  row_slots free q x = []
  row_slots upper_only q x = side_slots Above q x
  row_slots lower_only q x = side_slots Below q x
  row_slots two_sided q x = side_slots Above q x ++ side_slots Below q (x + 1)
  row_slots equality q x = side_slots Level q x

-- ---- the whole matrix

-- what shapes it
pub record Site : Type 0 where
  pub counts : Counts
  pub wiring : List ℕ
  pub shapes : ℕ → Shape
  pub indexes : List ℕ
  pub coefficients : List Float
  pub rule : Rule

abbrev pub site_of : Rule → Counts → List ℕ → List Float → List ℕ → List Float → Site
site_of rule c w r ti tc = record {
  counts = c;
  wiring = w;
  shapes = λ q. shape_of (row_limits c w r q);
  indexes = ti;
  coefficients = tc;
  rule = rule;
}

-- where linear row q starts in its block
abbrev pub start_of : Site → ℕ → ℕ
start_of s q = before (λ i. width (s.shapes i)) q

-- turn i of a block's loop: a column, a generator's columns, or a linear row with its columns
unfoldable pub columns : Site → Block → ℕ → List Slot
columns s Va i = va_column s.rule s.counts s.wiring i
columns s Pg i = pg_own s.counts s.wiring i ++ segments_of s.counts s.wiring pg_segment i
columns s Flow i = flow_column i
columns s Psh i = psh_column s.wiring i
columns s Cost i = segments_of s.counts s.wiring cost_segment i
columns s LamLb i = lam_lb_column i
columns s LamUb i = lam_ub_column i
columns s GammaLb i = gamma_lb_column s.counts s.wiring i
columns s GammaUb i = gamma_ub_column s.counts s.wiring i
columns s RhoLb i = rho_lb_column i
columns s RhoUb i = rho_ub_column i
columns s MuLb i = mu_lb_column s.wiring i
columns s MuUb i = mu_ub_column s.wiring i
columns s Segments i = segments_of s.counts s.wiring segment_column i
columns s Linear i = row_slots s.counts s.wiring s.indexes s.coefficients (s.shapes i) i (start_of s i)
columns s NuBal i = nu_bal_column s.counts s.wiring i
columns s NuFlow i = nu_flow_column s.counts s.wiring i
columns s Eta i = eta_column s.counts s.wiring i

-- how many turns a block's loop takes
abbrev pub turns_of : Counts → Block → ℕ
turns_of c Va = c.buses
turns_of c Pg = c.generators
turns_of c Flow = c.branches
turns_of c Psh = c.buses
turns_of c Cost = c.generators
turns_of c LamLb = c.branches
turns_of c LamUb = c.branches
turns_of c GammaLb = c.branches
turns_of c GammaUb = c.branches
turns_of c RhoLb = c.generators
turns_of c RhoUb = c.generators
turns_of c MuLb = c.buses
turns_of c MuUb = c.buses
turns_of c Segments = c.generators
turns_of c Linear = c.rows
turns_of c NuBal = c.buses
turns_of c NuFlow = c.branches
turns_of c Eta = c.references

-- the Rust's order: the segments' columns stand before mu_ub's, and the linear rows last
abbrev pub emission : List Block
emission =
    Va ∷ Pg ∷ Flow ∷ Psh ∷ Cost ∷ LamLb ∷ LamUb ∷ GammaLb ∷ GammaUb ∷ RhoLb ∷ RhoUb ∷ MuLb ∷ Segments ∷ MuUb ∷ NuBal ∷ NuFlow ∷ Eta ∷ Linear ∷ []

abbrev pub emission_at : ℕ → Block
emission_at k = get_or emission k Va

abbrev pub block_slots : Site → Block → List Slot
block_slots s b = each (turns_of s.counts b) (columns s b)

unfoldable pub slots : Site → List Slot
slots s = each (length emission) (λ k. block_slots s (emission_at k))
