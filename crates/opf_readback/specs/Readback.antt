-- problem/dc.rs's `read_dc_solution`: the solution sheet that a solver's raw primal and dual vectors give, word by word, and `nodal_marginal_values`.
-- "Equality duals carry the sign flip; inequality duals map straight across; a limit without a row reads a zero multiplier." Main definitions: `read_at`, `read_sheet`, `nodal_sheet`. Assumes nothing.
use Rattle.std.specs.Prelude.{ℕ, ◌+◌, Bool, cond, List, length, get_or, eqb, Float}
use Rattle.std.specs.Float.{nan, binary64}
use Rattle.std.specs.Float.Ieee.{neg, add, sub, div}
use Rattle.float64.specs.Values.{nought}
use Rattle.sequence.specs.Lists.{each, made, turns}
use Rattle.network.specs.declared.Counts.{Counts}
use Rattle.network.specs.declared.Part.TheVariants.{GeneratorFlags, ThermalFlags, AngleFlags}
use Rattle.network.specs.declared.Field.TheVariants.{BaseMva, CShed}
use Rattle.network.specs.Layout.{objective, reading}
use Rattle.model.specs.declared.RowLimits.{RowLimits}
use Rattle.model.specs.declared.RowLimits.TheVariants.{None, Upper, Lower, Both, Equal}
use Rattle.model.specs.Rows.{row_limits}
use Rattle.model.specs.Quantities.{generator_cost, evaluate}
use Rattle.solution.specs.declared.Entry.{Entry}
use Rattle.solution.specs.declared.Entry.TheVariants.{Va, Pg, Flow, Psh, NuBal, LamUb, LamLb, RhoUb, RhoLb, MuUb, MuLb, GammaUb, GammaLb, Epigraph, SegmentDual, LinearDual, LinearValue, Objective}
use Rattle.solution.specs.Sheet.{entries, size, pieces, solved}
use Rattle.opf_layout.specs.declared.OpfColumn.{OpfColumn}
use Rattle.opf_layout.specs.declared.OpfColumn.TheVariants as columns
use Rattle.opf_layout.specs.declared.OpfRow.{OpfRow}
use Rattle.opf_layout.specs.declared.OpfRow.TheVariants as rows
use Rattle.opf_layout.specs.Layout.{active_rank, flagged, sheds, equality_rank, inequality_rank, active_of, column_start, row_start}

-- the network, and the raw vectors x and z with the raw objective
module _ (c : Counts) (w : List ℕ) (r : List Float) (ti : List ℕ) (tc : List Float) (x z : List Float) (raw : Float) where
  abbrev pub primal : OpfColumn → ℕ → Float
  primal b i = get_or x (column_start c (active_of c w r) b + i) nan

  abbrev pub dual : OpfRow → ℕ → Float
  dual b i = get_or z (row_start c (active_of c w r) b + i) nan

  -- what stands at the rank of an active index, and 0 at another
  abbrev pub if_active : (ℕ → Bool) → (ℕ → Float) → ℕ → Float
  if_active on f i = cond (on i) (f (active_rank on i)) nought

  -- the signed dual of a linear row: equality plus upper minus lower, each 0 where there is none
  abbrev pub signed_dual : Float → Float → Float → Float
  signed_dual e u l = sub binary64 (add binary64 e u) l

  abbrev pub linear_dual : RowLimits → ℕ → Float
  linear_dual None q = signed_dual nought nought nought
  linear_dual (Upper u) q = signed_dual nought (dual rows.LinearLimit (inequality_rank c w r q)) nought
  linear_dual (Lower l) q = signed_dual nought nought (dual rows.LinearLimit (inequality_rank c w r q))
  linear_dual (Both u l) q =
      signed_dual nought (dual rows.LinearLimit (inequality_rank c w r q)) (dual rows.LinearLimit (inequality_rank c w r q + 1))
  linear_dual (Equal l) q = signed_dual (dual rows.LinearEqual (equality_rank c w r q)) nought nought

  abbrev pub flows : List Float
  flows = made (primal columns.Flow) c.branches

  abbrev pub powers : List Float
  powers = made (primal columns.Pg) c.generators

  -- by the wiring's objective word: none, the generators' cost, or the solver's own
  abbrev pub generator_costs : Float
  generator_costs = turns (λ j a. add binary64 a (generator_cost c w r j (primal columns.Pg j))) nought c.generators

  abbrev pub declared : Float
  declared = cond (eqb (objective w) 0) nought (cond (eqb (objective w) 1) generator_costs raw)

  unfoldable pub read_at : Entry → ℕ → Float
  read_at Va i = primal columns.Va i
  read_at Pg j = primal columns.Pg j
  read_at Flow e = primal columns.Flow e
  read_at Psh i = if_active (sheds c w r) (primal columns.Shed) i
  read_at NuBal i = neg (dual rows.Balance i)
  read_at LamUb e = if_active (flagged c w ThermalFlags) (dual rows.LineUb) e
  read_at LamLb e = if_active (flagged c w ThermalFlags) (dual rows.LineLb) e
  read_at RhoUb j = if_active (flagged c w GeneratorFlags) (dual rows.GenUb) j
  read_at RhoLb j = if_active (flagged c w GeneratorFlags) (dual rows.GenLb) j
  read_at MuUb i = if_active (sheds c w r) (dual rows.ShedUb) i
  -- without a column: c_shed minus nu_bal
  read_at MuLb i =
      cond (sheds c w r i) (dual rows.ShedLb (active_rank (sheds c w r) i)) (sub binary64 (reading c r CShed i) (neg (dual rows.Balance i)))
  read_at GammaUb e = if_active (flagged c w AngleFlags) (dual rows.PhaseUb) e
  read_at GammaLb e = if_active (flagged c w AngleFlags) (dual rows.PhaseLb) e
  read_at Epigraph g = primal columns.Cost g
  read_at SegmentDual s = dual rows.Segment s
  read_at LinearDual q = linear_dual (row_limits c w r q) q
  read_at LinearValue q = evaluate c w ti tc q flows powers
  read_at Objective i = declared

  unfoldable pub read_sheet : List Float
  read_sheet = each (length entries) (λ k. made (read_at (get_or entries k Va)) (size c (pieces c w) (get_or entries k Va)))

-- nu_bal / base_mva: the marginal objective change for an added MW at each bus
unfoldable pub nodal_sheet : Counts → List ℕ → List Float → List Float → List Float
nodal_sheet c w r s = made (λ i. div binary64 (solved c (pieces c w) s NuBal i) (reading c r BaseMva 0)) c.buses
