-- The MATPOWER manual's constraints, each with the row that 01's layout has for it: "An inactive limit has no row", and shed demand has one where its cap is above 0.
-- Main definition: `rowed`. Assumes nothing.
use Rattle.std.specs.Prelude.{ℕ, ◌+◌, Bool, true, false, List, [], ◌∷◌, ◌++◌, Float}
use Rattle.sequence.specs.Lists.{each}
use Rattle.network.specs.declared.Counts.{Counts}
use Rattle.network.specs.declared.Part.TheVariants.{GeneratorFlags, ThermalFlags, AngleFlags}
use Rattle.network.specs.Layout.{segments_at, segment_start}
use Rattle.model.specs.Rows.{row_limits}
use Rattle.kkt_index.specs.Index.{Shape, shape_of}
use Rattle.kkt_index.specs.Index.Shape.{free, upper_only, lower_only, two_sided, equality}
use Rattle.opf_layout.specs.declared.OpfRow.{OpfRow}
use Rattle.opf_layout.specs.declared.OpfRow.TheVariants.{Balance, FlowRow, Reference, LineUb, LineLb, GenUb, GenLb, ShedUb, ShedLb, PhaseUb, PhaseLb, Segment, LinearEqual, LinearLimit}
use Rattle.opf_layout.specs.Layout.{active_rank, flagged, sheds, equality_rank, inequality_rank}
use Rattle.books.specs.Convex.{Constraint}
use Rattle.books.specs.Manual.{Site, balance, flow_law, reference, flow_floor, flow_ceiling, generator_floor, generator_ceiling, shed_floor, shed_ceiling, angle_floor, angle_ceiling, segment, row_ceiling, row_floor, row_level, row_start}

-- a constraint, whether it has a row, and which
pub record Rowed : Type 0 where
  pub constraint : Constraint
  pub present : Bool
  pub row : OpfRow
  pub at : ℕ

abbrev pub as_row : Constraint → Bool → OpfRow → ℕ → Rowed
as_row x on a i = record { constraint = x; present = on; row = a; at = i }

-- one list after another, up to the last
abbrev pub joined : {A : Type 0} → List A → List (List A) → List A
joined l [] = l
joined l (m ∷ ls) = l ++ joined m ls

module _ (c : Counts) (w : List ℕ) (r : List Float) (ti : List ℕ) (tc : List Float) where
  -- the network as the manual's program sees it; the program that is solved fixes no bus
  abbrev pub site : Site
  site = record {
    counts = c;
    wiring = w;
    indexes = ti;
    coefficients = tc;
    shapes = λ q. shape_of (row_limits c w r q);
    fixed = λ i. false;
  }

  -- a limit that an element's flag, or its cap, makes active
  abbrev pub active : (ℕ → Bool) → (ℕ → Constraint) → OpfRow → ℕ → List Rowed
  active on x a i = as_row (x i) (on i) a (active_rank on i) ∷ []

  abbrev pub always : (ℕ → Constraint) → OpfRow → ℕ → List Rowed
  always x a i = as_row (x i) true a i ∷ []

  abbrev pub linear_rowed : Shape → ℕ → ℕ → List Rowed
  linear_rowed free q x = []
  linear_rowed upper_only q x = as_row (row_ceiling site q x) true LinearLimit (inequality_rank c w r q) ∷ []
  linear_rowed lower_only q x = as_row (row_floor site q x) true LinearLimit (inequality_rank c w r q) ∷ []
  linear_rowed two_sided q x =
      as_row (row_ceiling site q x) true LinearLimit (inequality_rank c w r q)
      ∷ as_row (row_floor site q (x + 1)) true LinearLimit (inequality_rank c w r q + 1)
      ∷ []
  linear_rowed equality q x = as_row (row_level site q x) true LinearEqual (equality_rank c w r q) ∷ []

  -- the manual's loops in its order: the first, and those after it
  abbrev pub balances : List Rowed
  balances = each c.buses (always (balance site) Balance)

  abbrev pub loops : List (List Rowed)
  loops =
      each c.branches (always (flow_law site) FlowRow)
      ∷ each c.references (always (reference site) Reference)
      ∷ each c.branches (active (flagged c w ThermalFlags) (flow_floor site) LineLb)
      ∷ each c.branches (active (flagged c w ThermalFlags) (flow_ceiling site) LineUb)
      ∷ each c.generators (active (flagged c w GeneratorFlags) (generator_floor site) GenLb)
      ∷ each c.generators (active (flagged c w GeneratorFlags) (generator_ceiling site) GenUb)
      ∷ each c.buses (active (sheds c w r) (shed_floor site) ShedLb)
      ∷ each c.buses (active (sheds c w r) (shed_ceiling site) ShedUb)
      ∷ each c.branches (active (flagged c w AngleFlags) (angle_floor site) PhaseLb)
      ∷ each c.branches (active (flagged c w AngleFlags) (angle_ceiling site) PhaseUb)
      ∷ each c.generators (λ j. each (segments_at c w j) (λ t. as_row (segment site j t) true Segment (segment_start c w j + t) ∷ []))
      ∷ each c.rows (λ q. linear_rowed (shape_of (row_limits c w r q)) q (row_start site q))
      ∷ []

  unfoldable pub rowed : List Rowed
  rowed = joined balances loops
