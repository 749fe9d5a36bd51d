-- What `read_dc_solution` must give by Boyd and Vandenberghe's (5.49): with the rows above, the solver's Px + q + A'z = 0 is ∇f0 + Σ λ ∇f + Σ ν ∇h = 0 where λ and ν are z's words, so each unknown holds z's word at its constraint's row, turned where the convention turns it.
-- Main definitions: `kept`, `multiplier`, `MultipliersAre`. Assumes nothing.
use Rattle.std.specs.Prelude.{ℕ, ◌+◌, ◌<◌, ◌≡◌, true, false, cond, List, Float}
use Rattle.std.specs.Float.{binary64}
use Rattle.std.specs.Float.Ieee.{neg, sub}
use Rattle.float64.specs.Values.{nought}
use Rattle.network.specs.declared.Counts.{Counts}
use Rattle.network.specs.declared.Part.TheVariants.{GeneratorFlags, ThermalFlags, AngleFlags}
use Rattle.network.specs.declared.Field.TheVariants.{CShed}
use Rattle.network.specs.Layout.{reading, segments_at, segment_start}
use Rattle.model.specs.Rows.{row_limits}
use Rattle.solution.specs.declared.Entry.{Entry}
use Rattle.solution.specs.declared.Entry.TheVariants.{NuBal, LamUb, LamLb, RhoUb, RhoLb, MuUb, MuLb, GammaUb, GammaLb, SegmentDual, LinearDual}
use Rattle.solution.specs.Sheet.{pieces, solved}
use Rattle.kkt_index.specs.Index.{Shape, shape_of}
use Rattle.kkt_index.specs.Index.Shape.{free, upper_only, lower_only, two_sided, equality}
use Rattle.opf_layout.specs.declared.OpfRow.TheVariants.{Balance, LineUb, LineLb, GenUb, GenLb, ShedUb, ShedLb, PhaseUb, PhaseLb, Segment, LinearEqual, LinearLimit}
use Rattle.opf_layout.specs.Layout.{active_rank, flagged, sheds, equality_rank, inequality_rank}
use Rattle.opf_readback.specs.Readback.{dual, read_sheet}
use Rattle.books.specs.Forms.{Alike}
use Rattle.books.specs.Convex.{Kind}
use Rattle.books.specs.Convex.Kind.{at_most, equal, vacant}
use Rattle.books.specs.Convex.Convention.{straight, turned}
use Rattle.books.specs.Manual.{balance, flow_floor, flow_ceiling, generator_floor, generator_ceiling, shed_floor, shed_ceiling, angle_floor, angle_ceiling, segment, row_ceiling, row_floor, row_level}
use Rattle.books_program.specs.Rows.{Rowed, as_row, site}

-- what the vector of unknowns holds for λ or ν
abbrev pub kept : Kind → Float → Float
kept (at_most s) z = z
kept (equal straight) z = z
kept (equal turned) z = neg z
kept vacant z = nought

module _ (c : Counts) (w : List ℕ) (r : List Float) (ti : List ℕ) (tc : List Float) (x z : List Float) (raw : Float) where
  -- a word of the sheet that is read back
  abbrev pub read : Entry → ℕ → Float
  read e i = solved c (pieces c w) (read_sheet c w r ti tc x z raw) e i

  -- of a constraint with a row; a limit without one has none to bind, and its multiplier is 0
  abbrev pub multiplier : Rowed → Float
  multiplier y = cond y.present (kept y.constraint.kind (dual c w r ti tc x z raw y.row y.at)) nought

  -- upper less lower, or the equality's
  abbrev pub signed_row : Shape → ℕ → Float
  signed_row free q = nought
  signed_row upper_only q = kept (row_ceiling (site c w r ti tc) q 0).kind (dual c w r ti tc x z raw LinearLimit (inequality_rank c w r q))
  signed_row lower_only q = neg (kept (row_floor (site c w r ti tc) q 0).kind (dual c w r ti tc x z raw LinearLimit (inequality_rank c w r q)))
  signed_row two_sided q =
      sub binary64 (kept (row_ceiling (site c w r ti tc) q 0).kind (dual c w r ti tc x z raw LinearLimit (inequality_rank c w r q)))
      (kept (row_floor (site c w r ti tc) q 0).kind (dual c w r ti tc x z raw LinearLimit (inequality_rank c w r q + 1)))
  signed_row equality q = kept (row_level (site c w r ti tc) q 0).kind (dual c w r ti tc x z raw LinearEqual (equality_rank c w r q))

  pub record MultipliersAre : Type 0 where
    pub balances : (i : ℕ) → i < c.buses → read NuBal i ≡ multiplier (as_row (balance (site c w r ti tc) i) true Balance i)
    pub ceilings : (e : ℕ) → e < c.branches
        → read LamUb e ≡ multiplier (as_row (flow_ceiling (site c w r ti tc) e) (flagged c w ThermalFlags e) LineUb (active_rank (flagged c w ThermalFlags) e))
    pub floors : (e : ℕ) → e < c.branches
        → read LamLb e ≡ multiplier (as_row (flow_floor (site c w r ti tc) e) (flagged c w ThermalFlags e) LineLb (active_rank (flagged c w ThermalFlags) e))
    pub most_power : (j : ℕ) → j < c.generators
        → read RhoUb j ≡ multiplier (as_row (generator_ceiling (site c w r ti tc) j) (flagged c w GeneratorFlags j) GenUb (active_rank (flagged c w GeneratorFlags) j))
    pub least_power : (j : ℕ) → j < c.generators
        → read RhoLb j ≡ multiplier (as_row (generator_floor (site c w r ti tc) j) (flagged c w GeneratorFlags j) GenLb (active_rank (flagged c w GeneratorFlags) j))
    pub most_shed : (i : ℕ) → i < c.buses
        → read MuUb i ≡ multiplier (as_row (shed_ceiling (site c w r ti tc) i) (sheds c w r i) ShedUb (active_rank (sheds c w r) i))
    pub least_shed : (i : ℕ) → i < c.buses → sheds c w r i ≡ true
        → read MuLb i ≡ multiplier (as_row (shed_floor (site c w r ti tc) i) (sheds c w r i) ShedLb (active_rank (sheds c w r) i))
    -- shed demand without a column is 0, and r_dual's row of it, c_shed − ν_bal + μ_ub − μ_lb = 0 with μ_ub at 0, gives its floor's multiplier
    pub no_shed : (i : ℕ) → i < c.buses → sheds c w r i ≡ false → read MuLb i ≡ sub binary64 (reading c r CShed i) (read NuBal i)
    pub most_angle : (e : ℕ) → e < c.branches
        → read GammaUb e ≡ multiplier (as_row (angle_ceiling (site c w r ti tc) e) (flagged c w AngleFlags e) PhaseUb (active_rank (flagged c w AngleFlags) e))
    pub least_angle : (e : ℕ) → e < c.branches
        → read GammaLb e ≡ multiplier (as_row (angle_floor (site c w r ti tc) e) (flagged c w AngleFlags e) PhaseLb (active_rank (flagged c w AngleFlags) e))
    pub segments : (j t : ℕ) → j < c.generators → t < segments_at c w j
        → read SegmentDual (segment_start c w j + t) ≡ multiplier (as_row (segment (site c w r ti tc) j t) true Segment (segment_start c w j + t))
    pub linear : (q : ℕ) → q < c.rows → Alike (read LinearDual q) (signed_row (shape_of (row_limits c w r q)) q)
