-- The words of b, row by row: each is its constraint's right side.
-- Main results: one for each family of constraints. Assumes nothing.
use mathlib.Core.Path.{◌≡◌, refl, sym, ap, ◌∙◌, subst}
use mathlib.Core.Bool.{Bool, true, false, cond}
use mathlib.Core.List.{List}
use Prim.Native.Nat.{ℕ, ◌+◌, ◌<◌}
use native.Mathlib.Omega.{arith}
use lib.ListN.{get_or}
use lib.Dec.{eqb}
use lib.Ieee.{Float, nan, eq, neg}
use Rattle.sequence.proofs.Lists.{each_at, map_at}
use Rattle.network.specs.declared.Counts.{Counts}
use Rattle.network.specs.declared.Field.TheVariants.{BaseMva, UpperMw, LowerMw}
use Rattle.network.specs.declared.Part.TheVariants.{GeneratorFlags, ThermalFlags, AngleFlags, Masks}
use Rattle.network.specs.Layout.{allow_shed, wire, place, reading, segment_start}
use Rattle.model.specs.declared.RowLimits.{RowLimits}
use Rattle.model.specs.declared.RowLimits.TheVariants.{None, Upper, Lower, Both, Equal}
use Rattle.model.specs.Rows.{both_of, masked_limits, row_limits}
use Rattle.model.specs.Quantities.{flow_offset, fixed_at}
use Rattle.snapping.specs.Expr.{unit, less_unit}
use Rattle.opf_layout.specs.declared.OpfRow.{OpfRow}
use Rattle.opf_layout.specs.declared.OpfRow.TheVariants.{Balance, FlowRow, Reference, LineUb, LineLb, GenUb, GenLb, ShedUb, ShedLb, PhaseUb, PhaseLb, Segment, LinearEqual, LinearLimit}
use Rattle.opf_layout.specs.Layout.{flagged, sheds, active_rank, equalities, inequalities, equality_rank, inequality_rank, active_of, rows, row_rank, row_size, row_sizes, row_start}
use Rattle.opf_layout.proofs.Ranks.{rank_below, equality_below, inequality_below}
use Rattle.opf_layout.proofs.Blocks.{row_of_rank, row_rank_below}
use Rattle.opf_assembly.specs.Assembly.{per_unit, equal_side, limit_sides, right_sides, row_words, b_sheet}
use Rattle.opf_assembly.proofs.Lengths.{equal_long, limit_long, row_long}
use Rattle.books.specs.Forms.{Form}
use Rattle.books.specs.Manual.{Site, balance, flow_law, reference, flow_floor, flow_ceiling, generator_floor, generator_ceiling, shed_floor, shed_ceiling, angle_floor, angle_ceiling, segment, row_ceiling, row_floor, row_level, upper, lower}
use Rattle.books.specs.Matrix.{Doubles}
use Rattle.books_program.specs.Rows.{site}
use Rattle.books_program.specs.Program.{constant}
use Rattle.books.proofs.Model.{fixed_is}
use Rattle.books.proofs.Doubles.{one_by, less_by, div_neg}
use Rattle.books_program.proofs.Runs.{block_at, one_at, rank_at}

-- ---- the limits of a linear row are its readings

abbrev Limits : RowLimits → Float → Float → Type 0
Limits None u l = Unit {0}
Limits (Upper x) u l = x ≡ u
Limits (Lower y) u l = y ≡ l
Limits (Both x y) u l = (x ≡ u) × (y ≡ l)
Limits (Equal y) u l = y ≡ l

limits_of : (mask : ℕ) (u l : Float) → Limits (masked_limits mask u l) u l
limits_of mask u l = go (eqb mask 1) (eqb mask 2) (eqb mask 3) (eq l u)
  where
    go : (a b d e : Bool) → Limits (cond a (Upper u) (cond b (Lower l) (cond d (both_of e u l) None))) u l
    go true b d e = refl
    go false true d e = refl
    go false false true true = refl
    go false false true false = (refl, refl)
    go false false false e = tt

module _ (c : Counts) (w : List ℕ) (r : List Float) (ti : List ℕ) (tc : List Float) where
  abbrev own : Site
  own = site c w r ti tc

  abbrev worth : Form → Float
  worth x = constant c w r ti tc x

  -- word i of block a
  abbrev side : OpfRow → ℕ → Float
  side a i = get_or (b_sheet c w r) (row_start c (active_of c w r) a + i) nan

  row_word : (a : OpfRow) (i : ℕ) → i < row_size c (active_of c w r) a → side a i ≡ get_or (row_words c w r a) i nan
  unfolding b_sheet row_start
  row_word a i l =
      block_at (λ k. row_words c w r (get_or rows k Balance)) (row_sizes c (active_of c w r)) 14
      (λ k h. row_long c w r (get_or rows k Balance) ∙ sym (map_at (row_size c (active_of c w r)) rows k Balance h))
      (row_rank a) i nan (row_rank_below a) (rw (map_at (row_size c (active_of c w r)) rows (row_rank a) Balance (row_rank_below a), row_of_rank a) l)
      ∙ ap (λ (b : OpfRow). get_or (row_words c w r b) i nan) (row_of_rank a)

  -- ---- balance

  pub balance_side : (i : ℕ) → i < c.buses → side Balance i ≡ worth (balance own i).right
  balance_side i l = row_word Balance i l ∙ one_at (fixed_at c w r) c.buses i nan l ∙ fixed_is own r (λ p. nan) i

  pub flow_side : (e : ℕ) → e < c.branches → side FlowRow e ≡ worth (flow_law own e).right
  unfolding flow_offset
  flow_side e l = row_word FlowRow e l ∙ one_at (flow_offset c r) c.branches e nan l

  pub reference_side : (k : ℕ) → k < c.references → side Reference k ≡ worth (reference own k).right
  reference_side k l = row_word Reference k l ∙ one_at _ c.references k nan l

  -- ---- limits that are active

  pub flow_ceiling_side : (e : ℕ) → e < c.branches → flagged c w ThermalFlags e ≡ true → side LineUb (active_rank (flagged c w ThermalFlags) e) ≡ worth (flow_ceiling own e).right
  unfolding active_of
  flow_ceiling_side e l h = row_word LineUb _ (rank_below (flagged c w ThermalFlags) e c.branches h l) ∙ rank_at (flagged c w ThermalFlags) _ c.branches e nan l h

  pub flow_floor_side : (e : ℕ) → e < c.branches → flagged c w ThermalFlags e ≡ true → side LineLb (active_rank (flagged c w ThermalFlags) e) ≡ worth (flow_floor own e).right
  unfolding active_of
  flow_floor_side e l h = row_word LineLb _ (rank_below (flagged c w ThermalFlags) e c.branches h l) ∙ rank_at (flagged c w ThermalFlags) _ c.branches e nan l h

  pub generator_ceiling_side : (j : ℕ) → j < c.generators → flagged c w GeneratorFlags j ≡ true → side GenUb (active_rank (flagged c w GeneratorFlags) j) ≡ worth (generator_ceiling own j).right
  unfolding active_of
  generator_ceiling_side j l h = row_word GenUb _ (rank_below (flagged c w GeneratorFlags) j c.generators h l) ∙ rank_at (flagged c w GeneratorFlags) _ c.generators j nan l h

  pub generator_floor_side : (j : ℕ) → j < c.generators → flagged c w GeneratorFlags j ≡ true → side GenLb (active_rank (flagged c w GeneratorFlags) j) ≡ worth (generator_floor own j).right
  unfolding active_of
  generator_floor_side j l h = row_word GenLb _ (rank_below (flagged c w GeneratorFlags) j c.generators h l) ∙ rank_at (flagged c w GeneratorFlags) _ c.generators j nan l h

  cap_is : (b : Bool) (x y : Form) → cond b (worth x) (worth y) ≡ worth (cond b x y)
  cap_is true x y = refl
  cap_is false x y = refl

  pub shed_ceiling_side : (i : ℕ) → i < c.buses → sheds c w r i ≡ true → side ShedUb (active_rank (sheds c w r) i) ≡ worth (shed_ceiling own i).right
  unfolding active_of
  shed_ceiling_side i l h =
      row_word ShedUb _ (rank_below (sheds c w r) i c.buses h l) ∙ rank_at (sheds c w r) _ c.buses i nan l h ∙ cap_is (eqb (allow_shed w) 1) _ _

  pub shed_floor_side : (i : ℕ) → i < c.buses → sheds c w r i ≡ true → side ShedLb (active_rank (sheds c w r) i) ≡ worth (shed_floor own i).right
  unfolding active_of
  shed_floor_side i l h = row_word ShedLb _ (rank_below (sheds c w r) i c.buses h l) ∙ rank_at (sheds c w r) _ c.buses i nan l h

  pub angle_ceiling_side : (e : ℕ) → e < c.branches → flagged c w AngleFlags e ≡ true → side PhaseUb (active_rank (flagged c w AngleFlags) e) ≡ worth (angle_ceiling own e).right
  unfolding active_of
  angle_ceiling_side e l h = row_word PhaseUb _ (rank_below (flagged c w AngleFlags) e c.branches h l) ∙ rank_at (flagged c w AngleFlags) _ c.branches e nan l h

  pub angle_floor_side : (e : ℕ) → e < c.branches → flagged c w AngleFlags e ≡ true → side PhaseLb (active_rank (flagged c w AngleFlags) e) ≡ worth (angle_floor own e).right
  unfolding active_of
  angle_floor_side e l h = row_word PhaseLb _ (rank_below (flagged c w AngleFlags) e c.branches h l) ∙ rank_at (flagged c w AngleFlags) _ c.branches e nan l h

  -- ---- segments and linear rows

  pub segment_side : (j t x : ℕ) → x < c.segments → x ≡ segment_start c w j + t → side Segment x ≡ worth (segment own j t).right
  segment_side j t x l e = row_word Segment x l ∙ one_at _ c.segments x nan l ∙ rw e

  module _ (d : Doubles r) (q : ℕ) (l : q < c.rows) where
    limits_are : (k : RowLimits) → row_limits c w r q ≡ k → Limits k (reading c r UpperMw q) (reading c r LowerMw q)
    unfolding row_limits
    limits_are k e = subst (λ (k : RowLimits). Limits k (reading c r UpperMw q) (reading c r LowerMw q)) e (limits_of (wire c w Masks q) (reading c r UpperMw q) (reading c r LowerMw q))

    upper_is : per_unit c r unit (reading c r UpperMw q) ≡ worth (upper own q)
    unfolding reading
    upper_is = rw (one_by (reading c r UpperMw q) (d (place c UpperMw q)))

    lower_is : per_unit c r unit (reading c r LowerMw q) ≡ worth (lower own q)
    unfolding reading
    lower_is = rw (one_by (reading c r LowerMw q) (d (place c LowerMw q)))

    less_is : per_unit c r less_unit (reading c r LowerMw q) ≡ neg (worth (lower own q))
    unfolding reading
    less_is = rw (less_by (reading c r LowerMw q) (d (place c LowerMw q))) (div_neg (reading c r LowerMw q) (reading c r BaseMva 0))

    equal_word : (k : RowLimits) → row_limits c w r q ≡ k → 0 < equalities k → side LinearEqual (equality_rank c w r q) ≡ get_or (equal_side c r k) 0 nan
    unfolding active_of equality_rank
    equal_word k e m =
        row_word LinearEqual _ (omega (arith, equality_below c w r q c.rows 0 l (rw e m)))
        ∙ ap (λ (x : ℕ). get_or (row_words c w r LinearEqual) x nan) (omega arith)
        ∙ each_at (right_sides c w r LinearEqual) (λ q. equalities (row_limits c w r q)) c.rows (λ q h. equal_long c w r (row_limits c w r q)) q 0 nan l (rw e m)
        ∙ rw e

    limit_word : (k : RowLimits) → row_limits c w r q ≡ k → (t : ℕ) → t < inequalities k → side LinearLimit (inequality_rank c w r q + t) ≡ get_or (limit_sides c r k) t nan
    unfolding active_of inequality_rank
    limit_word k e t m =
        row_word LinearLimit _ (inequality_below c w r q c.rows t l (rw e m))
        ∙ each_at (right_sides c w r LinearLimit) (λ q. inequalities (row_limits c w r q)) c.rows (λ q h. limit_long c w r (row_limits c w r q)) q t nan l (rw e m)
        ∙ rw e

    pub level_side : (y : Float) (x : ℕ) → row_limits c w r q ≡ Equal y → side LinearEqual (equality_rank c w r q) ≡ worth (row_level own q x).right
    level_side y x e = equal_word (Equal y) e (omega arith) ∙ rw (limits_are (Equal y) e) lower_is

    first_limit : (k : RowLimits) → row_limits c w r q ≡ k → 0 < inequalities k → side LinearLimit (inequality_rank c w r q) ≡ get_or (limit_sides c r k) 0 nan
    first_limit k e m = ap (λ (i : ℕ). side LinearLimit i) (omega arith) ∙ limit_word k e 0 m

    pub upper_side : (y : Float) (x : ℕ) → row_limits c w r q ≡ Upper y → side LinearLimit (inequality_rank c w r q) ≡ worth (row_ceiling own q x).right
    upper_side y x e = first_limit (Upper y) e (omega arith) ∙ rw (limits_are (Upper y) e) upper_is

    pub lower_side : (y : Float) (x : ℕ) → row_limits c w r q ≡ Lower y → side LinearLimit (inequality_rank c w r q) ≡ worth (row_floor own q x).right
    lower_side y x e = first_limit (Lower y) e (omega arith) ∙ rw (limits_are (Lower y) e) less_is

    pub both_upper_side : (y l : Float) (x : ℕ) → row_limits c w r q ≡ Both y l → side LinearLimit (inequality_rank c w r q) ≡ worth (row_ceiling own q x).right
    both_upper_side y l x e = first_limit (Both y l) e (omega arith) ∙ rw (limits_are (Both y l) e).0 upper_is

    pub both_lower_side : (y l : Float) (x : ℕ) → row_limits c w r q ≡ Both y l → side LinearLimit (inequality_rank c w r q + 1) ≡ worth (row_floor own q x).right
    both_lower_side y l x e = limit_word (Both y l) e 1 (omega arith) ∙ rw (limits_are (Both y l) e).1 less_is
