-- The entries of A in each row of the program but the balance rows, in the order in which they are written.
-- Main results: one for each block of rows. Assumes nothing.
use mathlib.Core.Path.{◌≡◌, refl, ap, ap₂, ◌∙◌}
use mathlib.Core.Bool.{Bool, true, false, ◌&&◌}
use mathlib.Core.List.{List, [], ◌∷◌, ◌++◌, append-nil}
use Prim.Native.Nat.{ℕ, ◌+◌, ◌<◌}
use native.Mathlib.Omega.{arith}
use lib.Dec.{eqb}
use lib.ListN.{get_or}
use lib.Ieee.{Float, nan}
use borrow.Author.Tests.{eq-eqb, ne_eqb}
use Rattle.sequence.specs.Lists.{each, when}
use Rattle.sequence.proofs.Lists.{each_same, before_apart}
use Rattle.network.specs.declared.Counts.{Counts}
use Rattle.network.specs.declared.Part.TheVariants.{References, GeneratorFlags, ThermalFlags, AngleFlags, FlowTerms, GenerationTerms}
use Rattle.network.specs.declared.Field.TheVariants.{Sw, Slopes}
use Rattle.network.specs.Layout.{wire, segments_at, segment_start, term_start}
use Rattle.model.specs.declared.RowLimits.{RowLimits}
use Rattle.model.specs.declared.RowLimits.TheVariants.{None, Upper, Lower, Both, Equal}
use Rattle.model.specs.Rows.{row_limits}
use Rattle.solution.specs.Sheet.{piece_rank}
use Rattle.snapping.specs.Expr.{Expr, unit, less_unit}
use Rattle.snapping.specs.Expr.Expr.{num, rd, minus, ◌⊗◌}
use Rattle.kkt.specs.Slots.{weight_of}
use Rattle.opf_layout.specs.declared.OpfColumn.{OpfColumn}
use Rattle.opf_layout.specs.declared.OpfColumn.TheVariants.{Va, Pg, Flow, Shed, Cost}
use Rattle.opf_layout.specs.declared.OpfRow.{OpfRow}
use Rattle.opf_layout.specs.declared.OpfRow.TheVariants.{FlowRow, Reference, LineUb, LineLb, GenUb, GenLb, ShedUb, ShedLb, PhaseUb, PhaseLb, Segment, LinearEqual, LinearLimit}
use Rattle.opf_layout.specs.Layout.{active_rank, flagged, sheds, equalities, inequalities, equality_rank, inequality_rank, row_rank}
use Rattle.opf_layout.proofs.Ranks.{rank_apart, equality_apart, inequality_apart}
use Rattle.opf_assembly.specs.Assembly.{Coefficient, from, to, line, phase, capability, shed, two_sides, branch_entries, phase_entries, reference_entry, capability_entries, shed_bounds, segment_entries, written_row, linear_entries, a_entries}
use Rattle.books_program.proofs.Entries.{Term, entry_in_row, row_append, row_each, row_when}
use Rattle.books_program.proofs.Terms.{each_none, each_point}
use Rattle.books_program.proofs.Groups.{in_group}

-- ---- tests

pub itself : {A : Type 0} (i : ℕ) (l : List A) → when (eqb i i) l ≡ l
unfolding when
itself i l = rw (eq-eqb i i refl)

pub other : {A : Type 0} (i j : ℕ) (l : List A) → (i ≡ j → ⊥) → when (eqb i j) l ≡ []
unfolding when
other i j l d = rw (ne_eqb i j d)

pub nothing : {A : Type 0} (b : Bool) → ◌≡◌ {A = List A} (when b []) []
unfolding when
nothing true = refl
nothing false = refl

module _ {A : Type 0} where
  pub one_when : (b : Bool) (x : A) → when b (x ∷ []) ++ [] ≡ when b (x ∷ [])
  one_when b x = append-nil (when b (x ∷ []))

  pub two_when : (b : Bool) (x y : A) → when b (x ∷ []) ++ (when b (y ∷ []) ++ []) ≡ when b (x ∷ y ∷ [])
  unfolding when
  two_when true x y = refl
  two_when false x y = refl

  three_when : (b : Bool) (x y z : A) (m : List A) → m ≡ [] → when b (x ∷ []) ++ (when b (y ∷ []) ++ (when b (z ∷ []) ++ m)) ≡ when b (x ∷ y ∷ z ∷ [])
  unfolding when
  three_when true x y z m e = rw e
  three_when false x y z m e = e

  each_when : (b : Bool) (n : ℕ) (f : ℕ → List A) → each n (λ t. when b (f t)) ≡ when b (each n f)
  unfolding when
  each_when true n f = refl
  each_when false n f = each_none n (λ t. []) (λ t l. refl)

  append_when : (b : Bool) (l m : List A) → when b l ++ when b m ≡ when b (l ++ m)
  unfolding when
  append_when true l m = refl
  append_when false l m = refl

  -- the turn at an index, and the turn of an active one at its rank
  at_index : (n e : ℕ) (f : ℕ → List A) → e < n → each n (λ t. when (eqb t e) (f t)) ≡ f e
  at_index n e f l = each_point n e _ l (λ t m d. other t e (f t) d) ∙ itself e (f e)

  at_rank : (on : ℕ → Bool) (n e : ℕ) (f : ℕ → List A) → e < n → on e ≡ true → each n (λ t. when (on t) (when (eqb (active_rank on t) (active_rank on e)) (f t))) ≡ f e
  unfolding when
  at_rank on n e f l h = each_point n e _ l (λ t m d. go t d (on t) refl) ∙ rw h (itself (active_rank on e) (f e))
    where
      go : (t : ℕ) → (t ≡ e → ⊥) → (b : Bool) → on t ≡ b → when b (when (eqb (active_rank on t) (active_rank on e)) (f t)) ≡ []
      go t d true k = other (active_rank on t) (active_rank on e) (f t) (λ q. d (rank_apart on t e k h q))
      go t d false k = refl

none_below_one : 0 < 1
none_below_one = omega arith

none_below_two : 0 < 2
none_below_two = omega arith

one_below_two : 1 < 2
one_below_two = omega arith

-- ---- the loops

module _ (c : Counts) (w : List ℕ) (r : List Float) (ti : List ℕ) (tc : List Float) where
  abbrev all : List Coefficient
  all = a_entries c w r ti tc

  -- a branch's limits
  limits : (a : OpfRow) (i e : ℕ)
      → entry_in_row a i (when (flagged c w ThermalFlags e) (two_sides LineUb LineLb (line c w r e) Flow e) ++ when (flagged c w AngleFlags e) (phase_entries c w r e))
      ≡ when (flagged c w ThermalFlags e) (entry_in_row a i (two_sides LineUb LineLb (line c w r e) Flow e)) ++ when (flagged c w AngleFlags e) (entry_in_row a i (phase_entries c w r e))
  limits a i e = row_append a i (when (flagged c w ThermalFlags e) _) _ ∙ ap₂ ◌++◌ (row_when a i (flagged c w ThermalFlags e) _) (row_when a i (flagged c w AngleFlags e) _)

  -- neither in this row
  pub no_limits : (a : OpfRow) (i e : ℕ) → entry_in_row a i (two_sides LineUb LineLb (line c w r e) Flow e) ≡ [] → entry_in_row a i (phase_entries c w r e) ≡ []
      → entry_in_row a i (when (flagged c w ThermalFlags e) (two_sides LineUb LineLb (line c w r e) Flow e) ++ when (flagged c w AngleFlags e) (phase_entries c w r e)) ≡ []
  no_limits a i e p q = limits a i e ∙ rw (p, q) (ap₂ ◌++◌ (nothing (flagged c w ThermalFlags e)) (nothing (flagged c w AngleFlags e)))

  -- the thermal ones only, and the angle's only
  thermal : (a : OpfRow) (i e : ℕ) (l : List Term) → entry_in_row a i (two_sides LineUb LineLb (line c w r e) Flow e) ≡ l → entry_in_row a i (phase_entries c w r e) ≡ []
      → entry_in_row a i (when (flagged c w ThermalFlags e) (two_sides LineUb LineLb (line c w r e) Flow e) ++ when (flagged c w AngleFlags e) (phase_entries c w r e)) ≡ when (flagged c w ThermalFlags e) l
  thermal a i e l p q = limits a i e ∙ rw (p, q, nothing {A = Term} (flagged c w AngleFlags e)) (append-nil _)

  angular : (a : OpfRow) (i e : ℕ) (l : List Term) → entry_in_row a i (two_sides LineUb LineLb (line c w r e) Flow e) ≡ [] → entry_in_row a i (phase_entries c w r e) ≡ l
      → entry_in_row a i (when (flagged c w ThermalFlags e) (two_sides LineUb LineLb (line c w r e) Flow e) ++ when (flagged c w AngleFlags e) (phase_entries c w r e)) ≡ when (flagged c w AngleFlags e) l
  angular a i e l p q = limits a i e ∙ rw (p, q, nothing {A = Term} (flagged c w ThermalFlags e))

  -- ---- flows, references

  flow_turn : (i e : ℕ) → entry_in_row FlowRow i (branch_entries c w r e) ≡ when (eqb e i) ((Flow, e, unit) ∷ (Va, from c w r e, minus (weight_of e)) ∷ (Va, to c w r e, weight_of e) ∷ [])
  unfolding entry_in_row when
  flow_turn i e = three_when (eqb e i) _ _ _ _ (no_limits FlowRow i e refl refl)

  pub flow_row_lem : (e : ℕ) → e < c.branches → entry_in_row FlowRow e all ≡ (Flow, e, unit) ∷ (Va, from c w r e, minus (weight_of e)) ∷ (Va, to c w r e, weight_of e) ∷ []
  flow_row_lem e l =
      in_group c w r ti tc FlowRow e _ c.branches (branch_entries c w r) refl
      ∙ each_same c.branches _ _ (λ t m. flow_turn e t)
      ∙ at_index c.branches e _ l

  reference_turn : (i k : ℕ) → entry_in_row Reference i (reference_entry c w r k) ≡ when (eqb k i) ((Va, wire c w References k, unit) ∷ [])
  unfolding entry_in_row
  reference_turn i k = one_when (eqb k i) _

  pub reference_row_lem : (k : ℕ) → k < c.references → entry_in_row Reference k all ≡ (Va, wire c w References k, unit) ∷ []
  reference_row_lem k l =
      in_group c w r ti tc Reference k _ c.references (reference_entry c w r) refl
      ∙ each_same c.references _ _ (λ t m. reference_turn k t)
      ∙ at_index c.references k _ l

  -- ---- limits

  line_ub_turn : (i e : ℕ) → entry_in_row LineUb i (branch_entries c w r e) ≡ when (flagged c w ThermalFlags e) (when (eqb (line c w r e) i) ((Flow, e, unit) ∷ []))
  unfolding entry_in_row when
  line_ub_turn i e = thermal LineUb i e _ (one_when (eqb (line c w r e) i) _) refl

  line_lb_turn : (i e : ℕ) → entry_in_row LineLb i (branch_entries c w r e) ≡ when (flagged c w ThermalFlags e) (when (eqb (line c w r e) i) ((Flow, e, less_unit) ∷ []))
  unfolding entry_in_row when
  line_lb_turn i e = thermal LineLb i e _ (one_when (eqb (line c w r e) i) _) refl

  phase_ub_turn : (i e : ℕ) → entry_in_row PhaseUb i (branch_entries c w r e)
      ≡ when (flagged c w AngleFlags e) (when (eqb (phase c w r e) i) ((Va, from c w r e, rd Sw e) ∷ (Va, to c w r e, minus (rd Sw e)) ∷ []))
  unfolding entry_in_row when
  phase_ub_turn i e = angular PhaseUb i e _ refl (two_when (eqb (phase c w r e) i) _ _)

  phase_lb_turn : (i e : ℕ) → entry_in_row PhaseLb i (branch_entries c w r e)
      ≡ when (flagged c w AngleFlags e) (when (eqb (phase c w r e) i) ((Va, from c w r e, minus (rd Sw e)) ∷ (Va, to c w r e, rd Sw e) ∷ []))
  unfolding entry_in_row when
  phase_lb_turn i e = angular PhaseLb i e _ refl (two_when (eqb (phase c w r e) i) _ _)

  module _ (e : ℕ) (l : e < c.branches) where
    pub line_ub_row : flagged c w ThermalFlags e ≡ true → entry_in_row LineUb (line c w r e) all ≡ (Flow, e, unit) ∷ []
    line_ub_row h =
        in_group c w r ti tc LineUb _ _ c.branches (branch_entries c w r) refl
        ∙ each_same c.branches _ _ (λ t m. line_ub_turn (line c w r e) t)
        ∙ at_rank (flagged c w ThermalFlags) c.branches e _ l h

    pub line_lb_row : flagged c w ThermalFlags e ≡ true → entry_in_row LineLb (line c w r e) all ≡ (Flow, e, less_unit) ∷ []
    line_lb_row h =
        in_group c w r ti tc LineLb _ _ c.branches (branch_entries c w r) refl
        ∙ each_same c.branches _ _ (λ t m. line_lb_turn (line c w r e) t)
        ∙ at_rank (flagged c w ThermalFlags) c.branches e _ l h

    pub phase_ub_row : flagged c w AngleFlags e ≡ true → entry_in_row PhaseUb (phase c w r e) all ≡ (Va, from c w r e, rd Sw e) ∷ (Va, to c w r e, minus (rd Sw e)) ∷ []
    phase_ub_row h =
        in_group c w r ti tc PhaseUb _ _ c.branches (branch_entries c w r) refl
        ∙ each_same c.branches _ _ (λ t m. phase_ub_turn (phase c w r e) t)
        ∙ at_rank (flagged c w AngleFlags) c.branches e _ l h

    pub phase_lb_row : flagged c w AngleFlags e ≡ true → entry_in_row PhaseLb (phase c w r e) all ≡ (Va, from c w r e, minus (rd Sw e)) ∷ (Va, to c w r e, rd Sw e) ∷ []
    phase_lb_row h =
        in_group c w r ti tc PhaseLb _ _ c.branches (branch_entries c w r) refl
        ∙ each_same c.branches _ _ (λ t m. phase_lb_turn (phase c w r e) t)
        ∙ at_rank (flagged c w AngleFlags) c.branches e _ l h

  gen_ub_turn : (i j : ℕ) → entry_in_row GenUb i (capability_entries c w r j) ≡ when (flagged c w GeneratorFlags j) (when (eqb (capability c w r j) i) ((Pg, j, unit) ∷ []))
  unfolding entry_in_row when
  gen_ub_turn i j = row_when GenUb i (flagged c w GeneratorFlags j) _ ∙ ap (when (flagged c w GeneratorFlags j)) (one_when (eqb (capability c w r j) i) _)

  gen_lb_turn : (i j : ℕ) → entry_in_row GenLb i (capability_entries c w r j) ≡ when (flagged c w GeneratorFlags j) (when (eqb (capability c w r j) i) ((Pg, j, less_unit) ∷ []))
  unfolding entry_in_row when
  gen_lb_turn i j = row_when GenLb i (flagged c w GeneratorFlags j) _ ∙ ap (when (flagged c w GeneratorFlags j)) (one_when (eqb (capability c w r j) i) _)

  module _ (j : ℕ) (l : j < c.generators) (h : flagged c w GeneratorFlags j ≡ true) where
    pub gen_ub_row : entry_in_row GenUb (capability c w r j) all ≡ (Pg, j, unit) ∷ []
    gen_ub_row =
        in_group c w r ti tc GenUb _ _ c.generators (capability_entries c w r) refl
        ∙ each_same c.generators _ _ (λ t m. gen_ub_turn (capability c w r j) t)
        ∙ at_rank (flagged c w GeneratorFlags) c.generators j _ l h

    pub gen_lb_row : entry_in_row GenLb (capability c w r j) all ≡ (Pg, j, less_unit) ∷ []
    gen_lb_row =
        in_group c w r ti tc GenLb _ _ c.generators (capability_entries c w r) refl
        ∙ each_same c.generators _ _ (λ t m. gen_lb_turn (capability c w r j) t)
        ∙ at_rank (flagged c w GeneratorFlags) c.generators j _ l h

  shed_ub_turn : (i j : ℕ) → entry_in_row ShedUb i (shed_bounds c w r j) ≡ when (sheds c w r j) (when (eqb (shed c w r j) i) ((Shed, shed c w r j, unit) ∷ []))
  unfolding entry_in_row when
  shed_ub_turn i j = row_when ShedUb i (sheds c w r j) _ ∙ ap (when (sheds c w r j)) (one_when (eqb (shed c w r j) i) _)

  shed_lb_turn : (i j : ℕ) → entry_in_row ShedLb i (shed_bounds c w r j) ≡ when (sheds c w r j) (when (eqb (shed c w r j) i) ((Shed, shed c w r j, less_unit) ∷ []))
  unfolding entry_in_row when
  shed_lb_turn i j = row_when ShedLb i (sheds c w r j) _ ∙ ap (when (sheds c w r j)) (one_when (eqb (shed c w r j) i) _)

  module _ (i : ℕ) (l : i < c.buses) (h : sheds c w r i ≡ true) where
    pub shed_ub_row : entry_in_row ShedUb (shed c w r i) all ≡ (Shed, shed c w r i, unit) ∷ []
    shed_ub_row =
        in_group c w r ti tc ShedUb _ _ c.buses (shed_bounds c w r) refl
        ∙ each_same c.buses _ _ (λ t m. shed_ub_turn (shed c w r i) t)
        ∙ at_rank (sheds c w r) c.buses i _ l h

    pub shed_lb_row : entry_in_row ShedLb (shed c w r i) all ≡ (Shed, shed c w r i, less_unit) ∷ []
    shed_lb_row =
        in_group c w r ti tc ShedLb _ _ c.buses (shed_bounds c w r) refl
        ∙ each_same c.buses _ _ (λ t m. shed_lb_turn (shed c w r i) t)
        ∙ at_rank (sheds c w r) c.buses i _ l h

  -- ---- segments

  abbrev pub slopes : ℕ → ℕ → List Term
  slopes j t = (Pg, j, rd Slopes (segment_start c w j + t)) ∷ (Cost, piece_rank c w j, less_unit) ∷ []

  segment_turn : (x j : ℕ) → entry_in_row Segment x (segment_entries c w r j) ≡ each (segments_at c w j) (λ t. when (eqb (segment_start c w j + t) x) (slopes j t))
  unfolding entry_in_row
  segment_turn x j =
      row_each Segment x (segments_at c w j) _ ∙ each_same (segments_at c w j) _ _ (λ t m. two_when (eqb (segment_start c w j + t) x) _ _)

  pub segment_row : (j t : ℕ) → j < c.generators → t < segments_at c w j → entry_in_row Segment (segment_start c w j + t) all ≡ slopes j t
  unfolding segment_start
  segment_row j t l m =
      in_group c w r ti tc Segment _ _ c.generators (segment_entries c w r) refl
      ∙ each_same c.generators _ _ (λ k n. segment_turn (segment_start c w j + t) k)
      ∙ each_point c.generators j _ l
      (λ k n d. each_none (segments_at c w k) _ (λ s o. other (segment_start c w k + s) (segment_start c w j + t) _ (λ q. d (before_apart (segments_at c w) k j s t o m q).0)))
      ∙ each_point (segments_at c w j) t _ m
      (λ s o d. other (segment_start c w j + s) (segment_start c w j + t) _ (λ q. d (omega (arith, q))))
      ∙ itself (segment_start c w j + t) (slopes j t)

  -- ---- linear rows

  abbrev term_at : Expr → OpfColumn → ℕ → List Term
  term_at sign k t = (k, get_or ti t 0, sign ⊗ num (get_or tc t nan)) ∷ []

  abbrev pub terms : Expr → ℕ → List Term
  terms sign q =
      each (wire c w FlowTerms q) (λ t. term_at sign Flow (term_start c w q + t))
      ++ each (wire c w GenerationTerms q) (λ t. term_at sign Pg (term_start c w q + wire c w FlowTerms q + t))

  own_block : (a : OpfRow) → eqb (row_rank a) (row_rank a) ≡ true
  own_block a = eq-eqb (row_rank a) (row_rank a) refl

  module _ (a : OpfRow) (i : ℕ) where
    -- every term of a row stands in it, or none does
    written_in : (b : Bool) (p : OpfRow) (x : ℕ) (sign : Expr) (q : ℕ) → (eqb (row_rank p) (row_rank a) && eqb x i) ≡ b → entry_in_row a i (written_row c w r ti tc p x sign q) ≡ when b (terms sign q)
    unfolding entry_in_row
    written_in b p x sign q e =
        row_append a i (each (wire c w FlowTerms q) _) _
        ∙ ap₂ ◌++◌
        (row_each a i (wire c w FlowTerms q) _ ∙ each_same (wire c w FlowTerms q) _ (λ t. when b (term_at sign Flow (term_start c w q + t))) (λ t m. rw e (one_when b _)) ∙ each_when b (wire c w FlowTerms q) _)
        (row_each a i (wire c w GenerationTerms q) _ ∙ each_same (wire c w GenerationTerms q) _ (λ t. when b (term_at sign Pg (term_start c w q + wire c w FlowTerms q + t))) (λ t m. rw e (one_when b _)) ∙ each_when b (wire c w GenerationTerms q) _)
        ∙ append_when b (each (wire c w FlowTerms q) _) (each (wire c w GenerationTerms q) _)

    unmet : (p : OpfRow) (x : ℕ) (sign : Expr) (q : ℕ) → (x ≡ i → ⊥) → entry_in_row a i (written_row c w r ti tc p x sign q) ≡ []
    unfolding when
    unmet p x sign q d = written_in false p x sign q (rw (ne_eqb x i d) (go (eqb (row_rank p) (row_rank a))))
      where
        go : (b : Bool) → (b && false) ≡ false
        go true = refl
        go false = refl

  met : (a : OpfRow) (x : ℕ) (sign : Expr) (q : ℕ) → entry_in_row a x (written_row c w r ti tc a x sign q) ≡ terms sign q
  unfolding when
  met a x sign q = written_in a x true a x sign q (rw (own_block a, eq-eqb x x refl))

  abbrev row_entries : ℕ → List Coefficient
  row_entries q = linear_entries c w r ti tc (row_limits c w r q) q

  -- another row has nothing there
  equal_apart : (q p : ℕ) → (p ≡ q → ⊥) → 0 < equalities (row_limits c w r p) → 0 < equalities (row_limits c w r q) → equality_rank c w r p ≡ equality_rank c w r q → ⊥
  equal_apart q p d n m z = d (equality_apart c w r p q 0 0 n m (omega (arith, z))).0

  first_apart : (q t p : ℕ) → (p ≡ q → ⊥) → 0 < inequalities (row_limits c w r p) → t < inequalities (row_limits c w r q) → inequality_rank c w r p ≡ inequality_rank c w r q + t → ⊥
  first_apart q t p d n m z = d (inequality_apart c w r p q 0 t n m (omega (arith, z))).0

  equal_other : (q p : ℕ) → (p ≡ q → ⊥) → (k : RowLimits) → row_limits c w r p ≡ k → 0 < equalities (row_limits c w r q) → entry_in_row LinearEqual (equality_rank c w r q) (linear_entries c w r ti tc k p) ≡ []
  unfolding entry_in_row when
  equal_other q p d None e m = refl
  equal_other q p d (Upper u) e m = written_in LinearEqual _ false LinearLimit _ unit p refl
  equal_other q p d (Lower u) e m = written_in LinearEqual _ false LinearLimit _ less_unit p refl
  equal_other q p d (Both u v) e m =
      row_append LinearEqual _ (written_row c w r ti tc LinearLimit _ unit p) _
      ∙ rw (written_in LinearEqual (equality_rank c w r q) false LinearLimit (inequality_rank c w r p) unit p refl) (written_in LinearEqual _ false LinearLimit _ less_unit p refl)
  equal_other q p d (Equal u) e m = unmet LinearEqual _ LinearEqual _ unit p (equal_apart q p d (rw e none_below_one) m)

  limit_other : (q t p : ℕ) → (p ≡ q → ⊥) → (k : RowLimits) → row_limits c w r p ≡ k → t < inequalities (row_limits c w r q) → entry_in_row LinearLimit (inequality_rank c w r q + t) (linear_entries c w r ti tc k p) ≡ []
  unfolding entry_in_row when
  limit_other q t p d None e m = refl
  limit_other q t p d (Upper u) e m = unmet LinearLimit _ LinearLimit _ unit p (first_apart q t p d (rw e none_below_one) m)
  limit_other q t p d (Lower u) e m = unmet LinearLimit _ LinearLimit _ less_unit p (first_apart q t p d (rw e none_below_one) m)
  limit_other q t p d (Both u v) e m =
      row_append LinearLimit _ (written_row c w r ti tc LinearLimit _ unit p) _
      ∙ rw (unmet LinearLimit (inequality_rank c w r q + t) LinearLimit (inequality_rank c w r p) unit p (first_apart q t p d (rw e none_below_two) m))
      (unmet LinearLimit _ LinearLimit _ less_unit p (λ z. d (inequality_apart c w r p q 1 t (rw e one_below_two) m z).0))
  limit_other q t p d (Equal u) e m = written_in LinearLimit _ false LinearEqual _ unit p refl

  module _ (q : ℕ) (l : q < c.rows) where
    equal_turn : (k : RowLimits) → row_limits c w r q ≡ k → 0 < equalities k → entry_in_row LinearEqual (equality_rank c w r q) all ≡ entry_in_row LinearEqual (equality_rank c w r q) (linear_entries c w r ti tc k q)
    equal_turn k e m =
        in_group c w r ti tc LinearEqual _ _ c.rows row_entries refl
        ∙ each_point c.rows q _ l (λ p n d. equal_other q p d (row_limits c w r p) refl (rw e m))
        ∙ rw e

    limit_turn : (k : RowLimits) → row_limits c w r q ≡ k → (t : ℕ) → t < inequalities k → entry_in_row LinearLimit (inequality_rank c w r q + t) all ≡ entry_in_row LinearLimit (inequality_rank c w r q + t) (linear_entries c w r ti tc k q)
    limit_turn k e t m =
        in_group c w r ti tc LinearLimit _ _ c.rows row_entries refl
        ∙ each_point c.rows q _ l (λ p n d. limit_other q t p d (row_limits c w r p) refl (rw e m))
        ∙ rw e

    first_turn : (k : RowLimits) → row_limits c w r q ≡ k → 0 < inequalities k → entry_in_row LinearLimit (inequality_rank c w r q) all ≡ entry_in_row LinearLimit (inequality_rank c w r q) (linear_entries c w r ti tc k q)
    first_turn k e m = let z : inequality_rank c w r q + 0 ≡ inequality_rank c w r q = omega arith in rw z at (limit_turn k e 0 m)

    pub level_row_lem : (y : Float) → row_limits c w r q ≡ Equal y → entry_in_row LinearEqual (equality_rank c w r q) all ≡ terms unit q
    level_row_lem y e = equal_turn (Equal y) e (omega arith) ∙ met LinearEqual _ unit q

    pub upper_row : (y : Float) → row_limits c w r q ≡ Upper y → entry_in_row LinearLimit (inequality_rank c w r q) all ≡ terms unit q
    upper_row y e = first_turn (Upper y) e (omega arith) ∙ met LinearLimit _ unit q

    pub lower_row : (y : Float) → row_limits c w r q ≡ Lower y → entry_in_row LinearLimit (inequality_rank c w r q) all ≡ terms less_unit q
    lower_row y e = first_turn (Lower y) e (omega arith) ∙ met LinearLimit _ less_unit q

    pub both_upper_row : (y v : Float) → row_limits c w r q ≡ Both y v → entry_in_row LinearLimit (inequality_rank c w r q) all ≡ terms unit q
    both_upper_row y v e =
        first_turn (Both y v) e (omega arith)
        ∙ row_append LinearLimit _ (written_row c w r ti tc LinearLimit _ unit q) _
        ∙ rw (met LinearLimit (inequality_rank c w r q) unit q, unmet LinearLimit (inequality_rank c w r q) LinearLimit (inequality_rank c w r q + 1) less_unit q (λ z. omega (arith, z))) (append-nil _)

    pub both_lower_row : (y v : Float) → row_limits c w r q ≡ Both y v → entry_in_row LinearLimit (inequality_rank c w r q + 1) all ≡ terms less_unit q
    both_lower_row y v e =
        limit_turn (Both y v) e 1 (omega arith)
        ∙ row_append LinearLimit _ (written_row c w r ti tc LinearLimit _ unit q) _
        ∙ rw (met LinearLimit (inequality_rank c w r q + 1) less_unit q, unmet LinearLimit (inequality_rank c w r q + 1) LinearLimit (inequality_rank c w r q) unit q (λ z. omega (arith, z)))
