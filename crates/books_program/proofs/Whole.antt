-- The assembled program is the manual's: its constraints, their rows and right sides, every row, its Hessian and its costs.
-- Main results: `program_is_the_manuals`, `accepted_program`. Assumes nothing.
use mathlib.Core.Path.{◌≡◌, refl}
use mathlib.Core.Bool.{Bool, true, false}
use mathlib.Core.List.{List, [], ◌∷◌}
use Prim.Native.Nat.{ℕ, ◌+◌, ◌<◌}
use native.Mathlib.Omega.{arith}
use lib.Dec.{eqb}
use lib.ListN.{get_or}
use lib.Ieee.{Float, nan}
use borrow.Author.Tests.{ne_eqb}
use Rattle.sequence.specs.Lists.{each}
use Rattle.sequence.specs.Facts.{All}
use Rattle.sequence.specs.Facts.All.{done, ◌&◌}
use Rattle.sequence.proofs.Facts.{all_append, all_each}
use Rattle.network.specs.declared.Counts.{Counts}
use Rattle.network.specs.declared.Part.TheVariants.{References, GeneratorFlags, ThermalFlags, AngleFlags, FlowTerms, GenerationTerms}
use Rattle.network.specs.Layout.{wire, reading, segments_at, segment_start, term_start}
use Rattle.network.specs.Numbers.{Network, Wired, Termed, Accepted}
use Rattle.model.specs.declared.RowLimits.{RowLimits}
use Rattle.model.specs.declared.RowLimits.TheVariants.{None, Upper, Lower, Both, Equal}
use Rattle.model.specs.Rows.{row_limits}
use Rattle.snapping.specs.Expr.{Expr, unit, less_unit}
use Rattle.snapping.specs.Expr.Expr.{num, ◌⊗◌}
use Rattle.kkt_index.specs.Index.{shape_of}
use Rattle.kkt_index.proofs.Segments.{segment_inside}
use Rattle.opf_layout.specs.declared.OpfColumn.{OpfColumn}
use Rattle.opf_layout.specs.declared.OpfColumn.TheVariants.{Va, Pg, Flow, Shed, Cost}
use Rattle.opf_layout.specs.declared.OpfRow.{OpfRow}
use Rattle.opf_layout.specs.declared.OpfRow.TheVariants.{Balance, FlowRow, Reference, LineUb, LineLb, GenUb, GenLb, ShedUb, ShedLb, PhaseUb, PhaseLb, Segment, LinearEqual, LinearLimit}
use Rattle.opf_layout.specs.Layout.{active_rank, flagged, sheds, equalities, inequalities, equality_rank, inequality_rank, active_of, row_rank, row_size, row_start}
use Rattle.opf_layout.proofs.Ranks.{rank_below, equality_below, inequality_below}
use Rattle.opf_assembly.specs.Assembly.{blank, from, to, a_entries, b_sheet}
use Rattle.books.specs.Forms as forms
use Rattle.books.specs.Forms.{Form}
use Rattle.books.specs.Convex.{Constraint, Gradient}
use Rattle.books.specs.Manual.{Site, balance, flow_law, reference, flow_floor, flow_ceiling, generator_floor, generator_ceiling, shed_floor, shed_ceiling, angle_floor, angle_ceiling, segment, row_ceiling, row_floor, row_level, row_terms, turned_num}
use Rattle.books.specs.Matrix.{Doubles}
use Rattle.books_program.specs.Rows.{Rowed, as_row, site, linear_rowed, rowed}
use Rattle.books_program.specs.Program.{variable, has_column, column_index, RowIs, ProgramIs}
use Rattle.books_program.proofs.Constraints.{constraints_are}
use Rattle.books_program.proofs.Complete.{rows_complete}
use Rattle.books.proofs.Doubles.{one_by, less_by}
use Rattle.books_program.proofs.Sides
use Rattle.books_program.proofs.Entries.{Term, entry_in_row, a_values}
use Rattle.books_program.proofs.Range.{entries_inside}
use Rattle.books_program.proofs.Terms.{written, worth, Agrees, agree_one, agree_then, agree_append, agree_each}
use Rattle.books_program.proofs.Lines
use Rattle.books_program.proofs.Balances.{balance_entries}
use Rattle.books_program.proofs.Costs.{index_below, costs_are, hessian_is}

module _ (c : Counts) (w : List ℕ) (r : List Float) (ti : List ℕ) (tc : List Float) where
  abbrev own : Site
  own = site c w r ti tc

  -- terms that agree with a gradient in every column
  abbrev Agree : List Term → Gradient → Type 0
  Agree l g = (k : OpfColumn) (j : ℕ) (has : has_column c w r ti tc k j ≡ true) → Agrees c w r ti tc k j has l g

  agree_single : (b : OpfColumn) (i : ℕ) (x : Expr) (f : Form) → has_column c w r ti tc b i ≡ true → written c w r ti tc x ≡ worth c w r ti tc f
      → Agree ((b, column_index c w r ti tc b i, x) ∷ []) ((variable c w r ti tc b i, f) ∷ [])
  agree_single b i x f h e k j has = agree_one c w r ti tc k j has b i x f h e

  agree_more : (b : OpfColumn) (i : ℕ) (x : Expr) (f : Form) (l : List Term) (g : Gradient) → has_column c w r ti tc b i ≡ true → written c w r ti tc x ≡ worth c w r ti tc f → Agree l g
      → Agree ((b, column_index c w r ti tc b i, x) ∷ l) ((variable c w r ti tc b i, f) ∷ g)
  agree_more b i x f l g h e q k j has = agree_then c w r ti tc k j has b i x f l g h e (q k j has)

  module _ (h : Wired c w) (m : Termed c w ti tc) where
    -- a row whose entries and right side are known
    row_is : (x : Constraint) (b : Bool) (a : OpfRow) (i : ℕ) (l : List Term) → i < row_size c (active_of c w r) a → eqb (row_rank a) (row_rank Balance) ≡ false
        → entry_in_row a i (a_entries c w r ti tc) ≡ l → Agree l x.gradient → get_or (b_sheet c w r) (row_start c (active_of c w r) a + i) nan ≡ worth c w r ti tc x.right
        → RowIs c w r ti tc (as_row x b a i)
    row_is x b a i l n e p q s = record {
      entries = λ k j z has.
          rw (e, a_values c (active_of c w r) (reading c r) blank a i k (column_index c w r ti tc k j) n (index_below c w r ti tc k j z has) (entries_inside c w r ti tc h m), p) (q k j has);
      right = s;
    }

    balance_is : (i : ℕ) → i < c.buses → RowIs c w r ti tc (as_row (balance own i) true Balance i)
    balance_is i l = record {
      entries = λ k j z has.
          rw (a_values c (active_of c w r) (reading c r) blank Balance i k (column_index c w r ti tc k j) l (index_below c w r ti tc k j z has) (entries_inside c w r ti tc h m))
          (balance_entries c w r ti tc i l k j z has);
      right = Sides.balance_side c w r ti tc i l;
    }

    flow_is : (e : ℕ) → e < c.branches → RowIs c w r ti tc (as_row (flow_law own e) true FlowRow e)
    flow_is e l =
        row_is (flow_law own e) true FlowRow e _ l refl (Lines.flow_row_lem c w r ti tc e l)
        (agree_more Flow e _ _ _ _ refl refl (agree_more Va (from c w r e) _ _ _ _ refl refl (agree_single Va (to c w r e) _ _ refl refl)))
        (Sides.flow_side c w r ti tc e l)

    reference_is : (k : ℕ) → k < c.references → RowIs c w r ti tc (as_row (reference own k) true Reference k)
    reference_is k l =
        row_is (reference own k) true Reference k _ l refl (Lines.reference_row_lem c w r ti tc k l) (agree_single Va (wire c w References k) _ _ refl refl) (Sides.reference_side c w r ti tc k l)

    -- ---- limits that are active

    module _ (e : ℕ) (l : e < c.branches) where
      flow_ceiling_is : flagged c w ThermalFlags e ≡ true → RowIs c w r ti tc (as_row (flow_ceiling own e) (flagged c w ThermalFlags e) LineUb (active_rank (flagged c w ThermalFlags) e))
      unfolding active_of
      flow_ceiling_is p =
          row_is (flow_ceiling own e) (flagged c w ThermalFlags e) LineUb _ _ (rank_below (flagged c w ThermalFlags) e c.branches p l) refl (Lines.line_ub_row c w r ti tc e l p)
          (agree_single Flow e unit forms.unit refl refl) (Sides.flow_ceiling_side c w r ti tc e l p)

      flow_floor_is : flagged c w ThermalFlags e ≡ true → RowIs c w r ti tc (as_row (flow_floor own e) (flagged c w ThermalFlags e) LineLb (active_rank (flagged c w ThermalFlags) e))
      unfolding active_of
      flow_floor_is p =
          row_is (flow_floor own e) (flagged c w ThermalFlags e) LineLb _ _ (rank_below (flagged c w ThermalFlags) e c.branches p l) refl (Lines.line_lb_row c w r ti tc e l p)
          (agree_single Flow e less_unit _ refl refl) (Sides.flow_floor_side c w r ti tc e l p)

      angle_ceiling_is : flagged c w AngleFlags e ≡ true → RowIs c w r ti tc (as_row (angle_ceiling own e) (flagged c w AngleFlags e) PhaseUb (active_rank (flagged c w AngleFlags) e))
      unfolding active_of
      angle_ceiling_is p =
          row_is (angle_ceiling own e) (flagged c w AngleFlags e) PhaseUb _ _ (rank_below (flagged c w AngleFlags) e c.branches p l) refl (Lines.phase_ub_row c w r ti tc e l p)
          (agree_more Va (from c w r e) _ _ _ _ refl refl (agree_single Va (to c w r e) _ _ refl refl)) (Sides.angle_ceiling_side c w r ti tc e l p)

      angle_floor_is : flagged c w AngleFlags e ≡ true → RowIs c w r ti tc (as_row (angle_floor own e) (flagged c w AngleFlags e) PhaseLb (active_rank (flagged c w AngleFlags) e))
      unfolding active_of
      angle_floor_is p =
          row_is (angle_floor own e) (flagged c w AngleFlags e) PhaseLb _ _ (rank_below (flagged c w AngleFlags) e c.branches p l) refl (Lines.phase_lb_row c w r ti tc e l p)
          (agree_more Va (from c w r e) _ _ _ _ refl refl (agree_single Va (to c w r e) _ _ refl refl)) (Sides.angle_floor_side c w r ti tc e l p)

    module _ (j : ℕ) (l : j < c.generators) (p : flagged c w GeneratorFlags j ≡ true) where
      generator_ceiling_is : RowIs c w r ti tc (as_row (generator_ceiling own j) (flagged c w GeneratorFlags j) GenUb (active_rank (flagged c w GeneratorFlags) j))
      unfolding active_of
      generator_ceiling_is =
          row_is (generator_ceiling own j) (flagged c w GeneratorFlags j) GenUb _ _ (rank_below (flagged c w GeneratorFlags) j c.generators p l) refl (Lines.gen_ub_row c w r ti tc j l p)
          (agree_single Pg j unit forms.unit refl refl) (Sides.generator_ceiling_side c w r ti tc j l p)

      generator_floor_is : RowIs c w r ti tc (as_row (generator_floor own j) (flagged c w GeneratorFlags j) GenLb (active_rank (flagged c w GeneratorFlags) j))
      unfolding active_of
      generator_floor_is =
          row_is (generator_floor own j) (flagged c w GeneratorFlags j) GenLb _ _ (rank_below (flagged c w GeneratorFlags) j c.generators p l) refl (Lines.gen_lb_row c w r ti tc j l p)
          (agree_single Pg j less_unit _ refl refl) (Sides.generator_floor_side c w r ti tc j l p)

    module _ (i : ℕ) (l : i < c.buses) (p : sheds c w r i ≡ true) where
      shed_ceiling_is : RowIs c w r ti tc (as_row (shed_ceiling own i) (sheds c w r i) ShedUb (active_rank (sheds c w r) i))
      unfolding active_of
      shed_ceiling_is =
          row_is (shed_ceiling own i) (sheds c w r i) ShedUb _ _ (rank_below (sheds c w r) i c.buses p l) refl (Lines.shed_ub_row c w r ti tc i l p)
          (agree_single Shed i unit forms.unit p refl) (Sides.shed_ceiling_side c w r ti tc i l p)

      shed_floor_is : RowIs c w r ti tc (as_row (shed_floor own i) (sheds c w r i) ShedLb (active_rank (sheds c w r) i))
      unfolding active_of
      shed_floor_is =
          row_is (shed_floor own i) (sheds c w r i) ShedLb _ _ (rank_below (sheds c w r) i c.buses p l) refl (Lines.shed_lb_row c w r ti tc i l p)
          (agree_single Shed i less_unit _ p refl) (Sides.shed_floor_side c w r ti tc i l p)

    -- ---- segments

    pieced : (j t : ℕ) → t < segments_at c w j → has_column c w r ti tc Cost j ≡ true
    pieced j t n = rw (ne_eqb (segments_at c w j) 0 (λ e. omega (arith, e)))

    segment_is : (j t : ℕ) → j < c.generators → t < segments_at c w j → RowIs c w r ti tc (as_row (segment own j t) true Segment (segment_start c w j + t))
    segment_is j t l n =
        row_is (segment own j t) true Segment (segment_start c w j + t) _ (segment_inside h j t l n).0 refl (Lines.segment_row c w r ti tc j t l n)
        (agree_more Pg j _ _ _ _ refl refl (agree_single Cost j less_unit _ (pieced j t n) refl))
        (Sides.segment_side c w r ti tc j t (segment_start c w j + t) (segment_inside h j t l n).0 refl)

    -- ---- linear rows

    module _ (dc : Doubles tc) (q : ℕ) where
      terms_agree : (sign : Expr) (turn : Float → Form) → ((t : ℕ) → written c w r ti tc (sign ⊗ num (get_or tc t nan)) ≡ worth c w r ti tc (turn (get_or tc t nan))) → Agree (Lines.terms c w r ti tc sign q) (row_terms own turn q)
      terms_agree sign turn e k j has =
          agree_append c w r ti tc k j has (each (wire c w FlowTerms q) _) (each (wire c w GenerationTerms q) _) (each (wire c w FlowTerms q) _) (each (wire c w GenerationTerms q) _)
          (agree_each c w r ti tc k j has (wire c w FlowTerms q) _ _ (λ t n. agree_one c w r ti tc k j has Flow _ _ _ refl (e (term_start c w q + t))))
          (agree_each c w r ti tc k j has (wire c w GenerationTerms q) _ _ (λ t n. agree_one c w r ti tc k j has Pg _ _ _ refl (e (term_start c w q + wire c w FlowTerms q + t))))

      straight : Agree (Lines.terms c w r ti tc unit q) (row_terms own forms.Form.num q)
      straight = terms_agree unit forms.Form.num (λ t. one_by (get_or tc t nan) (dc t))

      turned : Agree (Lines.terms c w r ti tc less_unit q) (row_terms own (turned_num own) q)
      turned = terms_agree less_unit (turned_num own) (λ t. less_by (get_or tc t nan) (dc t))

      module _ (d : Doubles r) (l : q < c.rows) where
        abbrev Due : Rowed → Type 0
        Due x = x.present ≡ true → RowIs c w r ti tc x

        limit_at : (k : RowLimits) → row_limits c w r q ≡ k → (t : ℕ) → t < inequalities k → inequality_rank c w r q + t < inequality_rank c w r c.rows
        limit_at k e t n = inequality_below c w r q c.rows t l (rw e n)

        first_at : (k : RowLimits) → row_limits c w r q ≡ k → 0 < inequalities k → inequality_rank c w r q < inequality_rank c w r c.rows
        first_at k e n = omega (arith, limit_at k e 0 n)

        equal_at : (k : RowLimits) → row_limits c w r q ≡ k → 0 < equalities k → equality_rank c w r q < equality_rank c w r c.rows
        equal_at k e n = omega (arith, equality_below c w r q c.rows 0 l (rw e n))

        linear_is : (x : ℕ) (k : RowLimits) → row_limits c w r q ≡ k → All Due (linear_rowed c w r ti tc (shape_of k) q x)
        unfolding active_of
        linear_is x None e = done
        linear_is x (Upper y) e =
            (λ p. row_is (row_ceiling own q x) _ LinearLimit _ _ (first_at (Upper y) e (omega arith)) refl (Lines.upper_row c w r ti tc q l y e) straight (Sides.upper_side c w r ti tc d q l y x e)) & done
        linear_is x (Lower y) e =
            (λ p. row_is (row_floor own q x) _ LinearLimit _ _ (first_at (Lower y) e (omega arith)) refl (Lines.lower_row c w r ti tc q l y e) turned (Sides.lower_side c w r ti tc d q l y x e)) & done
        linear_is x (Both y v) e =
            (λ p. row_is (row_ceiling own q x) _ LinearLimit _ _ (first_at (Both y v) e (omega arith)) refl (Lines.both_upper_row c w r ti tc q l y v e) straight (Sides.both_upper_side c w r ti tc d q l y v x e))
            & (λ p. row_is (row_floor own q (x + 1)) _ LinearLimit _ _ (limit_at (Both y v) e 1 (omega arith)) refl (Lines.both_lower_row c w r ti tc q l y v e) turned (Sides.both_lower_side c w r ti tc d q l y v (x + 1) e))
            & done
        linear_is x (Equal y) e =
            (λ p. row_is (row_level own q x) _ LinearEqual _ _ (equal_at (Equal y) e (omega arith)) refl (Lines.level_row_lem c w r ti tc q l y e) straight (Sides.level_side c w r ti tc d q l y x e)) & done

pub rows_are : (c : Counts) (w : List ℕ) (r : List Float) (ti : List ℕ) (tc : List Float) → Wired c w → Termed c w ti tc → Doubles r → Doubles tc
    → All (λ (x : Rowed). x.present ≡ true → RowIs c w r ti tc x) (rowed c w r ti tc)
unfolding rowed
rows_are c w r ti tc h m d dc =
    all_append (all_each c.buses (λ i l. (λ p. balance_is c w r ti tc h m i l) & done))
    (all_append (all_each c.branches (λ e l. (λ p. flow_is c w r ti tc h m e l) & done))
    (all_append (all_each c.references (λ k l. (λ p. reference_is c w r ti tc h m k l) & done))
    (all_append (all_each c.branches (λ e l. flow_floor_is c w r ti tc h m e l & done))
    (all_append (all_each c.branches (λ e l. flow_ceiling_is c w r ti tc h m e l & done))
    (all_append (all_each c.generators (λ j l. generator_floor_is c w r ti tc h m j l & done))
    (all_append (all_each c.generators (λ j l. generator_ceiling_is c w r ti tc h m j l & done))
    (all_append (all_each c.buses (λ i l. shed_floor_is c w r ti tc h m i l & done))
    (all_append (all_each c.buses (λ i l. shed_ceiling_is c w r ti tc h m i l & done))
    (all_append (all_each c.branches (λ e l. angle_floor_is c w r ti tc h m e l & done))
    (all_append (all_each c.branches (λ e l. angle_ceiling_is c w r ti tc h m e l & done))
    (all_append (all_each c.generators (λ j l. all_each (segments_at c w j) (λ t n. (λ p. segment_is c w r ti tc h m j t l n) & done)))
    (all_each c.rows (λ q l. linear_is c w r ti tc h m dc q d l _ (row_limits c w r q) refl)))))))))))))

pub program_is_the_manuals : (c : Counts) (w : List ℕ) (r : List Float) (ti : List ℕ) (tc : List Float) → Wired c w → Termed c w ti tc → Doubles r → Doubles tc → ProgramIs c w r ti tc
program_is_the_manuals c w r ti tc h m d dc = record {
  constraints = constraints_are c w r ti tc;
  complete = rows_complete c w r ti tc h;
  rows = rows_are c w r ti tc h m d dc;
  hessian = hessian_is c w r ti tc;
  costs = costs_are c w r ti tc;
}

-- of every accepted network
pub accepted_program : (N : Network) (c : Counts) → Accepted N c → Doubles N.readings → Doubles N.coefficients → ProgramIs c N.wiring N.readings N.indexes N.coefficients
accepted_program N c h d e = program_is_the_manuals c N.wiring N.readings N.indexes N.coefficients h.wired h.termed d e
