-- How many triplets A and P can have: group by group, then together.
-- Main results: `a_length`, `p_length`, `most_fits`. Assumes nothing.
use mathlib.Core.Path.{◌≡◌, refl, sym}
use mathlib.Core.Bool.{Bool, true, false}
use mathlib.Core.List.{List, [], ◌∷◌, ◌++◌}
use Prim.Native.Nat.{ℕ, zero, suc, ◌+◌, ◌*◌, ◌≤◌}
use native.Mathlib.Omega.{arith}
use lib.Ieee.{Float}
use Rattle.float64.specs.Values.{whole}
use lib.Dec.{ltb}
use lib.ListN.{length, length-append}
use borrow.Author.Tests.{le-ltb}
use Rattle.std.specs.Prelude.{Option, Some, None as Without}
use Rattle.sequence.specs.declared.Triplet.{Triplet}
use Rattle.sequence.specs.Lists.{before, each, when}
use Rattle.sequence.specs.Sheets.{emit}
use Rattle.sequence.proofs.Lists.{before_bound, each_long}
use Rattle.network.specs.declared.Counts.{Counts}
use Rattle.network.specs.declared.Field.{Field}
use Rattle.network.specs.declared.Field.TheVariants.{Cq, Slopes}
use Rattle.network.specs.declared.Part.TheVariants.{GeneratorFlags, ThermalFlags, AngleFlags, FlowTerms, GenerationTerms}
use Rattle.network.specs.Layout.{wire, reading, segments_at, segment_start, term_start, row_terms}
use Rattle.network.specs.Numbers.{Wired}
use Rattle.model.specs.declared.RowLimits.{RowLimits}
use Rattle.model.specs.declared.RowLimits.TheVariants.{None, Upper, Lower, Both, Equal}
use Rattle.model.specs.Rows.{row_limits}
use Rattle.solution.specs.declared.Entry.{Entry}
use Rattle.solution.specs.Sheet.{piece_rank}
use Rattle.snapping.specs.Expr.{Expr, eval, unit, less_unit}
use Rattle.snapping.specs.Expr.Expr.{num, rd, ◌⊗◌}
use Rattle.opf_layout.specs.declared.OpfColumn.{OpfColumn}
use Rattle.opf_layout.specs.declared.OpfColumn.TheVariants.{Pg, Flow, Cost}
use Rattle.opf_layout.specs.declared.OpfRow.{OpfRow}
use Rattle.opf_layout.specs.declared.OpfRow.TheVariants.{LineUb, LineLb, Segment, LinearEqual, LinearLimit}
use Rattle.opf_layout.specs.Layout.{flagged, sheds, equality_rank, inequality_rank, active_of, column_start, row_start}
use Rattle.opf_assembly.specs.Assembly.{blank, Coefficient, coefficient, two_sides, line, term_entry, triplet_of, item_by, triplets_by, shed_entry, generator_entry, branch_own, phase_entries, branch_entries, reference_entry, capability_entries, shed_bounds, segment_entries, written_row, linear_entries, a_entries, a_triplets, quad_triplets, p_triplets}
use Rattle.opf_problem.specs.Walks.{most_a}

when_le : {A : Type 0} (b : Bool) (l : List A) → length (when b l) ≤ length l
unfolding when
when_le true l = omega arith
when_le false l = omega arith

emit_le : (t : Option Triplet) → length (emit t) ≤ 1
unfolding emit
emit_le (Some t) = omega arith
emit_le Without = omega arith

-- no more triplets than entries
triplets_le : (row_at : OpfRow → ℕ) (column_at : OpfColumn → ℕ) (R : Field → ℕ → Float) (S : Entry → ℕ → Float) (xs : List Coefficient) → length (triplets_by row_at column_at R S xs) ≤ length xs
unfolding triplets_by
triplets_le row_at column_at R S [] = omega arith
triplets_le row_at column_at R S (x ∷ xs) =
    omega (arith, length-append (emit (item_by row_at column_at R S x)) (triplets_by row_at column_at R S xs), emit_le (item_by row_at column_at R S x), triplets_le row_at column_at R S xs)

module _ {A : Type 0} where
  each_most : (f : ℕ → List A) (b n : ℕ) → ((i : ℕ) → length (f i) ≤ b) → length (each n f) ≤ n * b
  each_most f b n h = omega (arith, each_long f (λ i. length (f i)) n (λ i l. refl), before_bound (λ i. length (f i)) b n (λ i l. h i))

  -- at most twice a count at each turn
  each_twice : (f : ℕ → List A) (g : ℕ → ℕ) (n : ℕ) → ((i : ℕ) → length (f i) ≤ 2 * g i) → length (each n f) ≤ 2 * before g n
  unfolding each before
  each_twice f g zero h = omega arith
  each_twice f g (suc n) h = omega (arith, length-append (each n f) (f n), each_twice f g n h, h n)

module _ (c : Counts) (w : List ℕ) (r : List Float) where
  branch_le : (e : ℕ) → length (branch_entries c w r e) ≤ 13
  branch_le e =
      let a = branch_own c w r e in
      let b = when (flagged c w ThermalFlags e) (two_sides LineUb LineLb (line c w r e) Flow e) in
      let d = when (flagged c w AngleFlags e) (phase_entries c w r e) in
      let p = when_le (flagged c w ThermalFlags e) (two_sides LineUb LineLb (line c w r e) Flow e) in
      let q = when_le (flagged c w AngleFlags e) (phase_entries c w r e) in
      omega (arith, length-append a (b ++ d), length-append b d, p, q)

  segment_le : (j : ℕ) → length (segment_entries c w r j) ≤ 2 * segments_at c w j
  segment_le j =
      omega (
        arith,
        each_most (λ t. coefficient Segment (segment_start c w j + t) Pg j (rd Slopes (segment_start c w j + t)) ∷ coefficient Segment (segment_start c w j + t) Cost (piece_rank c w j) less_unit ∷ []) 2 (segments_at c w j) (λ t. omega arith),
      )

  module _ (ti : List ℕ) (tc : List Float) where
    written_le : (b : OpfRow) (x : ℕ) (sign : Expr) (q : ℕ) → length (written_row c w r ti tc b x sign q) ≤ row_terms c w q
    written_le b x sign q =
        let f : ℕ → List Coefficient = λ t. term_entry c w r ti tc b x sign Flow (term_start c w q + t) in
        let g : ℕ → List Coefficient = λ t. term_entry c w r ti tc b x sign Pg (term_start c w q + wire c w FlowTerms q + t) in
        omega (
          arith,
          length-append (each (wire c w FlowTerms q) f) (each (wire c w GenerationTerms q) g),
          each_most f 1 (wire c w FlowTerms q) (λ t. omega arith),
          each_most g 1 (wire c w GenerationTerms q) (λ t. omega arith),
        )

    linear_le : (l : RowLimits) (q : ℕ) → length (linear_entries c w r ti tc l q) ≤ 2 * row_terms c w q
    linear_le None q = omega arith
    linear_le (Upper u) q = omega (arith, written_le LinearLimit (inequality_rank c w r q) unit q)
    linear_le (Lower l) q = omega (arith, written_le LinearLimit (inequality_rank c w r q) less_unit q)
    linear_le (Both u l) q =
        omega (
          arith,
          length-append (written_row c w r ti tc LinearLimit (inequality_rank c w r q) unit q) (written_row c w r ti tc LinearLimit (inequality_rank c w r q + 1) less_unit q),
          written_le LinearLimit (inequality_rank c w r q) unit q,
          written_le LinearLimit (inequality_rank c w r q + 1) less_unit q,
        )
    linear_le (Equal l) q = omega (arith, written_le LinearEqual (equality_rank c w r q) unit q)

    entries_le : Wired c w → length (a_entries c w r ti tc) ≤ most_a c
    unfolding a_entries
    entries_le h =
        let a = each c.buses (shed_entry c w r) in
        let b = each c.generators (generator_entry c w r) in
        let d = each c.branches (branch_entries c w r) in
        let e = each c.references (reference_entry c w r) in
        let f = each c.generators (capability_entries c w r) in
        let g = each c.buses (shed_bounds c w r) in
        let s = each c.generators (segment_entries c w r) in
        let l = each c.rows (λ q. linear_entries c w r ti tc (row_limits c w r q) q) in
        omega (
          arith,
          length-append a (b ++ (d ++ (e ++ (f ++ (g ++ (s ++ l)))))),
          length-append b (d ++ (e ++ (f ++ (g ++ (s ++ l))))),
          length-append d (e ++ (f ++ (g ++ (s ++ l)))),
          length-append e (f ++ (g ++ (s ++ l))),
          length-append f (g ++ (s ++ l)),
          length-append g (s ++ l),
          length-append s l,
          each_most (shed_entry c w r) 1 c.buses (λ i. when_le (sheds c w r i) _),
          each_most (generator_entry c w r) 1 c.generators (λ j. omega arith),
          each_most (branch_entries c w r) 13 c.branches branch_le,
          each_most (reference_entry c w r) 1 c.references (λ k. omega arith),
          each_most (capability_entries c w r) 2 c.generators (λ j. when_le (flagged c w GeneratorFlags j) _),
          each_most (shed_bounds c w r) 2 c.buses (λ i. when_le (sheds c w r i) _),
          each_twice (segment_entries c w r) (segments_at c w) c.generators segment_le,
          each_twice (λ q. linear_entries c w r ti tc (row_limits c w r q) q) (row_terms c w) c.rows (λ q. linear_le (row_limits c w r q) q),
          h.segments_sum,
          h.terms_sum,
        )

    pub a_length : Wired c w → length (a_triplets c w r ti tc) ≤ most_a c
    a_length h =
        omega (arith, triplets_le (row_start c (active_of c w r)) (column_start c (active_of c w r)) (reading c r) blank (a_entries c w r ti tc), entries_le h)

  pub p_length : length (p_triplets c w r) ≤ c.generators
  unfolding quad_triplets
  p_length =
      omega (arith, each_most (λ j. triplet_of c (active_of c w r) (reading c r) blank (column_start c (active_of c w r) Pg + j) (column_start c (active_of c w r) Pg + j) (eval (reading c r) blank (num (whole 2) ⊗ rd Cq j))) 1 c.generators (λ j. emit_le _))

-- where the most that there can be have room, so have those that there are
pub most_fits : (n k room : ℕ) → n ≤ k → k ≤ room → false ≡ ltb room n
most_fits n k room h g = sym (le-ltb room n (omega arith))
