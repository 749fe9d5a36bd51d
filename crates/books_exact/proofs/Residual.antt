-- The rows that are differentiated are Boyd and Vandenberghe's residual (11.53) of the manual's program, exactly, over any commutative ring.
-- Main results: `book_at_variable`, `book_at_multiplier`, `residual_is_the_books`. Assumes nothing.
use mathlib.Core.Path.{◌≡◌, refl, sym, ap, ap₂, ◌∙◌}
use mathlib.Core.Bool.{Bool, true, false, cond}
use mathlib.Core.List.{[], ◌∷◌}
use mathlib.Mathlib.Algebra.Ring.Defs.{CommRing}
use Prim.Native.Nat.{ℕ, ◌<◌}
use native.Mathlib.Omega.{arith}
use lib.Dec.{eqb, lit<}
use borrow.Author.Tests.{ne_eqb}
use Rattle.float64.specs.Values.{whole}
use Rattle.network.specs.declared.Field.TheVariants.{Cq, Cl, CShed}
use Rattle.network.specs.Layout.{segments_at}
use Rattle.network.specs.Numbers.{Wired}
use Rattle.solution.specs.Sheet.{piece_rank}
use Rattle.kkt_index.specs.declared.Block.TheVariants.{Va, Pg, Flow, Psh, Cost, MuUb}
use Rattle.kkt_index.specs.Index.{rank}
use Rattle.exact.specs.Ring.{sum, total, only}
use Rattle.exact.proofs.Sums.{add_comm, add_zero, total_same}
use Rattle.books.specs.Forms.{Place, Form, none, unit}
use Rattle.books.specs.Forms.Form.{num, rd, var, ◌⊗◌}
use Rattle.books.specs.Convex.{Gradient, Kind, Constraint, matrix_of, entry_in_column}
use Rattle.books.specs.Convex.Kind.{at_most, equal, vacant}
use Rattle.books.specs.Convex.Convention.{straight, turned}
use Rattle.books.specs.Manual.{Site, program, constraints, costs, shed_none, shed_floor, shed_spare, shed_ceiling}
use Rattle.books.specs.Matrix.{same_place}
use Rattle.books_residual.specs.Residual.{row_of as residualRow}
use Rattle.books_exact.specs.Exact.{World, Sound, exact_of}
use Rattle.books_exact.specs.Conditions.{pulled, own, book_residual, ResidualIs}
use Rattle.books_exact.proofs.Laws.{units, ring}
use Rattle.books_exact.proofs.Sums.{eqb_own, sum_append, sum_each, sum_singles, sum_alike, only_mark, only_both, only_on, only_off, total_only, total_at, total_point}
use Rattle.books_exact.proofs.Applied.{applied, coefficient, column_part}
use Rattle.books_exact.proofs.Families.{Own, Part, Curved, sided, of_block, at_variable, at_multiplier, curved_none, matrix_at_variable}
use Rattle.books_exact.proofs.Slacks.{derivative, flow_floor_slack, flow_ceiling_slack, generator_floor_slack, generator_ceiling_slack, angle_floor_slack, angle_ceiling_slack, shed_floor_slack, shed_ceiling_slack, segment_slack_lem, ceiling_slack, floor_slack, shed_lower_lem, flow_law_lem, reference_row_lem, row_level_lem}
use Rattle.books_exact.proofs.Variables.{pieces_apart}
use Rattle.books_exact.proofs.Stationarity.{angle_row_lem, dispatch_row_lem, flow_row_lem, shed_row_lem, cost_row_lem, balance_row_lem}
use Rattle.books_exact.proofs.Rows.{above_none_lem, Agreement, all_rows}
use Rattle.books_exact.proofs.Affine.{Affine}
use Rattle.books_exact.proofs.Constants.{angle_row_linear, dispatch_affine, flow_row_linear, shed_affine, cost_affine, flow_floor_affine, flow_ceiling_affine, generator_floor_affine, generator_ceiling_affine, angle_floor_affine, angle_ceiling_affine, shed_floor_affine, shed_ceiling_affine, segment_affine, row_ceiling_affine, row_floor_affine, alone_affine, level_affine, flow_law_affine, balance_affine}

module _ {A : Type 0} (𝓡 : CommRing A) (W : World A) where
  open 𝓡 use {add as ◌+◌, mul as ◌*◌, neg as less, zero as 𝟘}

  infixl 65 ◌+◌
  infixl 70 ◌*◌
  -- ---- one constraint

  -- a constraint's own row
  abbrev pub Ours : Constraint → A
  Ours c = own 𝓡 W c.kind c

  none_ring : (z : A) → 𝟘 ≡ 𝟘 * z
  none_ring z = simp units

  less_none_ring : (z : A) → 𝟘 ≡ less 𝟘 * z
  less_none_ring z = simp units

  more_ring : (b : Bool) (x m z : A) → only 𝓡 b (x * z) + m * z ≡ (only 𝓡 b x + m) * z
  more_ring b x m z = simp (only_mark, ring)

  less_more_ring : (b : Bool) (x m z : A) → only 𝓡 b (less x * z) + less m * z ≡ less (only 𝓡 b x + m) * z
  less_more_ring b x m z = simp (only_mark, ring)

  -- what the multiplier adds at a is the matrix's column there, times it
  pulled_column : (k : Kind) (g : Gradient) (a : Place) (z : A)
      → sum 𝓡 (λ (x : Place × Form). only 𝓡 (same_place x.0 a) (exact_of 𝓡 W (entry_in_column k x.1) * z)) g ≡ column_part 𝓡 W k (coefficient 𝓡 W g a) * z
  unfolding sum exact_of
  pulled_column (at_most s) [] a z = none_ring z
  pulled_column (equal straight) [] a z = none_ring z
  pulled_column (equal turned) [] a z = less_none_ring z
  pulled_column vacant [] a z = none_ring z
  pulled_column (at_most s) (x ∷ g) a z = ap₂ ◌+◌ refl (pulled_column (at_most s) g a z) ∙ more_ring (same_place x.0 a) (exact_of 𝓡 W x.1) _ z
  pulled_column (equal straight) (x ∷ g) a z = ap₂ ◌+◌ refl (pulled_column (equal straight) g a z) ∙ more_ring (same_place x.0 a) (exact_of 𝓡 W x.1) _ z
  pulled_column (equal turned) (x ∷ g) a z = ap₂ ◌+◌ refl (pulled_column (equal turned) g a z) ∙ less_more_ring (same_place x.0 a) (exact_of 𝓡 W x.1) _ z
  pulled_column vacant (x ∷ g) a z = ap₂ ◌+◌ refl (pulled_column vacant g a z) ∙ more_ring (same_place x.0 a) (exact_of 𝓡 W x.1) _ z

  part : (a : Place) (c : Constraint) → pulled 𝓡 W c a + only 𝓡 (same_place c.multiplier a) (Ours c) ≡ Part 𝓡 W W.unknown Ours a c
  part a c =
      ap (λ (m : A). m + only 𝓡 (same_place c.multiplier a) (Ours c)) (pulled_column c.kind c.gradient a (W.unknown c.multiplier)) ∙ add_comm 𝓡 _ _

  -- a slack is the right side less the gradient times x
  centred_ring : (u m b : A) → u * (less m + b) ≡ less (u * (m + less b))
  centred_ring u m b = simp ring

  centred : (p : Place) (x : Form) (m b : A) → derivative 𝓡 W W.unknown x ≡ less m → Affine 𝓡 W x b → exact_of 𝓡 W (var p ⊗ x) ≡ less (W.unknown p * (m + less b))
  unfolding exact_of
  centred p x m b e f = ap (λ (y : A). W.unknown p * y) (f.value ∙ ap (λ (y : A). y + b) e) ∙ centred_ring (W.unknown p) m b

  module _ (h : Sound 𝓡 W) (s : Site) where
    -- ---- the costs

    -- the costs at row a
    abbrev pub Costs : Place → A
    Costs a = sum 𝓡 (λ (q : Place × Form). only 𝓡 (same_place q.0 a) (exact_of 𝓡 W q.1)) (costs s)

    -- a cost variable's, of a piecewise generator
    abbrev priced : ℕ → ℕ → A
    priced k j = cond (eqb (segments_at s.counts s.wiring j) 0) 𝟘 (only 𝓡 (eqb (piece_rank s.counts s.wiring j) k) (exact_of 𝓡 W unit))

    only_none : (b : Bool) → 𝟘 ≡ only 𝓡 b 𝟘
    unfolding only
    only_none true = refl
    only_none false = refl

    piece_cost : (b : Bool) (j : ℕ) (a : Place)
        → sum 𝓡 (λ (q : Place × Form). only 𝓡 (same_place q.0 a) (exact_of 𝓡 W q.1)) (cond b [] (((Cost, piece_rank s.counts s.wiring j), unit) ∷ []))
        ≡ only 𝓡 (eqb (rank Cost) (rank a.0)) (cond b 𝟘 (only 𝓡 (eqb (piece_rank s.counts s.wiring j) a.1) (exact_of 𝓡 W unit)))
    unfolding sum
    piece_cost true j a = only_none (eqb (rank Cost) (rank a.0))
    piece_cost false j a = add_zero 𝓡 _ ∙ only_both 𝓡 (eqb (rank Cost) (rank a.0)) (eqb (piece_rank s.counts s.wiring j) a.1) (exact_of 𝓡 W unit)

    costs_at : (a : Place) → Costs a
        ≡ only 𝓡 (eqb (rank Pg) (rank a.0)) (total 𝓡 (λ j. only 𝓡 (eqb j a.1) (exact_of 𝓡 W (rd Cl j))) s.counts.generators)
        + (only 𝓡 (eqb (rank Psh) (rank a.0)) (total 𝓡 (λ i. only 𝓡 (eqb i a.1) (exact_of 𝓡 W (rd CShed i))) s.counts.buses)
        + only 𝓡 (eqb (rank Cost) (rank a.0)) (total 𝓡 (priced a.1) s.counts.generators))
    costs_at a =
        sum_append 𝓡 _ _ _
        ∙ ap₂ ◌+◌ (sum_singles 𝓡 _ _ (λ j. ((Pg, j), rd Cl j)) ∙ of_block 𝓡 Pg (λ j. j) _ _ a)
        (sum_append 𝓡 _ _ _
        ∙ ap₂ ◌+◌ (sum_singles 𝓡 _ _ (λ i. ((Psh, i), rd CShed i)) ∙ of_block 𝓡 Psh (λ i. i) _ _ a)
        (sum_each 𝓡 _ _ _ ∙ total_same 𝓡 _ _ _ (λ j l. piece_cost (eqb (segments_at s.counts s.wiring j) 0) j a) ∙ total_only 𝓡 _ _ _))

    costs_angle : (j : ℕ) → Costs (Va, j) ≡ 𝟘
    unfolding only
    costs_angle j = costs_at (Va, j) ∙ simp units

    costs_flow : (e : ℕ) → Costs (Flow, e) ≡ 𝟘
    unfolding only
    costs_flow e = costs_at (Flow, e) ∙ simp units

    costs_dispatch : (j : ℕ) → j < s.counts.generators → Costs (Pg, j) ≡ exact_of 𝓡 W (rd Cl j)
    unfolding only
    costs_dispatch j l = costs_at (Pg, j) ∙ simp units (total_point 𝓡 (λ k. exact_of 𝓡 W (rd Cl k)) j _ l)

    costs_shed : (i : ℕ) → i < s.counts.buses → Costs (Psh, i) ≡ exact_of 𝓡 W (rd CShed i)
    unfolding only
    costs_shed i l = costs_at (Psh, i) ∙ simp units (total_point 𝓡 (λ k. exact_of 𝓡 W (rd CShed k)) i _ l)

    -- no other generator has the same cost variable
    priced_other : (i j : ℕ) → (i ≡ j → ⊥) → 0 < segments_at s.counts s.wiring j → priced (piece_rank s.counts s.wiring j) i ≡ 𝟘
    priced_other i j d m = go (eqb (segments_at s.counts s.wiring i) 0) refl
      where
        go : (b : Bool) → eqb (segments_at s.counts s.wiring i) 0 ≡ b
            → cond b 𝟘 (only 𝓡 (eqb (piece_rank s.counts s.wiring i) (piece_rank s.counts s.wiring j)) (exact_of 𝓡 W unit)) ≡ 𝟘
        go true e = refl
        go false e = only_off 𝓡 _ _ (pieces_apart 𝓡 W h W.unknown s i j 0 d (above_none_lem _ e) m)

    priced_own : (j : ℕ) → 0 < segments_at s.counts s.wiring j → priced (piece_rank s.counts s.wiring j) j ≡ exact_of 𝓡 W unit
    priced_own j m = rw (ne_eqb (segments_at s.counts s.wiring j) 0 (λ e. omega arith)) (only_on 𝓡 _ _ (eqb_own (piece_rank s.counts s.wiring j)))

    costs_cost : (j : ℕ) → j < s.counts.generators → 0 < segments_at s.counts s.wiring j → Costs (Cost, piece_rank s.counts s.wiring j) ≡ exact_of 𝓡 W unit
    unfolding only
    costs_cost j l m =
        costs_at (Cost, piece_rank s.counts s.wiring j)
        ∙ simp units (total_at 𝓡 _ j _ l (λ i k d. priced_other i j d m) ∙ priced_own j m)

    costs_none : (a : Place) → 4 < rank a.0 → Costs a ≡ 𝟘
    costs_none a l =
        costs_at a
        ∙ ap₂ ◌+◌ (only_off 𝓡 _ _ (ne_eqb (rank Pg) (rank a.0) (λ e. omega arith)))
        (ap₂ ◌+◌ (only_off 𝓡 _ _ (ne_eqb (rank Psh) (rank a.0) (λ e. omega arith))) (only_off 𝓡 _ _ (ne_eqb (rank Cost) (rank a.0) (λ e. omega arith))))
        ∙ simp units

    -- ---- the program's residual

    book : (a : Place) → book_residual 𝓡 W (program s) a ≡ Curved 𝓡 W W.unknown h s a + Costs a + sum 𝓡 (Part 𝓡 W W.unknown Ours a) (constraints s)
    unfolding program
    book a =
        ap₂ (λ (x y : A). x + Costs a + y) (sum_singles 𝓡 _ s.counts.generators (λ j. ((Pg, j), (Pg, j), num (whole 2) ⊗ rd Cq j)))
        (sum_alike 𝓡 _ _ (part a) (constraints s))

    variable_ring : (x y z : A) → x + y + z ≡ x + z + y
    variable_ring x y z = simp ring

    -- at a variable: the matrix's row times x, and the cost
    pub book_at_variable : (a : Place) → rank a.0 < 5 → book_residual 𝓡 W (program s) a ≡ applied 𝓡 W W.unknown (matrix_of (program s)) a + Costs a
    book_at_variable a l =
        book a
        ∙ ap (λ (m : A). Curved 𝓡 W W.unknown h s a + Costs a + m) (at_variable 𝓡 W W.unknown Ours a (sided s) l)
        ∙ variable_ring _ _ _
        ∙ ap (λ (m : A). m + Costs a) (sym (matrix_at_variable 𝓡 W W.unknown h s a l))

    multiplier_ring : (x : A) → 𝟘 + 𝟘 + x ≡ x
    multiplier_ring x = simp units

    -- at a multiplier: its constraint's own row
    pub book_at_multiplier : (a : Place) → 4 < rank a.0 → book_residual 𝓡 W (program s) a ≡ sum 𝓡 (Own 𝓡 s Ours a) (constraints s)
    book_at_multiplier a l =
        book a
        ∙ ap₂ (λ (x y : A). x + y + sum 𝓡 (Part 𝓡 W W.unknown Ours a) (constraints s)) (curved_none 𝓡 W W.unknown h s a l) (costs_none a l)
        ∙ multiplier_ring _
        ∙ at_multiplier 𝓡 W W.unknown Ours a (sided s) l

    -- ---- every row

    variable : (a : Place) (x : Form) (k : A) → rank a.0 < 5 → Affine 𝓡 W x k → derivative 𝓡 W W.unknown x ≡ applied 𝓡 W W.unknown (matrix_of (program s)) a → Costs a ≡ k
        → exact_of 𝓡 W x ≡ book_residual 𝓡 W (program s) a
    variable a x k l f e c = f.value ∙ ap₂ ◌+◌ e (sym c) ∙ sym (book_at_variable a l)

    balanced : (x : Form) (m k : A) → Affine 𝓡 W x k → derivative 𝓡 W W.unknown x ≡ m → exact_of 𝓡 W x ≡ m + k
    balanced x m k f e = f.value ∙ ap (λ (y : A). y + k) e

    shed_lowers : (b : Bool) (i : ℕ) → exact_of 𝓡 W (residualRow (cond b (shed_none s i) (shed_floor s i)) (var (Psh, i))).1 ≡ Ours (cond b (shed_none s i) (shed_floor s i))
    shed_lowers true i = balanced _ _ _ (alone_affine 𝓡 W h s (Psh, i)) (shed_lower_lem 𝓡 W h W.unknown s true i)
    shed_lowers false i = centred _ _ _ _ (shed_floor_slack 𝓡 W h W.unknown s i) (shed_floor_affine 𝓡 W h s i)

    spare_exact : (p : Place) → exact_of 𝓡 W (var p) ≡ W.unknown p
    unfolding exact_of
    spare_exact p = refl

    shed_uppers : (b : Bool) (i : ℕ) → exact_of 𝓡 W (residualRow (cond b (shed_spare s i) (shed_ceiling s i)) none).1 ≡ Ours (cond b (shed_spare s i) (shed_ceiling s i))
    shed_uppers true i = spare_exact (MuUb, i)
    shed_uppers false i = centred _ _ _ _ (shed_ceiling_slack 𝓡 W h W.unknown s i) (shed_ceiling_affine 𝓡 W h s i)

    module _ (g : Wired s.counts s.wiring) where
      agreement : Agreement 𝓡 s (exact_of 𝓡 W) (book_residual 𝓡 W (program s)) Ours
      agreement = record {
        own = book_at_multiplier;
        angles = λ j l. variable (Va, j) _ _ (lit< tt) (angle_row_linear 𝓡 W h s j) (angle_row_lem 𝓡 W h W.unknown s g j l) (costs_angle j);
        dispatches = λ j l. variable (Pg, j) _ _ (lit< tt) (dispatch_affine 𝓡 W h s j) (dispatch_row_lem 𝓡 W h W.unknown s g j l) (costs_dispatch j l);
        flows = λ e l. variable (Flow, e) _ _ (lit< tt) (flow_row_linear 𝓡 W h s e) (flow_row_lem 𝓡 W h W.unknown s e l) (costs_flow e);
        sheds = λ i l. variable (Psh, i) _ _ (lit< tt) (shed_affine 𝓡 W h s i) (shed_row_lem 𝓡 W h W.unknown s i l) (costs_shed i l);
        costs = λ j l m. variable (Cost, piece_rank s.counts s.wiring j) _ _ (lit< tt) (cost_affine 𝓡 W h s j) (cost_row_lem 𝓡 W h W.unknown s j l m) (costs_cost j l m);
        flow_floors = λ e. centred _ _ _ _ (flow_floor_slack 𝓡 W h W.unknown s e) (flow_floor_affine 𝓡 W h s e);
        flow_ceilings = λ e. centred _ _ _ _ (flow_ceiling_slack 𝓡 W h W.unknown s e) (flow_ceiling_affine 𝓡 W h s e);
        angle_floors = λ e. centred _ _ _ _ (angle_floor_slack 𝓡 W h W.unknown s e) (angle_floor_affine 𝓡 W h s e);
        angle_ceilings = λ e. centred _ _ _ _ (angle_ceiling_slack 𝓡 W h W.unknown s e) (angle_ceiling_affine 𝓡 W h s e);
        generator_floors = λ j. centred _ _ _ _ (generator_floor_slack 𝓡 W h W.unknown s j) (generator_floor_affine 𝓡 W h s j);
        generator_ceilings = λ j. centred _ _ _ _ (generator_ceiling_slack 𝓡 W h W.unknown s j) (generator_ceiling_affine 𝓡 W h s j);
        shed_lowers = shed_lowers;
        shed_uppers = shed_uppers;
        segment_rows = λ j t. centred _ _ _ _ (segment_slack_lem 𝓡 W h W.unknown s j t) (segment_affine 𝓡 W h s j t);
        row_ceilings = λ q x. centred _ _ _ _ (ceiling_slack 𝓡 W h W.unknown s q) (row_ceiling_affine 𝓡 W h s q);
        row_floors = λ q x. centred _ _ _ _ (floor_slack 𝓡 W h W.unknown s q) (row_floor_affine 𝓡 W h s q);
        row_levels = λ q x. balanced _ _ _ (level_affine 𝓡 W h s q) (row_level_lem 𝓡 W h W.unknown s q x);
        balances = λ i. balanced _ _ _ (balance_affine 𝓡 W h s i) (balance_row_lem 𝓡 W h W.unknown s g i);
        flow_laws = λ e. balanced _ _ _ (flow_law_affine 𝓡 W h s e) (flow_law_lem 𝓡 W h W.unknown s e);
        references = λ k. balanced _ _ _ (alone_affine 𝓡 W h s _) (reference_row_lem 𝓡 W h W.unknown s k);
      }

  pub residual_is_the_books : Sound 𝓡 W → (s : Site) → Wired s.counts s.wiring → ResidualIs 𝓡 W s
  residual_is_the_books h s g = all_rows 𝓡 s (exact_of 𝓡 W) (book_residual 𝓡 W (program s)) Ours (agreement h s g)
