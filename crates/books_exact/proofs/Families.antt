-- The manual's constraints by families: a sum over all of them is the sum of the families' sums; each multiplier is a dual unknown and each gradient names variables only.
-- Main definitions: `Sided`, `side`. Main results: `families`, `sided`, `matrix_at_variable`, `matrix_at_multiplier`, `multipliers`. Assumes nothing.
use mathlib.Core.Path.{◌≡◌, refl, sym, ap, ap₂, ◌∙◌}
use mathlib.Core.Bool.{Bool, true, false, cond, ◌&&◌}
use mathlib.Core.List.{List, ◌++◌}
use mathlib.Mathlib.Algebra.Ring.Defs.{CommRing}
use Prim.Native.Nat.{ℕ, zero, suc, ◌+◌ as ◌plus◌, ◌<◌}
use native.Mathlib.Nat.{add-zero as plus-zero}
use native.Mathlib.Omega.{arith}
use lib.Dec.{eqb, lit<}
use lib.Ieee.{Float}
use borrow.Author.Tests.{ne_eqb}
use Rattle.float64.specs.Values.{whole}
use Rattle.sequence.specs.Facts.{All}
use Rattle.sequence.specs.Facts.All.{done, ◌&◌}
use Rattle.sequence.proofs.Facts.{all_append, all_each, all_when}
use Rattle.network.specs.declared.Field.TheVariants.{Cq}
use Rattle.network.specs.Layout.{segments_at, segment_start}
use Rattle.kkt_index.specs.declared.Block.{Block}
use Rattle.kkt_index.specs.declared.Block.TheVariants.{Pg, LamLb, LamUb, GammaLb, GammaUb, RhoLb, RhoUb, MuLb, MuUb, Segments, Linear, NuBal, NuFlow, Eta}
use Rattle.kkt_index.specs.Index.{Shape, rank, width}
use Rattle.kkt_index.specs.Index.Shape.{free, upper_only, lower_only, two_sided, equality}
use Rattle.exact.specs.Ring.{sum, total, only}
use Rattle.exact.proofs.Sums.{zero_add, add_zero, zero_mul, total_same}
use Rattle.books.specs.Forms.{Place, Form}
use Rattle.books.specs.Forms.Form.{num, rd, ◌⊗◌}
use Rattle.books.specs.Convex.{Gradient, Kind, Constraint, matrix_of}
use Rattle.books.specs.Convex.Kind.{at_most, equal, vacant}
use Rattle.books.specs.Convex.Convention.{straight, turned}
use Rattle.books.specs.Manual.{Site, program, constraints, balance, flow_law, reference, flow_floor, flow_ceiling, generator_floor, generator_ceiling, shed_none, shed_floor, shed_spare, shed_ceiling, shed_lower, shed_upper, angle_floor, angle_ceiling, segment, segments, row_terms, turned_num, row_ceiling, row_floor, row_level, row_constraints, row_start}
use Rattle.books.specs.Matrix.{same_place}
use Rattle.books_exact.specs.Exact.{World, Sound, exact_of}
use Rattle.books_exact.proofs.Laws.{neg_zero}
use Rattle.books_exact.proofs.Sums.{sum_append, sum_each, sum_singles, only_both, only_off, total_only}
use Rattle.books_exact.proofs.Applied.{applied, row_of, coefficient, column_part, column_of, matrix_applied}

-- ---- multipliers and variables

-- the multiplier is a dual unknown, and the gradient's places are variables
abbrev pub Sided : Constraint → Type 0
Sided c = (4 < rank c.multiplier.0) × All (λ (x : Place × Form). rank x.0.0 < 5) c.gradient

module _ (s : Site) where
  row_terms_sided : (sign : Float → Form) (q : ℕ) → All (λ (x : Place × Form). rank x.0.0 < 5) (row_terms s sign q)
  row_terms_sided sign q = all_append (all_each _ (λ t l. lit< tt & done)) (all_each _ (λ t l. lit< tt & done))

  balance_sided : (i : ℕ) → Sided (balance s i)
  balance_sided i = (lit< tt, all_append (all_each _ (λ j l. lit< tt & done)) (all_append (all_each _ (λ j l. all_when _ (lit< tt & done))) (lit< tt & done)))

  shed_lower_sided : (b : Bool) (i : ℕ) → Sided (cond b (shed_none s i) (shed_floor s i))
  shed_lower_sided true i = (lit< tt, lit< tt & done)
  shed_lower_sided false i = (lit< tt, lit< tt & done)

  shed_upper_sided : (b : Bool) (i : ℕ) → Sided (cond b (shed_spare s i) (shed_ceiling s i))
  shed_upper_sided true i = (lit< tt, lit< tt & done)
  shed_upper_sided false i = (lit< tt, lit< tt & done)

  ceiling_sided : (q x : ℕ) → Sided (row_ceiling s q x)
  ceiling_sided q x = (lit< tt, row_terms_sided num q)

  floor_sided : (q x : ℕ) → Sided (row_floor s q x)
  floor_sided q x = (lit< tt, row_terms_sided (turned_num s) q)

  rows_sided : (h : Shape) (q x : ℕ) → All Sided (row_constraints s h q x)
  rows_sided free q x = done
  rows_sided upper_only q x = ◌&◌ {x = row_ceiling s q x} (ceiling_sided q x) done
  rows_sided lower_only q x = ◌&◌ {x = row_floor s q x} (floor_sided q x) done
  rows_sided two_sided q x = ◌&◌ {x = row_ceiling s q x} (ceiling_sided q x) (◌&◌ {x = row_floor s q (x plus 1)} (floor_sided q (x plus 1)) done)
  rows_sided equality q x = ◌&◌ {x = row_level s q x} (lit< tt, row_terms_sided num q) done

  pub sided : All Sided (constraints s)
  unfolding constraints
  sided =
      all_append (all_each _ (λ i l. balance_sided i & done))
      (all_append (all_each _ (λ e l. (lit< tt, lit< tt & lit< tt & lit< tt & done) & done))
      (all_append (all_each _ (λ k l. (lit< tt, lit< tt & done) & done))
      (all_append (all_each _ (λ e l. (lit< tt, lit< tt & done) & done))
      (all_append (all_each _ (λ e l. (lit< tt, lit< tt & done) & done))
      (all_append (all_each _ (λ j l. (lit< tt, lit< tt & done) & done))
      (all_append (all_each _ (λ j l. (lit< tt, lit< tt & done) & done))
      (all_append (all_each _ (λ i l. shed_lower_sided (s.fixed i) i & done))
      (all_append (all_each _ (λ i l. shed_upper_sided (s.fixed i) i & done))
      (all_append (all_each _ (λ e l. (lit< tt, lit< tt & lit< tt & done) & done))
      (all_append (all_each _ (λ e l. (lit< tt, lit< tt & lit< tt & done) & done))
      (all_append (all_each _ (λ j l. all_each _ (λ t m. (lit< tt, lit< tt & lit< tt & done) & done)))
      (all_each _ (λ q l. rows_sided (s.shapes q) q (row_start s q))))))))))))))

  -- constraint t of linear row q, whose first is of rank x
  abbrev pub side : Shape → ℕ → ℕ → ℕ → Constraint
  side free q x t = row_level s q (x plus t)
  side upper_only q x t = row_ceiling s q (x plus t)
  side lower_only q x t = row_floor s q (x plus t)
  side two_sided q x zero = row_ceiling s q (x plus zero)
  side two_sided q x (suc t) = row_floor s q (x plus suc t)
  side equality q x t = row_level s q (x plus t)

module _ {A : Type 0} (𝓡 : CommRing A) where
  open 𝓡 use {add as ◌+◌, mul as ◌*◌, neg as less, zero as 𝟘, one as 𝟙}

  infixl 65 ◌+◌
  infixl 70 ◌*◌
  -- ---- the families

  module _ (s : Site) (F : Constraint → A) where
    joined : {x y : A} (k l : List Constraint) → sum 𝓡 F k ≡ x → sum 𝓡 F l ≡ y → sum 𝓡 F (k ++ l) ≡ x + y
    joined k l p q = sum_append 𝓡 F k l ∙ ap₂ ◌+◌ p q

    pub families : sum 𝓡 F (constraints s)
        ≡ total 𝓡 (λ i. F (balance s i)) s.counts.buses
        + (total 𝓡 (λ e. F (flow_law s e)) s.counts.branches
        + (total 𝓡 (λ k. F (reference s k)) s.counts.references
        + (total 𝓡 (λ e. F (flow_floor s e)) s.counts.branches
        + (total 𝓡 (λ e. F (flow_ceiling s e)) s.counts.branches
        + (total 𝓡 (λ j. F (generator_floor s j)) s.counts.generators
        + (total 𝓡 (λ j. F (generator_ceiling s j)) s.counts.generators
        + (total 𝓡 (λ i. F (shed_lower s i)) s.counts.buses
        + (total 𝓡 (λ i. F (shed_upper s i)) s.counts.buses
        + (total 𝓡 (λ e. F (angle_floor s e)) s.counts.branches
        + (total 𝓡 (λ e. F (angle_ceiling s e)) s.counts.branches
        + (total 𝓡 (λ j. total 𝓡 (λ t. F (segment s j t)) (segments_at s.counts s.wiring j)) s.counts.generators
        + total 𝓡 (λ q. sum 𝓡 F (row_constraints s (s.shapes q) q (row_start s q))) s.counts.rows)))))))))))
    unfolding constraints
    families =
        joined _ _ (sum_singles 𝓡 F _ (balance s))
        (joined _ _ (sum_singles 𝓡 F _ (flow_law s))
        (joined _ _ (sum_singles 𝓡 F _ (reference s))
        (joined _ _ (sum_singles 𝓡 F _ (flow_floor s))
        (joined _ _ (sum_singles 𝓡 F _ (flow_ceiling s))
        (joined _ _ (sum_singles 𝓡 F _ (generator_floor s))
        (joined _ _ (sum_singles 𝓡 F _ (generator_ceiling s))
        (joined _ _ (sum_singles 𝓡 F _ (shed_lower s))
        (joined _ _ (sum_singles 𝓡 F _ (shed_upper s))
        (joined _ _ (sum_singles 𝓡 F _ (angle_floor s))
        (joined _ _ (sum_singles 𝓡 F _ (angle_ceiling s))
        (joined _ _ (sum_each 𝓡 F _ (segments s) ∙ total_same 𝓡 _ _ _ (λ j l. sum_singles 𝓡 F _ (segment s j)))
        (sum_each 𝓡 F _ (λ q. row_constraints s (s.shapes q) q (row_start s q))))))))))))))

  -- ---- each multiplier's own row

  -- a family whose multipliers are block B's at k 0, k 1, ..
  pub of_block : (B : Block) (k : ℕ → ℕ) (F : ℕ → A) (n : ℕ) (a : Place)
      → total 𝓡 (λ i. only 𝓡 (same_place (B, k i) a) (F i)) n ≡ only 𝓡 (eqb (rank B) (rank a.0)) (total 𝓡 (λ i. only 𝓡 (eqb (k i) a.1) (F i)) n)
  of_block B k F n a = total_same 𝓡 _ _ n (λ i l. only_both 𝓡 (eqb (rank B) (rank a.0)) (eqb (k i) a.1) (F i)) ∙ total_only 𝓡 (eqb (rank B) (rank a.0)) _ n

  module _ (s : Site) (F : Constraint → A) (a : Place) where
    -- the values of the constraints whose multiplier is a
    abbrev pub Own : Constraint → A
    Own c = only 𝓡 (same_place c.multiplier a) (F c)

    own_lower : (b : Bool) (i : ℕ) → Own (cond b (shed_none s i) (shed_floor s i)) ≡ only 𝓡 (same_place (MuLb, i) a) (F (cond b (shed_none s i) (shed_floor s i)))
    own_lower true i = refl
    own_lower false i = refl

    own_upper : (b : Bool) (i : ℕ) → Own (cond b (shed_spare s i) (shed_ceiling s i)) ≡ only 𝓡 (same_place (MuUb, i) a) (F (cond b (shed_spare s i) (shed_ceiling s i)))
    own_upper true i = refl
    own_upper false i = refl

    own_rows : (h : Shape) (q x : ℕ) → sum 𝓡 Own (row_constraints s h q x) ≡ total 𝓡 (λ t. only 𝓡 (same_place (Linear, x plus t) a) (F (side s h q x t))) (width h)
    unfolding sum total
    own_rows free q x = refl
    own_rows upper_only q x = rw plus-zero (add_zero 𝓡 _ ∙ sym (zero_add 𝓡 _))
    own_rows lower_only q x = rw plus-zero (add_zero 𝓡 _ ∙ sym (zero_add 𝓡 _))
    own_rows two_sided q x = rw plus-zero (ap₂ ◌+◌ (sym (zero_add 𝓡 _)) (add_zero 𝓡 _))
    own_rows equality q x = rw plus-zero (add_zero 𝓡 _ ∙ sym (zero_add 𝓡 _))

    pub multipliers : sum 𝓡 Own (constraints s)
        ≡ only 𝓡 (eqb (rank NuBal) (rank a.0)) (total 𝓡 (λ i. only 𝓡 (eqb i a.1) (F (balance s i))) s.counts.buses)
        + (only 𝓡 (eqb (rank NuFlow) (rank a.0)) (total 𝓡 (λ e. only 𝓡 (eqb e a.1) (F (flow_law s e))) s.counts.branches)
        + (only 𝓡 (eqb (rank Eta) (rank a.0)) (total 𝓡 (λ k. only 𝓡 (eqb k a.1) (F (reference s k))) s.counts.references)
        + (only 𝓡 (eqb (rank LamLb) (rank a.0)) (total 𝓡 (λ e. only 𝓡 (eqb e a.1) (F (flow_floor s e))) s.counts.branches)
        + (only 𝓡 (eqb (rank LamUb) (rank a.0)) (total 𝓡 (λ e. only 𝓡 (eqb e a.1) (F (flow_ceiling s e))) s.counts.branches)
        + (only 𝓡 (eqb (rank RhoLb) (rank a.0)) (total 𝓡 (λ j. only 𝓡 (eqb j a.1) (F (generator_floor s j))) s.counts.generators)
        + (only 𝓡 (eqb (rank RhoUb) (rank a.0)) (total 𝓡 (λ j. only 𝓡 (eqb j a.1) (F (generator_ceiling s j))) s.counts.generators)
        + (only 𝓡 (eqb (rank MuLb) (rank a.0)) (total 𝓡 (λ i. only 𝓡 (eqb i a.1) (F (shed_lower s i))) s.counts.buses)
        + (only 𝓡 (eqb (rank MuUb) (rank a.0)) (total 𝓡 (λ i. only 𝓡 (eqb i a.1) (F (shed_upper s i))) s.counts.buses)
        + (only 𝓡 (eqb (rank GammaLb) (rank a.0)) (total 𝓡 (λ e. only 𝓡 (eqb e a.1) (F (angle_floor s e))) s.counts.branches)
        + (only 𝓡 (eqb (rank GammaUb) (rank a.0)) (total 𝓡 (λ e. only 𝓡 (eqb e a.1) (F (angle_ceiling s e))) s.counts.branches)
        + (only 𝓡 (eqb (rank Segments) (rank a.0))
        (total 𝓡 (λ j. total 𝓡 (λ t. only 𝓡 (eqb (segment_start s.counts s.wiring j plus t) a.1) (F (segment s j t))) (segments_at s.counts s.wiring j)) s.counts.generators)
        + only 𝓡 (eqb (rank Linear) (rank a.0))
        (total 𝓡 (λ q. total 𝓡 (λ t. only 𝓡 (eqb (row_start s q plus t) a.1) (F (side s (s.shapes q) q (row_start s q) t))) (width (s.shapes q))) s.counts.rows))))))))))))
    multipliers =
        families s Own
        ∙ ap₂ ◌+◌ (of_block NuBal (λ i. i) _ _ a)
        (ap₂ ◌+◌ (of_block NuFlow (λ i. i) _ _ a)
        (ap₂ ◌+◌ (of_block Eta (λ i. i) _ _ a)
        (ap₂ ◌+◌ (of_block LamLb (λ i. i) _ _ a)
        (ap₂ ◌+◌ (of_block LamUb (λ i. i) _ _ a)
        (ap₂ ◌+◌ (of_block RhoLb (λ i. i) _ _ a)
        (ap₂ ◌+◌ (of_block RhoUb (λ i. i) _ _ a)
        (ap₂ ◌+◌ (total_same 𝓡 _ _ _ (λ i l. own_lower (s.fixed i) i) ∙ of_block MuLb (λ i. i) _ _ a)
        (ap₂ ◌+◌ (total_same 𝓡 _ _ _ (λ i l. own_upper (s.fixed i) i) ∙ of_block MuUb (λ i. i) _ _ a)
        (ap₂ ◌+◌ (of_block GammaLb (λ i. i) _ _ a)
        (ap₂ ◌+◌ (of_block GammaUb (λ i. i) _ _ a)
        (ap₂ ◌+◌ (total_same 𝓡 _ _ _ (λ j l. of_block Segments (λ t. segment_start s.counts s.wiring j plus t) _ _ a) ∙ total_only 𝓡 _ _ _)
        (total_same 𝓡 _ _ _ (λ q l. own_rows (s.shapes q) q (row_start s q) ∙ of_block Linear (λ t. row_start s q plus t) _ _ a) ∙ total_only 𝓡 _ _ _))))))))))))

  -- ---- rows of variables, and rows of multipliers

  module _ (W : World A) (v : Place → A) where
    coefficient_none : {g : Gradient} (a : Place) → All (λ (x : Place × Form). rank x.0.0 < 5) g → 4 < rank a.0 → coefficient 𝓡 W g a ≡ 𝟘
    unfolding sum only
    coefficient_none a done l = refl
    coefficient_none a (◌&◌ {x = x} h hs) l =
        ap₂ ◌+◌ (ap (λ (b : Bool). only 𝓡 (b && eqb x.0.1 a.1) (exact_of 𝓡 W x.1)) (ne_eqb (rank x.0.0) (rank a.0) (λ e. omega arith))) (coefficient_none a hs l)
        ∙ zero_add 𝓡 𝟘

    column_none : (k : Kind) (z : A) → column_part 𝓡 W k 𝟘 * z ≡ 𝟘
    column_none (at_most s) z = zero_mul 𝓡 z
    column_none (equal straight) z = zero_mul 𝓡 z
    column_none (equal turned) z = ap (λ (m : A). m * z) (neg_zero 𝓡) ∙ zero_mul 𝓡 z
    column_none vacant z = zero_mul 𝓡 z

    module _ (F : Constraint → A) where
      -- a constraint's part in row a: F in its multiplier's row, and its column
      abbrev pub Part : Place → Constraint → A
      Part a c = only 𝓡 (same_place c.multiplier a) (F c) + column_of 𝓡 W c a * v c.multiplier

      pub at_variable : {cs : List Constraint} (a : Place) → All Sided cs → rank a.0 < 5 → sum 𝓡 (Part a) cs ≡ sum 𝓡 (λ (c : Constraint). column_of 𝓡 W c a * v c.multiplier) cs
      unfolding sum only
      at_variable a done l = refl
      at_variable a (◌&◌ {x = c} h hs) l =
          ap₂ ◌+◌
          (ap (λ (b : Bool). only 𝓡 (b && eqb c.multiplier.1 a.1) (F c) + column_of 𝓡 W c a * v c.multiplier)
          (ne_eqb (rank c.multiplier.0) (rank a.0) (λ e. omega (arith, h.0)))
          ∙ zero_add 𝓡 _)
          (at_variable a hs l)

      pub at_multiplier : {cs : List Constraint} (a : Place) → All Sided cs → 4 < rank a.0
          → sum 𝓡 (Part a) cs ≡ sum 𝓡 (λ (c : Constraint). only 𝓡 (same_place c.multiplier a) (F c)) cs
      unfolding sum
      at_multiplier a done l = refl
      at_multiplier a (◌&◌ {x = c} h hs) l =
          ap₂ ◌+◌
          (ap (λ (m : A). only 𝓡 (same_place c.multiplier a) (F c) + m)
          (ap (λ (m : A). column_part 𝓡 W c.kind m * v c.multiplier) (coefficient_none a h.1 l) ∙ column_none c.kind (v c.multiplier))
          ∙ add_zero 𝓡 _)
          (at_multiplier a hs l)

    module _ (h : Sound 𝓡 W) (s : Site) where
      -- the quadratic costs at row a
      abbrev pub Curved : Place → A
      Curved a = total 𝓡 (λ j. only 𝓡 (same_place (Pg, j) a) (exact_of 𝓡 W (num (whole 2) ⊗ rd Cq j) * v (Pg, j))) s.counts.generators

      pub curved_none : (a : Place) → 4 < rank a.0 → Curved a ≡ 𝟘
      curved_none a l = of_block Pg (λ j. j) _ _ a ∙ only_off 𝓡 _ _ (ne_eqb (rank Pg) (rank a.0) (λ e. omega arith))

      whole_matrix : (a : Place) → applied 𝓡 W v (matrix_of (program s)) a ≡ Curved a + sum 𝓡 (Part (row_of 𝓡 W v) a) (constraints s)
      unfolding program
      whole_matrix a =
          matrix_applied 𝓡 W h v (program s) a
          ∙ ap (λ (m : A). m + sum 𝓡 (Part (row_of 𝓡 W v) a) (constraints s)) (sum_singles 𝓡 _ s.counts.generators (λ j. ((Pg, j), (Pg, j), num (whole 2) ⊗ rd Cq j)))

      pub matrix_at_variable : (a : Place) → rank a.0 < 5
          → applied 𝓡 W v (matrix_of (program s)) a ≡ Curved a + sum 𝓡 (λ (c : Constraint). column_of 𝓡 W c a * v c.multiplier) (constraints s)
      matrix_at_variable a l = whole_matrix a ∙ ap (λ (m : A). Curved a + m) (at_variable (row_of 𝓡 W v) a (sided s) l)

      pub matrix_at_multiplier : (a : Place) → 4 < rank a.0
          → applied 𝓡 W v (matrix_of (program s)) a ≡ sum 𝓡 (λ (c : Constraint). only 𝓡 (same_place c.multiplier a) (row_of 𝓡 W v c)) (constraints s)
      matrix_at_multiplier a l =
          whole_matrix a
          ∙ ap₂ ◌+◌ (curved_none a l) (at_multiplier (row_of 𝓡 W v) a (sided s) l)
          ∙ zero_add 𝓡 _
