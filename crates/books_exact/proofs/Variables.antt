-- The matrix's row at a variable: of each family the multipliers that its gradients bring there, block by block.
-- Main results: `at_angle`, `at_dispatch`, `at_flow`, `at_shed`, `at_cost`. Assumes nothing.
use mathlib.Core.Path.{◌≡◌, refl, sym, ap, ap₂, ◌∙◌}
use mathlib.Core.Bool.{Bool, true, false, cond, ◌&&◌}
use mathlib.Mathlib.Algebra.Ring.Defs.{CommRing}
use Prim.Native.Nat.{ℕ, ◌+◌ as ◌plus◌, ◌<◌}
use native.Mathlib.Omega.{arith}
use lib.Dec.{eqb, lit<}
use borrow.Author.Tests.{ne_eqb}
use Rattle.float64.specs.Values.{one, whole}
use Rattle.sequence.proofs.Lists.{before_apart}
use Rattle.network.specs.declared.Part.TheVariants.{GenBus, References, FlowTerms, GenerationTerms}
use Rattle.network.specs.declared.Field.TheVariants.{Sw, Cq, Slopes}
use Rattle.network.specs.Layout.{wire, segments_at, segment_start}
use Rattle.network.specs.Numbers.{Wired}
use Rattle.solution.specs.Sheet.{piece, piece_rank}
use Rattle.kkt_index.specs.declared.Block.{Block}
use Rattle.kkt_index.specs.declared.Block.TheVariants.{Va, Pg, Flow, Psh, Cost, LamLb, LamUb, GammaLb, GammaUb, RhoLb, RhoUb, MuLb, MuUb, Segments, Linear, NuBal, NuFlow, Eta}
use Rattle.kkt_index.specs.Index.{Shape, rank}
use Rattle.kkt_index.specs.Index.Shape.{free, upper_only, lower_only, two_sided, equality}
use Rattle.exact.specs.Ring.{sum, total, only}
use Rattle.exact.proofs.Sums.{total_same, total_add, total_one}
use Rattle.books.specs.Forms.{Place, Form, unit}
use Rattle.books.specs.Forms.Form.{num, rd, minus, ◌⊗◌}
use Rattle.books.specs.Convex.{Constraint, matrix_of}
use Rattle.books.specs.Manual.{Site, program, constraints, from, to, weight, bbus, balance, flow_law, reference, flow_floor, flow_ceiling, generator_floor, generator_ceiling, shed_none, shed_floor, shed_spare, shed_ceiling, angle_floor, angle_ceiling, segment, term_coefficient, term_index, flow_term, generation_term, row_terms, turned_num, row_constraints, row_start}
use Rattle.books.specs.Matrix.{same_place}
use Rattle.books_exact.specs.Exact.{World, Sound, exact_of}
use Rattle.books_exact.proofs.Laws.{units, ring, neg_add}
use Rattle.books_exact.proofs.Sums.{eqb_own, sum_append, sum_singles, sum_each, sum_when, sum_one, only_mark, only_both, only_neg, only_on, only_off, total_none, total_neg, total_only, total_at, total_point}
use Rattle.books_exact.proofs.Applied.{applied, coefficient, column_of}
use Rattle.books_exact.proofs.Families.{families, of_block, matrix_at_variable}
use Rattle.books_exact.proofs.Branches.{incidence, bbus_column}

module _ {A : Type 0} (𝓡 : CommRing A) (W : World A) (h : Sound 𝓡 W) (v : Place → A) (s : Site) where
  open 𝓡 use {add as ◌+◌, mul as ◌*◌, neg as less, zero as 𝟘, one as 𝟙}

  infixl 65 ◌+◌
  infixl 70 ◌*◌
  -- ---- one constraint's column at row a, times its multiplier

  abbrev Column : Place → Constraint → A
  Column a c = column_of 𝓡 W c a * v c.multiplier

  one_ring : (p : Bool) (o z : A) → o ≡ 𝟙 → (only 𝓡 p o + 𝟘) * z ≡ only 𝓡 p z
  one_ring p o z e = simp (only_mark, e, ring)

  less_ring : (p : Bool) (o z : A) → o ≡ 𝟙 → (only 𝓡 p (less o) + 𝟘) * z ≡ only 𝓡 p (less z)
  less_ring p o z e = simp (only_mark, e, ring)

  turned_ring : (p : Bool) (o z : A) → o ≡ 𝟙 → less (only 𝓡 p o + 𝟘) * z ≡ only 𝓡 p (less z)
  turned_ring p o z e = simp (only_mark, e, ring)

  flow_law_ring : (p q r : Bool) (o w z : A) → o ≡ 𝟙
      → less (only 𝓡 p o + (only 𝓡 q (less w) + (only 𝓡 r w + 𝟘))) * z ≡ only 𝓡 p (less z) + (only 𝓡 q (w * z) + only 𝓡 r (less (w * z)))
  flow_law_ring p q r o w z e = simp (only_mark, e, ring)

  angle_floor_ring : (q r : Bool) (w z : A) → (only 𝓡 q (less w) + (only 𝓡 r w + 𝟘)) * z ≡ only 𝓡 q (less (w * z)) + only 𝓡 r (w * z)
  angle_floor_ring q r w z = simp (only_mark, ring)

  angle_ceiling_ring : (q r : Bool) (w z : A) → (only 𝓡 q w + (only 𝓡 r (less w) + 𝟘)) * z ≡ only 𝓡 q (w * z) + only 𝓡 r (less (w * z))
  angle_ceiling_ring q r w z = simp (only_mark, ring)

  segment_ring : (p q : Bool) (o k z : A) → o ≡ 𝟙 → (only 𝓡 p k + (only 𝓡 q (less o) + 𝟘)) * z ≡ only 𝓡 p (k * z) + only 𝓡 q (less z)
  segment_ring p q o k z e = simp (only_mark, e, ring)

  column_flow_law : (e : ℕ) (a : Place)
      → Column a (flow_law s e)
      ≡ only 𝓡 (same_place (Flow, e) a) (less (v (NuFlow, e)))
      + (only 𝓡 (same_place (Va, from s e) a) (exact_of 𝓡 W (weight s e) * v (NuFlow, e)) + only 𝓡 (same_place (Va, to s e) a) (less (exact_of 𝓡 W (weight s e) * v (NuFlow, e))))
  unfolding sum exact_of
  column_flow_law e a = flow_law_ring (same_place (Flow, e) a) (same_place (Va, from s e) a) (same_place (Va, to s e) a) (W.number one) _ (v (NuFlow, e)) h.one_is

  column_reference : (k : ℕ) (a : Place) → Column a (reference s k) ≡ only 𝓡 (same_place (Va, wire s.counts s.wiring References k) a) (v (Eta, k))
  unfolding sum exact_of
  column_reference k a = one_ring (same_place (Va, wire s.counts s.wiring References k) a) (W.number one) (v (Eta, k)) h.one_is

  column_flow_floor : (e : ℕ) (a : Place) → Column a (flow_floor s e) ≡ only 𝓡 (same_place (Flow, e) a) (less (v (LamLb, e)))
  unfolding sum exact_of
  column_flow_floor e a = less_ring (same_place (Flow, e) a) (W.number one) (v (LamLb, e)) h.one_is

  column_flow_ceiling : (e : ℕ) (a : Place) → Column a (flow_ceiling s e) ≡ only 𝓡 (same_place (Flow, e) a) (v (LamUb, e))
  unfolding sum exact_of
  column_flow_ceiling e a = one_ring (same_place (Flow, e) a) (W.number one) (v (LamUb, e)) h.one_is

  column_generator_floor : (j : ℕ) (a : Place) → Column a (generator_floor s j) ≡ only 𝓡 (same_place (Pg, j) a) (less (v (RhoLb, j)))
  unfolding sum exact_of
  column_generator_floor j a = less_ring (same_place (Pg, j) a) (W.number one) (v (RhoLb, j)) h.one_is

  column_generator_ceiling : (j : ℕ) (a : Place) → Column a (generator_ceiling s j) ≡ only 𝓡 (same_place (Pg, j) a) (v (RhoUb, j))
  unfolding sum exact_of
  column_generator_ceiling j a = one_ring (same_place (Pg, j) a) (W.number one) (v (RhoUb, j)) h.one_is

  column_shed_lower : (b : Bool) (i : ℕ) (a : Place) → Column a (cond b (shed_none s i) (shed_floor s i)) ≡ only 𝓡 (same_place (Psh, i) a) (less (v (MuLb, i)))
  unfolding sum exact_of
  column_shed_lower true i a = turned_ring (same_place (Psh, i) a) (W.number one) (v (MuLb, i)) h.one_is
  column_shed_lower false i a = less_ring (same_place (Psh, i) a) (W.number one) (v (MuLb, i)) h.one_is

  column_shed_upper : (b : Bool) (i : ℕ) (a : Place) → Column a (cond b (shed_spare s i) (shed_ceiling s i)) ≡ only 𝓡 (same_place (Psh, i) a) (v (MuUb, i))
  unfolding sum exact_of
  column_shed_upper true i a = one_ring (same_place (Psh, i) a) (W.number one) (v (MuUb, i)) h.one_is
  column_shed_upper false i a = one_ring (same_place (Psh, i) a) (W.number one) (v (MuUb, i)) h.one_is

  column_angle_floor : (e : ℕ) (a : Place)
      → Column a (angle_floor s e)
      ≡ only 𝓡 (same_place (Va, from s e) a) (less (W.reading Sw e * v (GammaLb, e))) + only 𝓡 (same_place (Va, to s e) a) (W.reading Sw e * v (GammaLb, e))
  unfolding sum exact_of
  column_angle_floor e a = angle_floor_ring (same_place (Va, from s e) a) (same_place (Va, to s e) a) (W.reading Sw e) (v (GammaLb, e))

  column_angle_ceiling : (e : ℕ) (a : Place)
      → Column a (angle_ceiling s e)
      ≡ only 𝓡 (same_place (Va, from s e) a) (W.reading Sw e * v (GammaUb, e)) + only 𝓡 (same_place (Va, to s e) a) (less (W.reading Sw e * v (GammaUb, e)))
  unfolding sum exact_of
  column_angle_ceiling e a = angle_ceiling_ring (same_place (Va, from s e) a) (same_place (Va, to s e) a) (W.reading Sw e) (v (GammaUb, e))

  -- where generator j's segment t stands
  abbrev place : ℕ → ℕ → ℕ
  place j t = segment_start s.counts s.wiring j plus t

  column_segment : (j t : ℕ) (a : Place)
      → Column a (segment s j t)
      ≡ only 𝓡 (same_place (Pg, j) a) (W.reading Slopes (place j t) * v (Segments, place j t))
      + only 𝓡 (same_place (Cost, piece_rank s.counts s.wiring j) a) (less (v (Segments, place j t)))
  unfolding sum exact_of
  column_segment j t a =
      segment_ring (same_place (Pg, j) a) (same_place (Cost, piece_rank s.counts s.wiring j) a) (W.number one) (W.reading Slopes (place j t)) (v (Segments, place j t)) h.one_is

  -- ---- a bus's balance

  -- a sum over the terms of a balance's gradient
  pub balance_terms : (F : Place × Form → A) (i : ℕ)
      → sum 𝓡 F (balance s i).gradient
      ≡ total 𝓡 (λ j. F ((Va, j), minus (bbus s i j))) s.counts.buses
      + (total 𝓡 (λ j. only 𝓡 (eqb (wire s.counts s.wiring GenBus j) i) (F ((Pg, j), unit))) s.counts.generators + F ((Psh, i), unit))
  balance_terms F i =
      sum_append 𝓡 F _ _
      ∙ ap₂ ◌+◌ (sum_singles 𝓡 F _ (λ j. ((Va, j), minus (bbus s i j))))
      (sum_append 𝓡 F _ _
      ∙ ap₂ ◌+◌ (sum_each 𝓡 F _ _ ∙ total_same 𝓡 _ _ _ (λ j l. sum_when 𝓡 F (eqb (wire s.counts s.wiring GenBus j) i) _ ∙ ap (only 𝓡 (eqb (wire s.counts s.wiring GenBus j) i)) (sum_one 𝓡 F ((Pg, j), unit))))
      (sum_one 𝓡 F ((Psh, i), unit)))

  -- bus i's coefficients at angle, dispatch or shed demand k
  abbrev angles : ℕ → ℕ → A
  angles i k = total 𝓡 (λ j. only 𝓡 (eqb j k) (less (exact_of 𝓡 W (bbus s i j)))) s.counts.buses

  abbrev injections : ℕ → ℕ → A
  injections i k = total 𝓡 (λ j. only 𝓡 (eqb (wire s.counts s.wiring GenBus j) i) (only 𝓡 (eqb j k) (W.number one))) s.counts.generators

  abbrev sheds : ℕ → ℕ → A
  sheds i k = only 𝓡 (eqb i k) (W.number one)

  pick_ring : (p q t : Bool) (x : A) → only 𝓡 p (only 𝓡 (q && t) x) ≡ only 𝓡 q (only 𝓡 p (only 𝓡 t x))
  unfolding only
  pick_ring true true t x = refl
  pick_ring true false t x = refl
  pick_ring false true t x = refl
  pick_ring false false t x = refl

  coefficient_balance : (i : ℕ) (a : Place)
      → coefficient 𝓡 W (balance s i).gradient a
      ≡ only 𝓡 (eqb (rank Va) (rank a.0)) (angles i a.1) + (only 𝓡 (eqb (rank Pg) (rank a.0)) (injections i a.1) + only 𝓡 (eqb (rank Psh) (rank a.0)) (sheds i a.1))
  unfolding exact_of
  coefficient_balance i a =
      balance_terms _ i
      ∙ ap₂ ◌+◌ (of_block 𝓡 Va (λ j. j) _ _ a)
      (ap₂ ◌+◌ (total_same 𝓡 _ _ _ (λ j l. pick_ring (eqb (wire s.counts s.wiring GenBus j) i) (eqb (rank Pg) (rank a.0)) (eqb j a.1) (W.number one)) ∙ total_only 𝓡 _ _ _)
      (only_both 𝓡 (eqb (rank Psh) (rank a.0)) (eqb i a.1) _))

  balance_ring : (p q r : Bool) (x y w z : A) → less (only 𝓡 p x + (only 𝓡 q y + only 𝓡 r w)) * z ≡ only 𝓡 p (less x * z) + (only 𝓡 q (less y * z) + only 𝓡 r (less w * z))
  balance_ring p q r x y w z = simp (only_mark, ring)

  columns_balance : (a : Place)
      → total 𝓡 (λ i. Column a (balance s i)) s.counts.buses
      ≡ only 𝓡 (eqb (rank Va) (rank a.0)) (total 𝓡 (λ i. less (angles i a.1) * v (NuBal, i)) s.counts.buses)
      + (only 𝓡 (eqb (rank Pg) (rank a.0)) (total 𝓡 (λ i. less (injections i a.1) * v (NuBal, i)) s.counts.buses)
      + only 𝓡 (eqb (rank Psh) (rank a.0)) (total 𝓡 (λ i. less (sheds i a.1) * v (NuBal, i)) s.counts.buses))
  columns_balance a =
      total_same 𝓡 _ _ _ (λ i l. ap (λ (m : A). less m * v (NuBal, i)) (coefficient_balance i a) ∙ balance_ring (eqb (rank Va) (rank a.0)) (eqb (rank Pg) (rank a.0)) (eqb (rank Psh) (rank a.0)) _ _ _ _)
      ∙ total_add 𝓡 _ _ _
      ∙ ap₂ ◌+◌ (total_only 𝓡 _ _ _) (total_add 𝓡 _ _ _ ∙ ap₂ ◌+◌ (total_only 𝓡 _ _ _) (total_only 𝓡 _ _ _))

  -- ---- linear rows

  -- so many terms from a place on, at element k
  abbrev pub gathered : ℕ → ℕ → ℕ → A
  gathered at n k = total 𝓡 (λ t. only 𝓡 (eqb (term_index s (at plus t)) k) (W.number (term_coefficient s (at plus t)))) n

  abbrev pub flows : ℕ → ℕ → A
  flows q k = gathered (flow_term s q) (wire s.counts s.wiring FlowTerms q) k

  abbrev pub dispatches : ℕ → ℕ → A
  dispatches q k = gathered (generation_term s q) (wire s.counts s.wiring GenerationTerms q) k

  coefficient_row : (q : ℕ) (a : Place)
      → coefficient 𝓡 W (row_terms s num q) a ≡ only 𝓡 (eqb (rank Flow) (rank a.0)) (flows q a.1) + only 𝓡 (eqb (rank Pg) (rank a.0)) (dispatches q a.1)
  unfolding exact_of
  coefficient_row q a =
      sum_append 𝓡 _ _ _
      ∙ ap₂ ◌+◌ (sum_singles 𝓡 _ _ _ ∙ of_block 𝓡 Flow (λ t. term_index s (flow_term s q plus t)) _ _ a)
      (sum_singles 𝓡 _ _ _ ∙ of_block 𝓡 Pg (λ t. term_index s (generation_term s q plus t)) _ _ a)

  coefficient_turned : (q : ℕ) (a : Place) → coefficient 𝓡 W (row_terms s (turned_num s) q) a ≡ less (coefficient 𝓡 W (row_terms s num q) a)
  unfolding exact_of
  coefficient_turned q a =
      sum_append 𝓡 _ _ _
      ∙ ap₂ ◌+◌ (sum_singles 𝓡 _ _ _ ∙ total_same 𝓡 _ _ _ (λ t l. only_neg 𝓡 _ _) ∙ sym (total_neg 𝓡 _ _))
      (sum_singles 𝓡 _ _ _ ∙ total_same 𝓡 _ _ _ (λ t l. only_neg 𝓡 _ _) ∙ sym (total_neg 𝓡 _ _))
      ∙ sym (neg_add 𝓡 _ _)
      ∙ ap less (sym (sum_append 𝓡 _ _ _ ∙ ap₂ ◌+◌ (sum_singles 𝓡 _ _ _) (sum_singles 𝓡 _ _ _)))

  -- what multiplies a row's gradient: upper less lower, or the equality's
  abbrev pub side_dual : Shape → ℕ → A
  side_dual free x = 𝟘
  side_dual upper_only x = v (Linear, x)
  side_dual lower_only x = less (v (Linear, x))
  side_dual two_sided x = v (Linear, x) + less (v (Linear, x plus 1))
  side_dual equality x = v (Linear, x)

  free_ring : (m : A) → 𝟘 ≡ m * 𝟘
  free_ring m = simp ring

  upper_ring : (m z : A) → m * z + 𝟘 ≡ m * z
  upper_ring m z = simp ring

  lower_ring : (m z : A) → less m * z + 𝟘 ≡ m * less z
  lower_ring m z = simp ring

  both_ring : (m z y : A) → m * z + (less m * y + 𝟘) ≡ m * (z + less y)
  both_ring m z y = simp ring

  column_rows : (k : Shape) (q x : ℕ) (a : Place) → sum 𝓡 (Column a) (row_constraints s k q x) ≡ coefficient 𝓡 W (row_terms s num q) a * side_dual k x
  unfolding sum
  column_rows free q x a = free_ring _
  column_rows upper_only q x a = upper_ring _ _
  column_rows lower_only q x a = ap (λ (m : A). m * v (Linear, x) + 𝟘) (coefficient_turned q a) ∙ lower_ring _ _
  column_rows two_sided q x a =
      ap (λ (m : A). coefficient 𝓡 W (row_terms s num q) a * v (Linear, x) + (m * v (Linear, x plus 1) + 𝟘)) (coefficient_turned q a) ∙ both_ring _ _ _
  column_rows equality q x a = upper_ring _ _

  rows_ring : (p q : Bool) (x y z : A) → (only 𝓡 p x + only 𝓡 q y) * z ≡ only 𝓡 p (x * z) + only 𝓡 q (y * z)
  rows_ring p q x y z = simp (only_mark, ring)

  columns_rows : (a : Place)
      → total 𝓡 (λ q. sum 𝓡 (Column a) (row_constraints s (s.shapes q) q (row_start s q))) s.counts.rows
      ≡ only 𝓡 (eqb (rank Flow) (rank a.0)) (total 𝓡 (λ q. flows q a.1 * side_dual (s.shapes q) (row_start s q)) s.counts.rows)
      + only 𝓡 (eqb (rank Pg) (rank a.0)) (total 𝓡 (λ q. dispatches q a.1 * side_dual (s.shapes q) (row_start s q)) s.counts.rows)
  columns_rows a =
      total_same 𝓡 _ _ _
      (λ q l. column_rows (s.shapes q) q (row_start s q) a
      ∙ ap (λ (m : A). m * side_dual (s.shapes q) (row_start s q)) (coefficient_row q a)
      ∙ rows_ring (eqb (rank Flow) (rank a.0)) (eqb (rank Pg) (rank a.0)) _ _ _)
      ∙ total_add 𝓡 _ _ _
      ∙ ap₂ ◌+◌ (total_only 𝓡 _ _ _) (total_only 𝓡 _ _ _)

  -- ---- all families, at any row

  split : (B C : Block) (k l : ℕ → ℕ) (F G : ℕ → A) (n : ℕ) (a : Place)
      → total 𝓡 (λ i. only 𝓡 (same_place (B, k i) a) (F i) + only 𝓡 (same_place (C, l i) a) (G i)) n
      ≡ only 𝓡 (eqb (rank B) (rank a.0)) (total 𝓡 (λ i. only 𝓡 (eqb (k i) a.1) (F i)) n)
      + only 𝓡 (eqb (rank C) (rank a.0)) (total 𝓡 (λ i. only 𝓡 (eqb (l i) a.1) (G i)) n)
  split B C k l F G n a = total_add 𝓡 _ _ n ∙ ap₂ ◌+◌ (of_block 𝓡 B k F n a) (of_block 𝓡 C l G n a)

  columns_flow_law : (a : Place)
      → total 𝓡 (λ e. Column a (flow_law s e)) s.counts.branches
      ≡ only 𝓡 (eqb (rank Flow) (rank a.0)) (total 𝓡 (λ e. only 𝓡 (eqb e a.1) (less (v (NuFlow, e)))) s.counts.branches)
      + (only 𝓡 (eqb (rank Va) (rank a.0)) (total 𝓡 (λ e. only 𝓡 (eqb (from s e) a.1) (exact_of 𝓡 W (weight s e) * v (NuFlow, e))) s.counts.branches)
      + only 𝓡 (eqb (rank Va) (rank a.0)) (total 𝓡 (λ e. only 𝓡 (eqb (to s e) a.1) (less (exact_of 𝓡 W (weight s e) * v (NuFlow, e)))) s.counts.branches))
  columns_flow_law a =
      total_same 𝓡 _ _ _ (λ e l. column_flow_law e a)
      ∙ total_add 𝓡 _ _ _
      ∙ ap₂ ◌+◌ (of_block 𝓡 Flow (λ e. e) _ _ a) (split Va Va (from s) (to s) _ _ _ a)

  columns_segments : (a : Place)
      → total 𝓡 (λ j. total 𝓡 (λ t. Column a (segment s j t)) (segments_at s.counts s.wiring j)) s.counts.generators
      ≡ only 𝓡 (eqb (rank Pg) (rank a.0))
      (total 𝓡 (λ j. total 𝓡 (λ t. only 𝓡 (eqb j a.1) (W.reading Slopes (place j t) * v (Segments, place j t))) (segments_at s.counts s.wiring j)) s.counts.generators)
      + only 𝓡 (eqb (rank Cost) (rank a.0))
      (total 𝓡 (λ j. total 𝓡 (λ t. only 𝓡 (eqb (piece_rank s.counts s.wiring j) a.1) (less (v (Segments, place j t)))) (segments_at s.counts s.wiring j)) s.counts.generators)
  columns_segments a =
      total_same 𝓡 _ _ _
      (λ j l. total_same 𝓡 _ _ _ (λ t m. column_segment j t a) ∙ split Pg Cost (λ t. j) (λ t. piece_rank s.counts s.wiring j) _ _ _ a)
      ∙ total_add 𝓡 _ _ _
      ∙ ap₂ ◌+◌ (total_only 𝓡 _ _ _) (total_only 𝓡 _ _ _)

  variables : (a : Place) → sum 𝓡 (Column a) (constraints s)
      ≡ only 𝓡 (eqb (rank Va) (rank a.0)) (total 𝓡 (λ i. less (angles i a.1) * v (NuBal, i)) s.counts.buses)
      + (only 𝓡 (eqb (rank Pg) (rank a.0)) (total 𝓡 (λ i. less (injections i a.1) * v (NuBal, i)) s.counts.buses)
      + only 𝓡 (eqb (rank Psh) (rank a.0)) (total 𝓡 (λ i. less (sheds i a.1) * v (NuBal, i)) s.counts.buses))
      + (only 𝓡 (eqb (rank Flow) (rank a.0)) (total 𝓡 (λ e. only 𝓡 (eqb e a.1) (less (v (NuFlow, e)))) s.counts.branches)
      + (only 𝓡 (eqb (rank Va) (rank a.0)) (total 𝓡 (λ e. only 𝓡 (eqb (from s e) a.1) (exact_of 𝓡 W (weight s e) * v (NuFlow, e))) s.counts.branches)
      + only 𝓡 (eqb (rank Va) (rank a.0)) (total 𝓡 (λ e. only 𝓡 (eqb (to s e) a.1) (less (exact_of 𝓡 W (weight s e) * v (NuFlow, e)))) s.counts.branches))
      + (only 𝓡 (eqb (rank Va) (rank a.0)) (total 𝓡 (λ k. only 𝓡 (eqb (wire s.counts s.wiring References k) a.1) (v (Eta, k))) s.counts.references)
      + (only 𝓡 (eqb (rank Flow) (rank a.0)) (total 𝓡 (λ e. only 𝓡 (eqb e a.1) (less (v (LamLb, e)))) s.counts.branches)
      + (only 𝓡 (eqb (rank Flow) (rank a.0)) (total 𝓡 (λ e. only 𝓡 (eqb e a.1) (v (LamUb, e))) s.counts.branches)
      + (only 𝓡 (eqb (rank Pg) (rank a.0)) (total 𝓡 (λ j. only 𝓡 (eqb j a.1) (less (v (RhoLb, j)))) s.counts.generators)
      + (only 𝓡 (eqb (rank Pg) (rank a.0)) (total 𝓡 (λ j. only 𝓡 (eqb j a.1) (v (RhoUb, j))) s.counts.generators)
      + (only 𝓡 (eqb (rank Psh) (rank a.0)) (total 𝓡 (λ i. only 𝓡 (eqb i a.1) (less (v (MuLb, i)))) s.counts.buses)
      + (only 𝓡 (eqb (rank Psh) (rank a.0)) (total 𝓡 (λ i. only 𝓡 (eqb i a.1) (v (MuUb, i))) s.counts.buses)
      + (only 𝓡 (eqb (rank Va) (rank a.0)) (total 𝓡 (λ e. only 𝓡 (eqb (from s e) a.1) (less (W.reading Sw e * v (GammaLb, e)))) s.counts.branches)
      + only 𝓡 (eqb (rank Va) (rank a.0)) (total 𝓡 (λ e. only 𝓡 (eqb (to s e) a.1) (W.reading Sw e * v (GammaLb, e))) s.counts.branches)
      + (only 𝓡 (eqb (rank Va) (rank a.0)) (total 𝓡 (λ e. only 𝓡 (eqb (from s e) a.1) (W.reading Sw e * v (GammaUb, e))) s.counts.branches)
      + only 𝓡 (eqb (rank Va) (rank a.0)) (total 𝓡 (λ e. only 𝓡 (eqb (to s e) a.1) (less (W.reading Sw e * v (GammaUb, e)))) s.counts.branches)
      + (only 𝓡 (eqb (rank Pg) (rank a.0))
      (total 𝓡 (λ j. total 𝓡 (λ t. only 𝓡 (eqb j a.1) (W.reading Slopes (place j t) * v (Segments, place j t))) (segments_at s.counts s.wiring j)) s.counts.generators)
      + only 𝓡 (eqb (rank Cost) (rank a.0))
      (total 𝓡 (λ j. total 𝓡 (λ t. only 𝓡 (eqb (piece_rank s.counts s.wiring j) a.1) (less (v (Segments, place j t)))) (segments_at s.counts s.wiring j)) s.counts.generators)
      + (only 𝓡 (eqb (rank Flow) (rank a.0)) (total 𝓡 (λ q. flows q a.1 * side_dual (s.shapes q) (row_start s q)) s.counts.rows)
      + only 𝓡 (eqb (rank Pg) (rank a.0)) (total 𝓡 (λ q. dispatches q a.1 * side_dual (s.shapes q) (row_start s q)) s.counts.rows)))))))))))))
  variables a =
      families 𝓡 s (Column a)
      ∙ ap₂ ◌+◌ (columns_balance a)
      (ap₂ ◌+◌ (columns_flow_law a)
      (ap₂ ◌+◌ (total_same 𝓡 _ _ _ (λ k l. column_reference k a) ∙ of_block 𝓡 Va (λ k. wire s.counts s.wiring References k) _ _ a)
      (ap₂ ◌+◌ (total_same 𝓡 _ _ _ (λ e l. column_flow_floor e a) ∙ of_block 𝓡 Flow (λ e. e) _ _ a)
      (ap₂ ◌+◌ (total_same 𝓡 _ _ _ (λ e l. column_flow_ceiling e a) ∙ of_block 𝓡 Flow (λ e. e) _ _ a)
      (ap₂ ◌+◌ (total_same 𝓡 _ _ _ (λ j l. column_generator_floor j a) ∙ of_block 𝓡 Pg (λ j. j) _ _ a)
      (ap₂ ◌+◌ (total_same 𝓡 _ _ _ (λ j l. column_generator_ceiling j a) ∙ of_block 𝓡 Pg (λ j. j) _ _ a)
      (ap₂ ◌+◌ (total_same 𝓡 _ _ _ (λ i l. column_shed_lower (s.fixed i) i a) ∙ of_block 𝓡 Psh (λ i. i) _ _ a)
      (ap₂ ◌+◌ (total_same 𝓡 _ _ _ (λ i l. column_shed_upper (s.fixed i) i a) ∙ of_block 𝓡 Psh (λ i. i) _ _ a)
      (ap₂ ◌+◌ (total_same 𝓡 _ _ _ (λ e l. column_angle_floor e a) ∙ split Va Va (from s) (to s) _ _ _ a)
      (ap₂ ◌+◌ (total_same 𝓡 _ _ _ (λ e l. column_angle_ceiling e a) ∙ split Va Va (from s) (to s) _ _ _ a)
      (ap₂ ◌+◌ (columns_segments a) (columns_rows a))))))))))))

  -- ---- block by block

  abbrev At : Place → A
  At a = applied 𝓡 W v (matrix_of (program s)) a

  at_row : (a : Place) → rank a.0 < 5 → At a
      ≡ only 𝓡 (eqb (rank Pg) (rank a.0)) (total 𝓡 (λ j. only 𝓡 (eqb j a.1) (exact_of 𝓡 W (num (whole 2) ⊗ rd Cq j) * v (Pg, j))) s.counts.generators) + sum 𝓡 (Column a) (constraints s)
  at_row a l = matrix_at_variable 𝓡 W v h s a l ∙ ap (λ (m : A). m + sum 𝓡 (Column a) (constraints s)) (of_block 𝓡 Pg (λ j. j) _ _ a)

  shed_ring : (p : Bool) (o z : A) → o ≡ 𝟙 → less (only 𝓡 p o) * z ≡ only 𝓡 p (less z)
  shed_ring p o z e = simp (only_mark, e, ring)

  pub at_shed : (i : ℕ) → i < s.counts.buses → At (Psh, i) ≡ less (v (NuBal, i)) + (less (v (MuLb, i)) + v (MuUb, i))
  unfolding only
  at_shed i l =
      at_row (Psh, i) (lit< tt)
      ∙ ap₂ ◌+◌ refl (variables (Psh, i))
      ∙ simp units
      (ap₂ ◌+◌ (total_same 𝓡 _ _ _ (λ k m. shed_ring (eqb k i) (W.number one) (v (NuBal, k)) h.one_is) ∙ total_point 𝓡 (λ k. less (v (NuBal, k))) i _ l)
      (ap₂ ◌+◌ (total_point 𝓡 (λ k. less (v (MuLb, k))) i _ l) (total_point 𝓡 (λ k. v (MuUb, k)) i _ l)))

  pub at_flow : (e : ℕ) → e < s.counts.branches
      → At (Flow, e) ≡ less (v (NuFlow, e)) + (less (v (LamLb, e)) + (v (LamUb, e) + total 𝓡 (λ q. flows q e * side_dual (s.shapes q) (row_start s q)) s.counts.rows))
  unfolding only
  at_flow e l =
      at_row (Flow, e) (lit< tt)
      ∙ ap₂ ◌+◌ refl (variables (Flow, e))
      ∙ simp units
      (ap₂ ◌+◌ (total_point 𝓡 (λ k. less (v (NuFlow, k))) e _ l)
      (ap₂ ◌+◌ (total_point 𝓡 (λ k. less (v (LamLb, k))) e _ l) (ap₂ ◌+◌ (total_point 𝓡 (λ k. v (LamUb, k)) e _ l) refl)))

  -- the cost variable of a piecewise generator
  pub pieces_apart : (i j t : ℕ) → (i ≡ j → ⊥) → t < segments_at s.counts s.wiring i → 0 < segments_at s.counts s.wiring j
      → eqb (piece_rank s.counts s.wiring i) (piece_rank s.counts s.wiring j) ≡ false
  unfolding piece_rank
  pieces_apart i j t d l m =
      ne_eqb _ _
      (λ e. d (before_apart (piece s.counts s.wiring) i j 0 0 (piecewise i (omega arith)) (piecewise j m) (ap (λ (k : ℕ). k plus 0) e)).0)
    where
      piecewise : (k : ℕ) → 0 < segments_at s.counts s.wiring k → 0 < piece s.counts s.wiring k
      piecewise k q = rw (ne_eqb (segments_at s.counts s.wiring k) 0 (λ e. omega arith)) (lit< tt)

  pub at_cost : (j : ℕ) → j < s.counts.generators → 0 < segments_at s.counts s.wiring j
      → At (Cost, piece_rank s.counts s.wiring j) ≡ total 𝓡 (λ t. less (v (Segments, place j t))) (segments_at s.counts s.wiring j)
  unfolding only
  at_cost j l m =
      at_row (Cost, piece_rank s.counts s.wiring j) (lit< tt)
      ∙ ap₂ ◌+◌ refl (variables (Cost, piece_rank s.counts s.wiring j))
      ∙ simp units
      (total_at 𝓡 _ j _ l (λ i k d. total_none 𝓡 _ _ (λ t q. only_off 𝓡 _ _ (pieces_apart i j t d q m)))
      ∙ total_same 𝓡 _ _ _ (λ t q. only_on 𝓡 _ _ (eqb_own (piece_rank s.counts s.wiring j))))

  module _ (g : Wired s.counts s.wiring) where
    swap_ring : (p q : Bool) (x : A) → only 𝓡 p (only 𝓡 q x) ≡ only 𝓡 q (only 𝓡 p x)
    swap_ring p q x = simp (only_mark, ring)

    injected : (i j : ℕ) → j < s.counts.generators → injections i j ≡ only 𝓡 (eqb (wire s.counts s.wiring GenBus j) i) (W.number one)
    injected i j l =
        total_same 𝓡 _ _ _ (λ k m. swap_ring (eqb (wire s.counts s.wiring GenBus k) i) (eqb k j) (W.number one))
        ∙ total_point 𝓡 (λ k. only 𝓡 (eqb (wire s.counts s.wiring GenBus k) i) (W.number one)) j _ l

    pub at_dispatch : (j : ℕ) → j < s.counts.generators
        → At (Pg, j)
        ≡ exact_of 𝓡 W (num (whole 2) ⊗ rd Cq j) * v (Pg, j)
        + (less (v (NuBal, wire s.counts s.wiring GenBus j))
        + (less (v (RhoLb, j))
        + (v (RhoUb, j)
        + (total 𝓡 (λ t. W.reading Slopes (place j t) * v (Segments, place j t)) (segments_at s.counts s.wiring j)
        + total 𝓡 (λ q. dispatches q j * side_dual (s.shapes q) (row_start s q)) s.counts.rows))))
    unfolding only
    at_dispatch j l =
        at_row (Pg, j) (lit< tt)
        ∙ ap₂ ◌+◌ refl (variables (Pg, j))
        ∙ simp units
        (ap₂ ◌+◌ (total_point 𝓡 (λ k. exact_of 𝓡 W (num (whole 2) ⊗ rd Cq k) * v (Pg, k)) j _ l)
        (ap₂ ◌+◌
        (total_same 𝓡 _ _ _
        (λ i m. ap (λ (x : A). less x * v (NuBal, i)) (injected i j l) ∙ shed_ring (eqb (wire s.counts s.wiring GenBus j) i) (W.number one) (v (NuBal, i)) h.one_is)
        ∙ total_one 𝓡 (λ i. less (v (NuBal, i))) (wire s.counts s.wiring GenBus j) _ (g.gen_buses j l))
        (ap₂ ◌+◌ (total_point 𝓡 (λ k. less (v (RhoLb, k))) j _ l)
        (ap₂ ◌+◌ (total_point 𝓡 (λ k. v (RhoUb, k)) j _ l)
        (ap₂ ◌+◌
        (total_same 𝓡 _ _ _ (λ k m. total_only 𝓡 (eqb k j) _ _)
        ∙ total_point 𝓡 (λ k. total 𝓡 (λ t. W.reading Slopes (place k t) * v (Segments, place k t)) (segments_at s.counts s.wiring k)) j _ l)
        refl)))))

    twice_ring : (x z : A) → less (less x) * z ≡ x * z
    twice_ring x z = simp ring

    pub at_angle : (j : ℕ) → j < s.counts.buses
        → At (Va, j)
        ≡ total 𝓡 (λ e. incidence 𝓡 W s e j * exact_of 𝓡 W (weight s e) * (v (NuBal, from s e) + less (v (NuBal, to s e)))) s.counts.branches
        + (total 𝓡 (λ e. only 𝓡 (eqb (from s e) j) (exact_of 𝓡 W (weight s e) * v (NuFlow, e))) s.counts.branches
        + total 𝓡 (λ e. only 𝓡 (eqb (to s e) j) (less (exact_of 𝓡 W (weight s e) * v (NuFlow, e)))) s.counts.branches
        + (total 𝓡 (λ k. only 𝓡 (eqb (wire s.counts s.wiring References k) j) (v (Eta, k))) s.counts.references
        + (total 𝓡 (λ e. only 𝓡 (eqb (from s e) j) (less (W.reading Sw e * v (GammaLb, e)))) s.counts.branches
        + total 𝓡 (λ e. only 𝓡 (eqb (to s e) j) (W.reading Sw e * v (GammaLb, e))) s.counts.branches
        + (total 𝓡 (λ e. only 𝓡 (eqb (from s e) j) (W.reading Sw e * v (GammaUb, e))) s.counts.branches
        + total 𝓡 (λ e. only 𝓡 (eqb (to s e) j) (less (W.reading Sw e * v (GammaUb, e)))) s.counts.branches))))
    unfolding only
    at_angle j l =
        at_row (Va, j) (lit< tt)
        ∙ ap₂ ◌+◌ refl (variables (Va, j))
        ∙ simp units
        (ap₂ ◌+◌
        (total_same 𝓡 _ _ _
        (λ i m. ap (λ (x : A). less x * v (NuBal, i)) (total_point 𝓡 (λ k. less (exact_of 𝓡 W (bbus s i k))) j _ l) ∙ twice_ring (exact_of 𝓡 W (bbus s i j)) (v (NuBal, i)))
        ∙ bbus_column 𝓡 W s h g (λ i. v (NuBal, i)) j)
        refl)
