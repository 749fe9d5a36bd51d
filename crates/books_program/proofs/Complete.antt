-- Every row of the layout is some constraint's: of each block, the row at each place below its size.
-- Main results: `any_left`, `any_right`, `any_each`, `any_joined`, `rows_complete`. Assumes nothing.
use mathlib.Core.Path.{◌≡◌, refl, sym, ap, subst}
use mathlib.Core.Bool.{Bool, true}
use mathlib.Core.List.{List, [], ◌∷◌, ◌++◌}
use Prim.Native.Nat.{ℕ, zero, suc, ◌+◌, ◌<◌}
use native.Mathlib.Nat.{not-suc-le-zero}
use native.Mathlib.Decide.{ℕ_discrete}
use native.Mathlib.Omega.{arith}
use lib.ListN.{get_or}
use lib.Ieee.{Float}
use Rattle.sequence.specs.Lists.{each}
use Rattle.sequence.specs.Facts.{Any}
use Rattle.sequence.specs.Facts.Any.{here, there}
use Rattle.network.specs.declared.Counts.{Counts}
use Rattle.network.specs.declared.Part.TheVariants.{GeneratorFlags, ThermalFlags, AngleFlags}
use Rattle.network.specs.Layout.{segments_at, segment_start}
use Rattle.network.specs.Numbers.{Wired}
use Rattle.model.specs.declared.RowLimits.{RowLimits}
use Rattle.model.specs.declared.RowLimits.TheVariants.{None, Upper, Lower, Both, Equal}
use Rattle.model.specs.Rows.{row_limits}
use Rattle.kkt_index.specs.Index.{shape_of}
use Rattle.opf_layout.specs.declared.OpfRow.{OpfRow}
use Rattle.opf_layout.specs.declared.OpfRow.TheVariants.{Balance, FlowRow, Reference, LineUb, LineLb, GenUb, GenLb, ShedUb, ShedLb, PhaseUb, PhaseLb, Segment, LinearEqual, LinearLimit}
use Rattle.opf_layout.specs.Layout.{active_rank, flagged, sheds, equalities, inequalities, equality_rank, inequality_rank, active_of, row_size, row_start, ncon}
use Rattle.opf_layout.proofs.Blocks.{row_of}
use Rattle.opf_layout.proofs.Ranks.{width_met, rank_met, equality_met, inequality_met}
use Rattle.books.specs.Convex.{Constraint}
use Rattle.books.specs.Manual as manual
use Rattle.books.specs.Manual.{Site, segment}
use Rattle.books_program.specs.Rows.{Rowed, as_row, site, joined, active, always, linear_rowed, balances, loops, rowed}
use Rattle.books_program.specs.Program.{row_at}

module _ {A : Type 0} {P : A → Type 0} where
  -- in the first of two lists, in the second, and in one turn of a loop
  pub any_left : (l r : List A) → Any P l → Any P (l ++ r)
  any_left [] r p = elim p [ ]
  any_left (x ∷ l) r (here p) = here p
  any_left (x ∷ l) r (there p) = there (any_left l r p)

  pub any_right : (l r : List A) → Any P r → Any P (l ++ r)
  any_right [] r p = p
  any_right (x ∷ l) r p = there (any_right l r p)

  pub any_each : (n : ℕ) (f : ℕ → List A) (i : ℕ) → i < n → Any P (f i) → Any P (each n f)
  unfolding each
  any_each zero f i l p = absurd (not-suc-le-zero l)
  any_each (suc n) f i l p = go (ℕ_discrete i n) (λ m. any_each n f i m p)
    where
      go : Dec (i ≡ n) → (i < n → Any P (each n f)) → Any P (each n f ++ f n)
      go (yes q) ih = any_right (each n f) (f n) (subst (λ (k : ℕ). Any P (f k)) q p)
      go (no q) ih = any_left (each n f) (f n) (ih (omega arith))

  -- and in list k of several
  pub any_joined : (l : List A) (ls : List (List A)) (k : ℕ) → Any P (get_or (l ∷ ls) k []) → Any P (joined l ls)
  any_joined l [] zero p = p
  any_joined l [] (suc k) p = elim p [ ]
  any_joined l (m ∷ ls) zero p = any_left l (joined m ls) p
  any_joined l (m ∷ ls) (suc k) p = any_right l (joined m ls) (any_joined m ls k p)

module _ (c : Counts) (w : List ℕ) (r : List Float) (ti : List ℕ) (tc : List Float) where
  abbrev own : Site
  own = site c w r ti tc

  -- a constraint that has row i
  abbrev Has : ℕ → Rowed → Type 0
  Has i x = (x.present ≡ true) × (row_at c w r ti tc x ≡ i)

  -- row k of a block
  abbrev place : OpfRow → ℕ → ℕ
  place a k = row_start c (active_of c w r) a + k

  -- a list whose first constraint has it, or its second
  first_has : (x : Constraint) (a : OpfRow) (n k : ℕ) {xs : List Rowed} → n ≡ k → Any (Has (place a k)) (as_row x true a n ∷ xs)
  first_has x a n k e = here (refl, ap (place a) e)

  second_has : (x : Rowed) (y : Constraint) (a : OpfRow) (n k : ℕ) {xs : List Rowed} → n ≡ k → Any (Has (place a k)) (x ∷ as_row y true a n ∷ xs)
  second_has x y a n k e = there (first_has y a n k e)

  always_has : (x : ℕ → Constraint) (a : OpfRow) (n k : ℕ) → k < n → Any (Has (place a k)) (each n (always c w r ti tc x a))
  always_has x a n k l = any_each n _ k l (here (refl, refl))

  active_has : (on : ℕ → Bool) (x : ℕ → Constraint) (a : OpfRow) (n k : ℕ) → k < active_rank on n → Any (Has (place a k)) (each n (active c w r ti tc on x a))
  active_has on x a n k l =
      let m = rank_met on n k l in
      any_each n _ m.index m.below (here (m.active, ap (place a) m.is))

  -- ---- segments

  abbrev segmented : List Rowed
  segmented = each c.generators (λ j. each (segments_at c w j) (λ t. as_row (segment own j t) true Segment (segment_start c w j + t) ∷ []))

  segment_has : Wired c w → (k : ℕ) → k < c.segments → Any (Has (place Segment k)) segmented
  unfolding segment_start
  segment_has h k l =
      let m = width_met (segments_at c w) c.generators k (omega (arith, h.segments_sum)) in
      any_each c.generators _ m.index m.below (any_each (segments_at c w m.index) _ m.at m.inside (here (refl, ap (place Segment) (sym m.is))))

  -- ---- linear rows

  equal_in : (q x t : ℕ) (k : RowLimits) → t < equalities k → Any (Has (place LinearEqual (equality_rank c w r q + t))) (linear_rowed c w r ti tc (shape_of k) q x)
  equal_in q x t None l = absurd (not-suc-le-zero l)
  equal_in q x t (Upper u) l = absurd (not-suc-le-zero l)
  equal_in q x t (Lower v) l = absurd (not-suc-le-zero l)
  equal_in q x t (Both u v) l = absurd (not-suc-le-zero l)
  equal_in q x t (Equal u) l = first_has _ LinearEqual _ (equality_rank c w r q + t) (omega arith)

  limit_in : (q x t : ℕ) (k : RowLimits) → t < inequalities k → Any (Has (place LinearLimit (inequality_rank c w r q + t))) (linear_rowed c w r ti tc (shape_of k) q x)
  limit_in q x t None l = absurd (not-suc-le-zero l)
  limit_in q x t (Upper u) l = first_has _ LinearLimit _ (inequality_rank c w r q + t) (omega arith)
  limit_in q x t (Lower v) l = first_has _ LinearLimit _ (inequality_rank c w r q + t) (omega arith)
  limit_in q x t (Both u v) l = go (ℕ_discrete t 0)
    where
      go : Dec (t ≡ 0) → Any (Has (place LinearLimit (inequality_rank c w r q + t))) (linear_rowed c w r ti tc (shape_of (Both u v)) q x)
      go (yes e) = first_has _ LinearLimit _ (inequality_rank c w r q + t) (omega arith)
      go (no e) = second_has _ _ LinearLimit _ (inequality_rank c w r q + t) (omega arith)
  limit_in q x t (Equal u) l = absurd (not-suc-le-zero l)

  abbrev linears : List Rowed
  linears = each c.rows (λ q. linear_rowed c w r ti tc (shape_of (row_limits c w r q)) q (manual.row_start own q))

  equal_has : (k : ℕ) → k < equality_rank c w r c.rows → Any (Has (place LinearEqual k)) linears
  equal_has k l =
      let m = equality_met c w r c.rows k l in
      subst (λ (i : ℕ). Any (Has (place LinearEqual i)) linears) (sym m.is)
      (any_each c.rows _ m.row m.below (equal_in m.row _ m.at (row_limits c w r m.row) m.inside))

  limit_has : (k : ℕ) → k < inequality_rank c w r c.rows → Any (Has (place LinearLimit k)) linears
  limit_has k l =
      let m = inequality_met c w r c.rows k l in
      subst (λ (i : ℕ). Any (Has (place LinearLimit i)) linears) (sym m.is)
      (any_each c.rows _ m.row m.below (limit_in m.row _ m.at (row_limits c w r m.row) m.inside))

  -- ---- each block in its turn

  in_loop : {P : Rowed → Type 0} (n : ℕ) → Any P (get_or (balances c w r ti tc ∷ loops c w r ti tc) n []) → Any P (rowed c w r ti tc)
  unfolding rowed
  in_loop n p = any_joined (balances c w r ti tc) (loops c w r ti tc) n p

  module _ (h : Wired c w) where
    block_has : (a : OpfRow) (k : ℕ) → k < row_size c (active_of c w r) a → Any (Has (place a k)) (rowed c w r ti tc)
    unfolding active_of
    block_has Balance k l = in_loop 0 (always_has _ Balance c.buses k l)
    block_has FlowRow k l = in_loop 1 (always_has _ FlowRow c.branches k l)
    block_has Reference k l = in_loop 2 (always_has _ Reference c.references k l)
    block_has LineLb k l = in_loop 3 (active_has (flagged c w ThermalFlags) _ LineLb c.branches k l)
    block_has LineUb k l = in_loop 4 (active_has (flagged c w ThermalFlags) _ LineUb c.branches k l)
    block_has GenLb k l = in_loop 5 (active_has (flagged c w GeneratorFlags) _ GenLb c.generators k l)
    block_has GenUb k l = in_loop 6 (active_has (flagged c w GeneratorFlags) _ GenUb c.generators k l)
    block_has ShedLb k l = in_loop 7 (active_has (sheds c w r) _ ShedLb c.buses k l)
    block_has ShedUb k l = in_loop 8 (active_has (sheds c w r) _ ShedUb c.buses k l)
    block_has PhaseLb k l = in_loop 9 (active_has (flagged c w AngleFlags) _ PhaseLb c.branches k l)
    block_has PhaseUb k l = in_loop 10 (active_has (flagged c w AngleFlags) _ PhaseUb c.branches k l)
    block_has Segment k l = in_loop 11 (segment_has h k l)
    block_has LinearEqual k l = in_loop 12 (equal_has k l)
    block_has LinearLimit k l = in_loop 12 (limit_has k l)

    pub rows_complete : (i : ℕ) → i < ncon c (active_of c w r) → Any (Has i) (rowed c w r ti tc)
    rows_complete i l =
        let m = row_of c (active_of c w r) i l in
        subst (λ (k : ℕ). Any (Has k) (rowed c w r ti tc)) (sym m.is) (block_has m.block m.at m.below)
