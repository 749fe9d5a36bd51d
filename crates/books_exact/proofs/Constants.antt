-- The residual's rows are affine in the unknowns, or a multiplier times what is: the constant of each variable's row is its cost, that of each constraint its right side.
-- Main results: `dispatch_affine` and its like, `balance_affine`, `flow_floor_affine` and its like, one for each family of rows. Assumes nothing.
use mathlib.Core.Path.{◌≡◌, refl, sym, ap, ◌∙◌}
use mathlib.Core.Bool.{Bool, true, false, cond}
use mathlib.Mathlib.Algebra.Ring.Defs.{CommRing}
use Prim.Native.Nat.{ℕ, zero, suc, ◌+◌ as ◌plus◌}
use lib.Dec.{eqb}
use Rattle.float64.specs.Values.{one, whole}
use Rattle.network.specs.declared.Part.TheVariants.{GenBus, References}
use Rattle.network.specs.declared.Field.TheVariants.{BaseMva, Susceptance, Sw, FlowOffset, Fmax, Angmin, Angmax, Gmin, Gmax, Cq, Cl, CShed, Demand, ShuntConductance, HvdcInjection, Slopes, Intercepts, UpperMw, LowerMw}
use Rattle.network.specs.Layout.{wire, segments_at, segment_start}
use Rattle.solution.specs.Sheet.{piece_rank}
use Rattle.kkt_index.specs.declared.Block.{Block}
use Rattle.kkt_index.specs.declared.Block.TheVariants.{Pg, Flow, Psh, Cost, Segments, Eta}
use Rattle.kkt_index.specs.Index.{Shape}
use Rattle.kkt_index.specs.Index.Shape.{free, upper_only, lower_only, two_sided, equality}
use Rattle.exact.specs.Ring.{total, only}
use Rattle.exact.proofs.Sums.{add_assoc, total_same}
use Rattle.books.specs.Forms.{Place, Form, none, unit}
use Rattle.books.specs.Forms.Form.{rd, var, minus, ◌⊕◌, ◌⊖◌, ◌⊗◌}
use Rattle.books.specs.Manual.{Site, from, to, angle, shift_flow, bus_shift_to, bus_shift, balance, flow_floor, flow_ceiling, generator_floor, generator_ceiling, cap, angle_floor, angle_ceiling, segment, term_coefficient, term_index, flow_term, generation_term, row_sum, row_value, upper, lower, row_start}
use Rattle.books_residual.specs.Residual.{sum_to, drawn, pull, row_dual, term_pull, flow_pull, generation_pull, angle_row, dispatch_row, flow_row, shed_row, balance_row, flow_law_row, level_row}
use Rattle.books_exact.specs.Exact.{World, Sound, exact_of}
use Rattle.books_exact.proofs.Laws.{mul_neg, units, ring}
use Rattle.books_exact.proofs.Sums.{mark, only_mark, total_neg}
use Rattle.books_exact.proofs.Slacks.{cap_still}
use Rattle.books_exact.proofs.Branches.{incidence}
use Rattle.books_exact.proofs.Affine.{Affine, Linear, still_rd, still_num, still_minus, still_times, still_over, affine_still, affine_as, affine_rd, affine_plus, affine_minus, affine_times, affine_across, linear_var, linear_plus, linear_minus, linear_turned, linear_times, linear_none, linear_sum, linear_given, linear_across}

module _ {A : Type 0} (𝓡 : CommRing A) (W : World A) (h : Sound 𝓡 W) (s : Site) where
  open 𝓡 use {add as ◌+◌, mul as ◌*◌, neg as less, zero as 𝟘}

  infixl 65 ◌+◌
  infixl 70 ◌*◌
  none_exact : exact_of 𝓡 W none ≡ 𝟘
  unfolding exact_of
  none_exact = h.nought_is

  minus_exact : (x : Form) → less (exact_of 𝓡 W x) ≡ exact_of 𝓡 W (minus x)
  unfolding exact_of
  minus_exact x = refl

  left_ring : (x : A) → 𝟘 + x ≡ x
  left_ring x = simp units

  right_ring : (x : A) → x + less 𝟘 ≡ x
  right_ring x = simp units

  -- ---- branches

  pub angle_linear : (e : ℕ) → Linear 𝓡 W (angle s e)
  angle_linear e = linear_minus (linear_var _) (linear_var _)

  pull_linear : (e : ℕ) → Linear 𝓡 W (pull s e)
  pull_linear e =
      linear_plus
      (linear_minus (linear_times (still_rd Sw e) (linear_times (still_minus (still_rd Susceptance e)) (linear_minus (linear_var _) (linear_var _))))
      (linear_times (still_rd Sw e) (linear_times (still_rd Susceptance e) (linear_var _))))
      (linear_times (still_rd Sw e) (linear_minus (linear_var _) (linear_var _)))

  drawn_ring : (w k : A) → w * (𝟘 + less k) ≡ less (w * k)
  drawn_ring w k = simp ring

  drawn_exact : (e : ℕ) → exact_of 𝓡 W (rd Sw e) * (𝟘 + less (exact_of 𝓡 W (rd FlowOffset e))) ≡ less (exact_of 𝓡 W (shift_flow s e))
  unfolding exact_of
  drawn_exact e = drawn_ring _ _

  drawn_affine : (e : ℕ) → Affine 𝓡 W (drawn s e) (less (exact_of 𝓡 W (shift_flow s e)))
  drawn_affine e =
      affine_as (affine_times (still_rd Sw e) (affine_minus (linear_times (still_rd Susceptance e) (angle_linear e)) (affine_rd FlowOffset e))) (drawn_exact e)

  -- ---- linear rows

  dual_linear : (k : Shape) (x : ℕ) → Linear 𝓡 W (row_dual s k x)
  dual_linear free x = linear_none h
  dual_linear upper_only x = linear_var _
  dual_linear lower_only x = linear_turned (linear_var _)
  dual_linear two_sided x = linear_minus (linear_var _) (linear_var _)
  dual_linear equality x = linear_var _

  terms_linear : (at n k : ℕ) (d : Form) → Linear 𝓡 W d → Linear 𝓡 W (sum_to (term_pull s at k d) n)
  terms_linear at n k d p = linear_sum h (λ t. linear_given h (eqb (term_index s (at plus t)) k) (linear_times (still_num (term_coefficient s (at plus t))) p)) n

  flow_pull_linear : (e : ℕ) → Linear 𝓡 W (flow_pull s e)
  flow_pull_linear e = linear_sum h (λ q. terms_linear (flow_term s q) _ e _ (dual_linear (s.shapes q) (row_start s q))) s.counts.rows

  generation_pull_linear : (j : ℕ) → Linear 𝓡 W (generation_pull s j)
  generation_pull_linear j = linear_sum h (λ q. terms_linear (generation_term s q) _ j _ (dual_linear (s.shapes q) (row_start s q))) s.counts.rows

  sum_linear : (b : Block) (at n : ℕ) → Linear 𝓡 W (row_sum s b at n)
  unfolding row_sum
  sum_linear b at zero = linear_none h
  sum_linear b at (suc n) = linear_plus (sum_linear b at n) (linear_times (still_num (term_coefficient s (at plus n))) (linear_var _))

  value_linear : (q : ℕ) → Linear 𝓡 W (row_value s q)
  value_linear q = linear_plus (sum_linear Flow _ _) (sum_linear Pg _ _)

  -- ---- the variables' rows

  pub angle_row_linear : (j : ℕ) → Linear 𝓡 W (angle_row s j)
  angle_row_linear j =
      linear_plus (linear_across h s pull_linear j)
      (linear_sum h (λ k. linear_given h (eqb (wire s.counts s.wiring References k) j) (linear_var (Eta, k))) s.counts.references)

  dispatch_ring : (x : A) → 𝟘 + x + 𝟘 ≡ x
  dispatch_ring x = simp units

  pub dispatch_affine : (j : ℕ) → Affine 𝓡 W (dispatch_row s j) (exact_of 𝓡 W (rd Cl j))
  dispatch_affine j =
      affine_as
      (affine_plus (affine_plus (linear_times (still_times (still_num (whole 2)) (still_rd Cq j)) (linear_var _)) (affine_rd Cl j))
      (linear_plus
      (linear_plus (linear_minus (linear_minus (linear_var _) (linear_var _)) (linear_var _))
      (linear_sum h (λ t. linear_times (still_rd Slopes (segment_start s.counts s.wiring j plus t)) (linear_var _)) (segments_at s.counts s.wiring j)))
      (generation_pull_linear j)))
      (dispatch_ring _)

  pub flow_row_linear : (e : ℕ) → Linear 𝓡 W (flow_row s e)
  flow_row_linear e = linear_plus (linear_minus (linear_minus (linear_var _) (linear_var _)) (linear_var _)) (flow_pull_linear e)

  shed_ring : (x : A) → x + less 𝟘 + 𝟘 + less 𝟘 ≡ x
  shed_ring x = simp units

  pub shed_affine : (i : ℕ) → Affine 𝓡 W (shed_row s i) (exact_of 𝓡 W (rd CShed i))
  shed_affine i = affine_as (affine_minus (affine_plus (affine_minus (affine_rd CShed i) (linear_var _)) (linear_var _)) (linear_var _)) (shed_ring _)

  pub cost_affine : (j : ℕ)
      → Affine 𝓡 W (unit ⊖ sum_to (λ t. var (Segments, segment_start s.counts s.wiring j plus t)) (segments_at s.counts s.wiring j)) (exact_of 𝓡 W unit)
  cost_affine j = affine_as (affine_minus (affine_still (still_num one)) (linear_sum h (λ t. linear_var _) (segments_at s.counts s.wiring j))) (right_ring _)

  -- ---- slacks

  pub flow_floor_affine : (e : ℕ) → Affine 𝓡 W (var (Flow, e) ⊕ rd Fmax e) (exact_of 𝓡 W (flow_floor s e).right)
  flow_floor_affine e = affine_as (affine_plus (linear_var _) (affine_rd Fmax e)) (left_ring _)

  pub flow_ceiling_affine : (e : ℕ) → Affine 𝓡 W (rd Fmax e ⊖ var (Flow, e)) (exact_of 𝓡 W (flow_ceiling s e).right)
  flow_ceiling_affine e = affine_as (affine_minus (affine_rd Fmax e) (linear_var _)) (right_ring _)

  pub generator_floor_affine : (j : ℕ) → Affine 𝓡 W (var (Pg, j) ⊖ rd Gmin j) (exact_of 𝓡 W (generator_floor s j).right)
  generator_floor_affine j = affine_as (affine_minus (linear_var _) (affine_rd Gmin j)) (left_ring _ ∙ minus_exact _)

  pub generator_ceiling_affine : (j : ℕ) → Affine 𝓡 W (rd Gmax j ⊖ var (Pg, j)) (exact_of 𝓡 W (generator_ceiling s j).right)
  generator_ceiling_affine j = affine_as (affine_minus (affine_rd Gmax j) (linear_var _)) (right_ring _)

  floor_ring : (w k : A) → w * (𝟘 + less k) ≡ less w * k
  floor_ring w k = simp ring

  floor_exact : (e : ℕ) → exact_of 𝓡 W (rd Sw e) * (𝟘 + less (exact_of 𝓡 W (rd Angmin e))) ≡ exact_of 𝓡 W (angle_floor s e).right
  unfolding exact_of
  floor_exact e = floor_ring _ _

  pub angle_floor_affine : (e : ℕ) → Affine 𝓡 W (rd Sw e ⊗ (angle s e ⊖ rd Angmin e)) (exact_of 𝓡 W (angle_floor s e).right)
  angle_floor_affine e = affine_as (affine_times (still_rd Sw e) (affine_minus (angle_linear e) (affine_rd Angmin e))) (floor_exact e)

  ceiling_exact : (e : ℕ) → exact_of 𝓡 W (rd Sw e) * (exact_of 𝓡 W (rd Angmax e) + less 𝟘) ≡ exact_of 𝓡 W (angle_ceiling s e).right
  unfolding exact_of
  ceiling_exact e = ap (λ (m : A). W.reading Sw e * m) (right_ring _)

  pub angle_ceiling_affine : (e : ℕ) → Affine 𝓡 W (rd Sw e ⊗ (rd Angmax e ⊖ angle s e)) (exact_of 𝓡 W (angle_ceiling s e).right)
  angle_ceiling_affine e = affine_as (affine_times (still_rd Sw e) (affine_minus (affine_rd Angmax e) (angle_linear e))) (ceiling_exact e)

  pub shed_floor_affine : (i : ℕ) → Affine 𝓡 W (var (Psh, i)) (exact_of 𝓡 W none)
  shed_floor_affine i = affine_as (linear_var _) (sym none_exact)

  cap_affine : (i : ℕ) → Affine 𝓡 W (cap s i) (exact_of 𝓡 W (cap s i))
  cap_affine i = affine_still (record { holds = cap_still 𝓡 W h W.unknown s i })

  pub shed_ceiling_affine : (i : ℕ) → Affine 𝓡 W (cap s i ⊖ var (Psh, i)) (exact_of 𝓡 W (cap s i))
  shed_ceiling_affine i = affine_as (affine_minus (cap_affine i) (linear_var _)) (right_ring _)

  pub segment_affine : (j t : ℕ)
      → Affine 𝓡 W
      (var (Cost, piece_rank s.counts s.wiring j) ⊖ rd Slopes (segment_start s.counts s.wiring j plus t) ⊗ var (Pg, j) ⊖ rd Intercepts (segment_start s.counts s.wiring j plus t))
      (exact_of 𝓡 W (segment s j t).right)
  segment_affine j t =
      affine_as (affine_minus (linear_minus (linear_var _) (linear_times (still_rd Slopes _) (linear_var _))) (affine_rd Intercepts _)) (left_ring _ ∙ minus_exact _)

  pub row_ceiling_affine : (q : ℕ) → Affine 𝓡 W (upper s q ⊖ row_value s q) (exact_of 𝓡 W (upper s q))
  row_ceiling_affine q = affine_as (affine_minus (affine_still (still_over (still_rd UpperMw q) (still_rd BaseMva 0))) (value_linear q)) (right_ring _)

  pub row_floor_affine : (q : ℕ) → Affine 𝓡 W (row_value s q ⊖ lower s q) (exact_of 𝓡 W (minus (lower s q)))
  row_floor_affine q =
      affine_as (affine_minus (value_linear q) (affine_still (still_over (still_rd LowerMw q) (still_rd BaseMva 0)))) (left_ring _ ∙ minus_exact _)

  -- ---- equalities

  zero_ring : (x : A) → x ≡ 𝟘 → 𝟘 ≡ less x
  zero_ring x e = simp (e, units)

  pub alone_affine : (p : Place) → Affine 𝓡 W (var p) (less (exact_of 𝓡 W none))
  alone_affine p = affine_as (linear_var p) (zero_ring _ none_exact)

  pub level_affine : (q : ℕ) → Affine 𝓡 W (level_row s q) (less (exact_of 𝓡 W (lower s q)))
  level_affine q = affine_as (affine_minus (value_linear q) (affine_still (still_over (still_rd LowerMw q) (still_rd BaseMva 0)))) (left_ring _)

  pub flow_law_affine : (e : ℕ) → Affine 𝓡 W (flow_law_row s e) (less (exact_of 𝓡 W (shift_flow s e)))
  flow_law_affine e = affine_as (affine_plus (linear_var _) (drawn_affine e)) (left_ring _)

  neither_ring : (x : A) → x ≡ x + (𝟘 + less 𝟘)
  neither_ring x = simp units

  -- P_bus,shift, branch by branch
  shift_cases : (p q : Bool) (x y : Form)
      → exact_of 𝓡 W (cond q (cond p (x ⊕ y) x ⊖ y) (cond p (x ⊕ y) x)) ≡ exact_of 𝓡 W x + (only 𝓡 p (exact_of 𝓡 W y) + less (only 𝓡 q (exact_of 𝓡 W y)))
  unfolding exact_of only
  shift_cases true true x y = add_assoc 𝓡 _ _ _
  shift_cases true false x y = ap (λ (m : A). exact_of 𝓡 W x + m) (sym (right_ring _))
  shift_cases false true x y = ap (λ (m : A). exact_of 𝓡 W x + m) (sym (left_ring _))
  shift_cases false false x y = neither_ring _

  shift_ring : (p q : Bool) (x y : A) → x + (only 𝓡 p y + less (only 𝓡 q y)) ≡ x + (mark 𝓡 p + less (mark 𝓡 q)) * y
  shift_ring p q x y = simp (only_mark, ring)

  shift_exact : (i n : ℕ) → exact_of 𝓡 W (bus_shift_to s i n) ≡ total 𝓡 (λ e. incidence 𝓡 W s e i * exact_of 𝓡 W (shift_flow s e)) n
  unfolding bus_shift_to total
  shift_exact i zero = none_exact
  shift_exact i (suc e) =
      shift_cases (eqb (from s e) i) (eqb (to s e) i) (bus_shift_to s i e) (shift_flow s e)
      ∙ shift_ring (eqb (from s e) i) (eqb (to s e) i) _ _
      ∙ ap (λ (m : A). m + incidence 𝓡 W s e i * exact_of 𝓡 W (shift_flow s e)) (shift_exact i e)

  across_shift : (i : ℕ) → total 𝓡 (λ e. incidence 𝓡 W s e i * less (exact_of 𝓡 W (shift_flow s e))) s.counts.branches ≡ less (exact_of 𝓡 W (bus_shift s i))
  across_shift i = total_same 𝓡 _ _ _ (λ e l. mul_neg 𝓡 _ _) ∙ sym (total_neg 𝓡 _ _) ∙ ap less (sym (shift_exact i _))

  balance_ring : (d g u b : A) → 𝟘 + less d + less g + u + less b ≡ less (d + (g + b + less u))
  balance_ring d g u b = simp ring

  balance_exact : (i : ℕ)
      → 𝟘 + less (exact_of 𝓡 W (rd Demand i)) + less (exact_of 𝓡 W (rd ShuntConductance i)) + exact_of 𝓡 W (rd HvdcInjection i) + less (exact_of 𝓡 W (bus_shift s i))
      ≡ less (exact_of 𝓡 W (balance s i).right)
  unfolding exact_of
  balance_exact i = balance_ring _ _ _ _

  pub balance_affine : (i : ℕ) → Affine 𝓡 W (balance_row s i) (less (exact_of 𝓡 W (balance s i).right))
  balance_affine i =
      affine_as
      (affine_plus
      (affine_plus
      (affine_minus
      (affine_minus
      (linear_plus (linear_sum h (λ j. linear_given h (eqb (wire s.counts s.wiring GenBus j) i) (linear_var (Pg, j))) s.counts.generators) (linear_var _))
      (affine_rd Demand i))
      (affine_rd ShuntConductance i))
      (affine_rd HvdcInjection i))
      (affine_as (affine_across h s drawn_affine i) (across_shift i)))
      (balance_exact i)
