-- Each constraint's function has the derivative that its gradient says: an inequality's slack, or what an equality sets to 0, along a vector of unknowns.
-- Main definition: `derivative`. Main results: `centred_row`, and for each constraint that its row's derivative is the matrix's row times the vector. Assumes nothing.
use mathlib.Core.Path.{◌≡◌, refl, sym, ap, ap₂, ◌∙◌}
use mathlib.Core.Bool.{Bool, true, false, cond}
use mathlib.Mathlib.Algebra.Ring.Defs.{CommRing}
use Prim.Native.Nat.{ℕ, zero, suc, ◌+◌ as ◌plus◌}
use lib.Dec.{eqb}
use Rattle.float64.specs.Values.{one}
use Rattle.network.specs.declared.Part.TheVariants.{References, FlowTerms, GenerationTerms}
use Rattle.network.specs.declared.Field.TheVariants.{Susceptance, Sw, Fmax, Angmin, Angmax, Gmin, Gmax, Demand, Slopes, Intercepts}
use Rattle.network.specs.Layout.{allow_shed, wire, segment_start}
use Rattle.solution.specs.Sheet.{piece_rank}
use Rattle.kkt_index.specs.declared.Block.{Block}
use Rattle.kkt_index.specs.declared.Block.TheVariants.{Va, Pg, Flow, Psh, Cost, MuUb}
use Rattle.exact.specs.Ring.{sum, total}
use Rattle.exact.proofs.Sums.{total_same}
use Rattle.books.specs.Forms.{Place, Form, none}
use Rattle.books.specs.Forms.Form.{num, rd, var, positive, ◌⊕◌, ◌⊖◌, ◌⊗◌}
use Rattle.books.specs.Convex.{Gradient, Constraint}
use Rattle.books.specs.Manual.{Site, from, to, angle, flow_law, reference, flow_floor, flow_ceiling, generator_floor, generator_ceiling, cap, shed_none, shed_floor, shed_spare, shed_ceiling, angle_floor, angle_ceiling, segment, term_coefficient, term_index, flow_term, generation_term, row_terms, turned_num, row_sum, row_value, upper, lower, row_ceiling, row_floor, row_level}
use Rattle.books_residual.specs.Residual.{row_of as residualRow, flow_law_row, reference_row, level_row}
use Rattle.books_exact.specs.Exact.{World, Sound, exact_of, along}
use Rattle.books_exact.proofs.Laws.{neg_add, neg_neg, ring}
use Rattle.books_exact.proofs.Sums.{sum_append, sum_singles, total_neg}
use Rattle.books_exact.proofs.Applied.{slope, row_of}

module _ {A : Type 0} (𝓡 : CommRing A) (W : World A) where
  open 𝓡 use {add as ◌+◌, mul as ◌*◌, neg as less, zero as 𝟘, one as 𝟙}

  infixl 65 ◌+◌
  infixl 70 ◌*◌
  -- the derivative of a formula along v, with the readings held still
  abbrev pub derivative : (Place → A) → Form → A
  derivative v x = along 𝓡 W (record { readings = λ f i. 𝟘; unknowns = v }) x

  centred_ring : (u y z m : A) → y * z + u * less m ≡ less u * m + z * y
  centred_ring u y z m = simp ring

  alone_ring : (o y : A) → o ≡ 𝟙 → y ≡ o * y + 𝟘
  alone_ring o y e = simp (e, ring)

  floor_ring : (o y : A) → o ≡ 𝟙 → y ≡ less (less o * y + 𝟘)
  floor_ring o y e = simp (e, ring)

  ceiling_ring : (o y : A) → o ≡ 𝟙 → 𝟘 + less y ≡ less (o * y + 𝟘)
  ceiling_ring o y e = simp (e, ring)

  plus_ring : (o y : A) → o ≡ 𝟙 → y + 𝟘 ≡ less (less o * y + 𝟘)
  plus_ring o y e = simp (e, ring)

  minus_ring : (o y : A) → o ≡ 𝟙 → y + less 𝟘 ≡ less (less o * y + 𝟘)
  minus_ring o y e = simp (e, ring)

  angle_floor_ring : (w z y x : A) → 𝟘 * z + w * (y + less x + less 𝟘) ≡ less (less w * y + (w * x + 𝟘))
  angle_floor_ring w z y x = simp ring

  angle_ceiling_ring : (w z y x : A) → 𝟘 * z + w * (𝟘 + less (y + less x)) ≡ less (w * y + (less w * x + 𝟘))
  angle_ceiling_ring w z y x = simp ring

  segment_ring : (o k z y x : A) → o ≡ 𝟙 → x + less (𝟘 * z + k * y) + less 𝟘 ≡ less (k * y + (less o * x + 𝟘))
  segment_ring o k z y x e = simp (e, ring)

  flow_ring : (o w k z u f y x : A) → o ≡ 𝟙
      → f + (𝟘 * z + w * (𝟘 * u + k * (y + less x) + less 𝟘)) ≡ o * f + (less (less k * w) * y + (less k * w * x + 𝟘))
  flow_ring o w k z u f y x e = simp (e, ring)

  term_ring : (c z y : A) → 𝟘 * z + c * y ≡ c * y
  term_ring c z y = simp ring

  turned_ring : (c y : A) → less c * y ≡ less (c * y)
  turned_ring c y = simp ring

  below_ring : (i k y : A) → 𝟘 * i + less (k * (𝟘 * i)) + less y ≡ less y
  below_ring i k y = simp ring

  above_ring : (i k y : A) → y + less (𝟘 * i + less (k * (𝟘 * i))) ≡ y
  above_ring i k y = simp ring

  module _ (h : Sound 𝓡 W) (v : Place → A) (s : Site) where
    -- λ times a slack whose derivative is the gradient's, turned
    pub centred_row : (p : Place) (x : Form) (m : A) → derivative v x ≡ less m → derivative v (var p ⊗ x) ≡ less (W.unknown p) * m + exact_of 𝓡 W x * v p
    unfolding along exact_of
    centred_row p x m e = ap (λ (d : A). v p * exact_of 𝓡 W x + W.unknown p * d) e ∙ centred_ring (W.unknown p) (v p) (exact_of 𝓡 W x) m

    -- the slack's derivative is the gradient's, turned
    abbrev pub Slack : Form → Gradient → Type 0
    Slack x g = derivative v x ≡ less (slope 𝓡 W v g)

    -- a residual's row of one constraint, and the matrix's
    abbrev pub Agrees : Constraint → Form → Type 0
    Agrees c x = derivative v (residualRow c x).1 ≡ row_of 𝓡 W v c

    -- ---- limits

    pub flow_floor_slack : (e : ℕ) → Slack (var (Flow, e) ⊕ rd Fmax e) (flow_floor s e).gradient
    unfolding along exact_of sum
    flow_floor_slack e = plus_ring (W.number one) (v (Flow, e)) h.one_is

    pub flow_floor_lem : (e : ℕ) → Agrees (flow_floor s e) none
    flow_floor_lem e = centred_row _ _ _ (flow_floor_slack e)

    pub flow_ceiling_slack : (e : ℕ) → Slack (rd Fmax e ⊖ var (Flow, e)) (flow_ceiling s e).gradient
    unfolding along exact_of sum
    flow_ceiling_slack e = ceiling_ring (W.number one) (v (Flow, e)) h.one_is

    pub flow_ceiling_lem : (e : ℕ) → Agrees (flow_ceiling s e) none
    flow_ceiling_lem e = centred_row _ _ _ (flow_ceiling_slack e)

    pub generator_floor_slack : (j : ℕ) → Slack (var (Pg, j) ⊖ rd Gmin j) (generator_floor s j).gradient
    unfolding along exact_of sum
    generator_floor_slack j = minus_ring (W.number one) (v (Pg, j)) h.one_is

    pub generator_floor_lem : (j : ℕ) → Agrees (generator_floor s j) none
    generator_floor_lem j = centred_row _ _ _ (generator_floor_slack j)

    pub generator_ceiling_slack : (j : ℕ) → Slack (rd Gmax j ⊖ var (Pg, j)) (generator_ceiling s j).gradient
    unfolding along exact_of sum
    generator_ceiling_slack j = ceiling_ring (W.number one) (v (Pg, j)) h.one_is

    pub generator_ceiling_lem : (j : ℕ) → Agrees (generator_ceiling s j) none
    generator_ceiling_lem j = centred_row _ _ _ (generator_ceiling_slack j)

    -- a branch that joins a bus to itself is no exception
    pub angle_floor_slack : (e : ℕ) → Slack (rd Sw e ⊗ (angle s e ⊖ rd Angmin e)) (angle_floor s e).gradient
    unfolding along exact_of sum
    angle_floor_slack e = angle_floor_ring (W.reading Sw e) _ (v (Va, from s e)) (v (Va, to s e))

    pub angle_floor_lem : (e : ℕ) → Agrees (angle_floor s e) none
    angle_floor_lem e = centred_row _ _ _ (angle_floor_slack e)

    pub angle_ceiling_slack : (e : ℕ) → Slack (rd Sw e ⊗ (rd Angmax e ⊖ angle s e)) (angle_ceiling s e).gradient
    unfolding along exact_of sum
    angle_ceiling_slack e = angle_ceiling_ring (W.reading Sw e) _ (v (Va, from s e)) (v (Va, to s e))

    pub angle_ceiling_lem : (e : ℕ) → Agrees (angle_ceiling s e) none
    angle_ceiling_lem e = centred_row _ _ _ (angle_ceiling_slack e)

    -- ---- shed demand

    -- the cap is a reading
    pub cap_still : (i : ℕ) → derivative v (cap s i) ≡ 𝟘
    unfolding along
    cap_still i = go (eqb (allow_shed s.wiring) 1)
      where
        same : (c : Bool) → cond c 𝟘 𝟘 ≡ 𝟘
        same true = refl
        same false = refl

        go : (b : Bool) → derivative v (cond b (positive (rd Demand i)) none) ≡ 𝟘
        go true = same (W.above (exact_of 𝓡 W (rd Demand i)))
        go false = refl

    pub shed_floor_slack : (i : ℕ) → Slack (var (Psh, i)) (shed_floor s i).gradient
    unfolding along exact_of sum
    shed_floor_slack i = floor_ring (W.number one) (v (Psh, i)) h.one_is

    pub shed_ceiling_slack : (i : ℕ) → Slack (cap s i ⊖ var (Psh, i)) (shed_ceiling s i).gradient
    unfolding along exact_of sum
    shed_ceiling_slack i = ap (λ (m : A). m + less (v (Psh, i))) (cap_still i) ∙ ceiling_ring (W.number one) (v (Psh, i)) h.one_is

    shed_none_lem : (i : ℕ) → derivative v (var (Psh, i)) ≡ slope 𝓡 W v (shed_none s i).gradient
    unfolding along exact_of sum
    shed_none_lem i = alone_ring (W.number one) (v (Psh, i)) h.one_is

    shed_spare_lem : (i : ℕ) → derivative v (var (MuUb, i)) ≡ v (MuUb, i)
    unfolding along
    shed_spare_lem i = refl

    -- by whether the bus is fixed
    pub shed_lower_lem : (b : Bool) (i : ℕ) → Agrees (cond b (shed_none s i) (shed_floor s i)) (var (Psh, i))
    shed_lower_lem true i = shed_none_lem i
    shed_lower_lem false i = centred_row _ _ _ (shed_floor_slack i)

    pub shed_upper_lem : (b : Bool) (i : ℕ) → Agrees (cond b (shed_spare s i) (shed_ceiling s i)) none
    shed_upper_lem true i = shed_spare_lem i
    shed_upper_lem false i = centred_row _ _ _ (shed_ceiling_slack i)

    -- ---- segments

    pub segment_slack_lem : (j t : ℕ)
        → Slack (var (Cost, piece_rank s.counts s.wiring j) ⊖ rd Slopes (segment_start s.counts s.wiring j plus t) ⊗ var (Pg, j) ⊖ rd Intercepts (segment_start s.counts s.wiring j plus t)) (segment s j t).gradient
    unfolding along exact_of sum
    segment_slack_lem j t =
        segment_ring (W.number one) (W.reading Slopes (segment_start s.counts s.wiring j plus t)) _ (v (Pg, j)) (v (Cost, piece_rank s.counts s.wiring j)) h.one_is

    pub segment_row : (j t : ℕ) → Agrees (segment s j t) none
    segment_row j t = centred_row _ _ _ (segment_slack_lem j t)

    -- ---- equalities

    pub flow_law_lem : (e : ℕ) → derivative v (flow_law_row s e) ≡ row_of 𝓡 W v (flow_law s e)
    unfolding along exact_of sum
    flow_law_lem e =
        flow_ring (W.number one) (W.reading Sw e) (W.reading Susceptance e) _ _ (v (Flow, e)) (v (Va, from s e)) (v (Va, to s e)) h.one_is

    pub reference_row_lem : (k : ℕ) → derivative v (reference_row s k) ≡ row_of 𝓡 W v (reference s k)
    unfolding along exact_of sum
    reference_row_lem k = alone_ring (W.number one) (v (Va, wire s.counts s.wiring References k)) h.one_is

    -- ---- linear rows

    -- a row's terms of one block from a place on, times v
    abbrev terms : Block → ℕ → ℕ → A
    terms b at n = total 𝓡 (λ t. W.number (term_coefficient s (at plus t)) * v (b, term_index s (at plus t))) n

    row_sum_lem : (b : Block) (at n : ℕ) → derivative v (row_sum s b at n) ≡ terms b at n
    unfolding along exact_of row_sum total
    row_sum_lem b at zero = refl
    row_sum_lem b at (suc n) = ap₂ ◌+◌ (row_sum_lem b at n) (term_ring (W.number (term_coefficient s (at plus n))) _ (v (b, term_index s (at plus n))))

    abbrev Terms : ℕ → A
    Terms q = terms Flow (flow_term s q) (wire s.counts s.wiring FlowTerms q) + terms Pg (generation_term s q) (wire s.counts s.wiring GenerationTerms q)

    row_value_lem : (q : ℕ) → derivative v (row_value s q) ≡ Terms q
    unfolding along
    row_value_lem q = ap₂ ◌+◌ (row_sum_lem Flow _ _) (row_sum_lem Pg _ _)

    row_slope : (q : ℕ) → slope 𝓡 W v (row_terms s num q) ≡ Terms q
    unfolding exact_of
    row_slope q = sum_append 𝓡 _ _ _ ∙ ap₂ ◌+◌ (sum_singles 𝓡 _ _ _) (sum_singles 𝓡 _ _ _)

    turned_slope : (q : ℕ) → slope 𝓡 W v (row_terms s (turned_num s) q) ≡ less (Terms q)
    unfolding exact_of
    turned_slope q =
        sum_append 𝓡 _ _ _
        ∙ ap₂ ◌+◌ (sum_singles 𝓡 _ _ _ ∙ total_same 𝓡 _ _ _ (λ t l. turned_ring _ _) ∙ sym (total_neg 𝓡 _ _))
        (sum_singles 𝓡 _ _ _ ∙ total_same 𝓡 _ _ _ (λ t l. turned_ring _ _) ∙ sym (total_neg 𝓡 _ _))
        ∙ sym (neg_add 𝓡 _ _)

    pub ceiling_slack : (q : ℕ) → Slack (upper s q ⊖ row_value s q) (row_terms s num q)
    unfolding along exact_of
    ceiling_slack q = below_ring _ _ _ ∙ ap less (row_value_lem q ∙ sym (row_slope q))

    pub floor_slack : (q : ℕ) → Slack (row_value s q ⊖ lower s q) (row_terms s (turned_num s) q)
    unfolding along exact_of
    floor_slack q = above_ring _ _ _ ∙ row_value_lem q ∙ sym (neg_neg 𝓡 _) ∙ ap less (sym (turned_slope q))

    pub row_ceiling_lem : (q x : ℕ) → Agrees (row_ceiling s q x) none
    row_ceiling_lem q x = centred_row _ _ _ (ceiling_slack q)

    pub row_floor_lem : (q x : ℕ) → Agrees (row_floor s q x) none
    row_floor_lem q x = centred_row _ _ _ (floor_slack q)

    pub row_level_lem : (q x : ℕ) → derivative v (level_row s q) ≡ row_of 𝓡 W v (row_level s q x)
    unfolding along exact_of
    row_level_lem q x = above_ring _ _ _ ∙ row_value_lem q ∙ sym (row_slope q)
