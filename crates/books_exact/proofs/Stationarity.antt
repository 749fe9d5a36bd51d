-- The residual's rows that are sums over the network: r_dual at each variable, and each bus's balance. Their derivatives are the matrix's rows times the vector.
-- Main results: `angle_row_lem`, `dispatch_row_lem`, `flow_row_lem`, `shed_row_lem`, `cost_row_lem`, `balance_row_lem`. Assumes nothing.
use mathlib.Core.Path.{◌≡◌, refl, sym, ap, ap₂, ◌∙◌}
use mathlib.Core.Bool.{Bool}
use mathlib.Mathlib.Algebra.Ring.Defs.{CommRing}
use Prim.Native.Nat.{ℕ, ◌+◌ as ◌plus◌, ◌<◌}
use lib.Dec.{eqb}
use Rattle.float64.specs.Values.{one, whole}
use Rattle.network.specs.declared.Part.TheVariants.{GenBus, References, FlowTerms, GenerationTerms}
use Rattle.network.specs.declared.Field.TheVariants.{Susceptance, Sw, Cq, Slopes}
use Rattle.network.specs.Layout.{wire, segments_at, segment_start}
use Rattle.network.specs.Numbers.{Wired}
use Rattle.solution.specs.Sheet.{piece_rank}
use Rattle.kkt_index.specs.declared.Block.TheVariants.{Va, Pg, Flow, Psh, Cost, LamLb, LamUb, GammaLb, GammaUb, RhoLb, RhoUb, MuLb, MuUb, Segments, NuBal, NuFlow, Eta}
use Rattle.kkt_index.specs.Index.{Shape}
use Rattle.kkt_index.specs.Index.Shape.{free, upper_only, lower_only, two_sided, equality}
use Rattle.exact.specs.Ring.{total, only}
use Rattle.exact.proofs.Sums.{total_same, total_add}
use Rattle.books.specs.Forms.{Place, Form, unit}
use Rattle.books.specs.Forms.Form.{num, rd, var, ◌⊖◌, ◌⊗◌}
use Rattle.books.specs.Convex.{matrix_of}
use Rattle.books.specs.Manual.{Site, program, from, to, weight, bbus, balance, term_coefficient, term_index, flow_term, generation_term, row_start}
use Rattle.books_residual.specs.Residual.{sum_to, given, drawn, pull, ends, across, row_dual, term_pull, flow_pull, generation_pull, angle_row, segment_pull, dispatch_row, flow_row, shed_row, injected, balance_row}
use Rattle.books_exact.specs.Exact.{World, Sound, exact_of, along}
use Rattle.books_exact.proofs.Laws.{ring}
use Rattle.books_exact.proofs.Sums.{mark, only_mark, total_neg, total_mul}
use Rattle.books_exact.proofs.Applied.{applied, row_of}
use Rattle.books_exact.proofs.Slacks.{derivative}
use Rattle.books_exact.proofs.Branches.{incidence, sum_to_lem, given_derivative, ends_derivative, bbus_row}
use Rattle.books_exact.proofs.Variables.{balance_terms, gathered, flows, dispatches, side_dual, at_angle, at_dispatch, at_flow, at_shed, at_cost}

module _ {A : Type 0} (𝓡 : CommRing A) (W : World A) (h : Sound 𝓡 W) (v : Place → A) (s : Site) where
  open 𝓡 use {add as ◌+◌, mul as ◌*◌, neg as less, zero as 𝟘, one as 𝟙}

  infixl 65 ◌+◌
  infixl 70 ◌*◌
  abbrev D : Form → A
  D x = derivative 𝓡 W v x

  abbrev At : Place → A
  At a = applied 𝓡 W v (matrix_of (program s)) a

  -- ---- shed demand, and cost variables

  shed_ring : (n u l : A) → 𝟘 + less n + u + less l ≡ less n + (less l + u)
  shed_ring n u l = simp ring

  pub shed_row_lem : (i : ℕ) → i < s.counts.buses → D (shed_row s i) ≡ At (Psh, i)
  unfolding along
  shed_row_lem i l = shed_ring (v (NuBal, i)) (v (MuUb, i)) (v (MuLb, i)) ∙ sym (at_shed 𝓡 W h v s i l)

  zero_ring : (x : A) → 𝟘 + x ≡ x
  zero_ring x = simp ring

  pub cost_row_lem : (j : ℕ) → j < s.counts.generators → 0 < segments_at s.counts s.wiring j
      → D (unit ⊖ sum_to (λ t. var (Segments, segment_start s.counts s.wiring j plus t)) (segments_at s.counts s.wiring j)) ≡ At (Cost, piece_rank s.counts s.wiring j)
  unfolding along
  cost_row_lem j l m =
      zero_ring _ ∙ ap less (sum_to_lem 𝓡 W v (λ t. var (Segments, segment_start s.counts s.wiring j plus t)) _) ∙ total_neg 𝓡 _ _ ∙ sym (at_cost 𝓡 W h v s j l m)

  -- ---- linear rows in r_dual

  side_dual_lem : (k : Shape) (x : ℕ) → D (row_dual s k x) ≡ side_dual 𝓡 W h v s k x
  unfolding along
  side_dual_lem free x = refl
  side_dual_lem upper_only x = refl
  side_dual_lem lower_only x = refl
  side_dual_lem two_sided x = refl
  side_dual_lem equality x = refl

  term_ring : (p : Bool) (c z m : A) → only 𝓡 p (𝟘 * z + c * m) ≡ only 𝓡 p c * m
  term_ring p c z m = simp (only_mark, ring)

  term_pull_lem : (at k t : ℕ) (d : Form) → D (term_pull s at k d t) ≡ only 𝓡 (eqb (term_index s (at plus t)) k) (W.number (term_coefficient s (at plus t))) * D d
  unfolding along exact_of
  term_pull_lem at k t d =
      given_derivative 𝓡 W v (eqb (term_index s (at plus t)) k) (num (term_coefficient s (at plus t)) ⊗ d)
      ∙ term_ring (eqb (term_index s (at plus t)) k) (W.number (term_coefficient s (at plus t))) (exact_of 𝓡 W d) (D d)

  terms_pull : (at n k : ℕ) (d : Form) → D (sum_to (term_pull s at k d) n) ≡ gathered 𝓡 W h v s at n k * D d
  terms_pull at n k d = sum_to_lem 𝓡 W v (term_pull s at k d) n ∙ total_same 𝓡 _ _ n (λ t l. term_pull_lem at k t d) ∙ sym (total_mul 𝓡 _ _ n)

  flow_pull_lem : (e : ℕ) → D (flow_pull s e) ≡ total 𝓡 (λ q. flows 𝓡 W h v s q e * side_dual 𝓡 W h v s (s.shapes q) (row_start s q)) s.counts.rows
  flow_pull_lem e =
      sum_to_lem 𝓡 W v (λ q. sum_to (term_pull s (flow_term s q) e (row_dual s (s.shapes q) (row_start s q))) (wire s.counts s.wiring FlowTerms q)) s.counts.rows
      ∙ total_same 𝓡 _ _ _
      (λ q l. terms_pull (flow_term s q) (wire s.counts s.wiring FlowTerms q) e (row_dual s (s.shapes q) (row_start s q))
      ∙ ap (λ (m : A). flows 𝓡 W h v s q e * m) (side_dual_lem (s.shapes q) (row_start s q)))

  generation_pull_lem : (j : ℕ) → D (generation_pull s j) ≡ total 𝓡 (λ q. dispatches 𝓡 W h v s q j * side_dual 𝓡 W h v s (s.shapes q) (row_start s q)) s.counts.rows
  generation_pull_lem j =
      sum_to_lem 𝓡 W v (λ q. sum_to (term_pull s (generation_term s q) j (row_dual s (s.shapes q) (row_start s q))) (wire s.counts s.wiring GenerationTerms q)) s.counts.rows
      ∙ total_same 𝓡 _ _ _
      (λ q l. terms_pull (generation_term s q) (wire s.counts s.wiring GenerationTerms q) j (row_dual s (s.shapes q) (row_start s q))
      ∙ ap (λ (m : A). dispatches 𝓡 W h v s q j * m) (side_dual_lem (s.shapes q) (row_start s q)))

  -- ---- flows

  flow_ring : (u l n x : A) → u + less l + less n + x ≡ less n + (less l + (u + x))
  flow_ring u l n x = simp ring

  pub flow_row_lem : (e : ℕ) → e < s.counts.branches → D (flow_row s e) ≡ At (Flow, e)
  unfolding along
  flow_row_lem e l =
      ap (λ (m : A). v (LamUb, e) + less (v (LamLb, e)) + less (v (NuFlow, e)) + m) (flow_pull_lem e)
      ∙ flow_ring (v (LamUb, e)) (v (LamLb, e)) (v (NuFlow, e)) _
      ∙ sym (at_flow 𝓡 W h v s e l)

  module _ (g : Wired s.counts s.wiring) where
    -- ---- dispatch

    slope_ring : (k z y : A) → 𝟘 * z + k * y ≡ k * y
    slope_ring k z y = simp ring

    slope_row : (j t : ℕ)
        → D (rd Slopes (segment_start s.counts s.wiring j plus t) ⊗ var (Segments, segment_start s.counts s.wiring j plus t))
        ≡ W.reading Slopes (segment_start s.counts s.wiring j plus t) * v (Segments, segment_start s.counts s.wiring j plus t)
    unfolding along exact_of
    slope_row j t = slope_ring (W.reading Slopes (segment_start s.counts s.wiring j plus t)) _ (v (Segments, segment_start s.counts s.wiring j plus t))

    segment_pull_lem : (j : ℕ)
        → D (segment_pull s j)
        ≡ total 𝓡 (λ t. W.reading Slopes (segment_start s.counts s.wiring j plus t) * v (Segments, segment_start s.counts s.wiring j plus t)) (segments_at s.counts s.wiring j)
    segment_pull_lem j = sum_to_lem 𝓡 W v (λ t. rd Slopes (segment_start s.counts s.wiring j plus t) ⊗ var (Segments, segment_start s.counts s.wiring j plus t)) _ ∙ total_same 𝓡 _ _ _ (λ t l. slope_row j t)

    dispatch_ring : (c t z w y u l n x d : A)
        → (𝟘 * c + t * 𝟘) * z + w * y + 𝟘 + (u + less l + less n + x + d) ≡ w * y + (less n + (less l + (u + (x + d))))
    dispatch_ring c t z w y u l n x d = simp ring

    pub dispatch_row_lem : (j : ℕ) → j < s.counts.generators → D (dispatch_row s j) ≡ At (Pg, j)
    unfolding along
    dispatch_row_lem j l =
        ap₂
        (λ (x d : A).
        (𝟘 * exact_of 𝓡 W (rd Cq j) + exact_of 𝓡 W (num (whole 2)) * 𝟘) * exact_of 𝓡 W (var (Pg, j))
        + exact_of 𝓡 W (num (whole 2) ⊗ rd Cq j) * v (Pg, j)
        + 𝟘
        + (v (RhoUb, j) + less (v (RhoLb, j)) + less (v (NuBal, wire s.counts s.wiring GenBus j)) + x + d))
        (segment_pull_lem j)
        (generation_pull_lem j)
        ∙ dispatch_ring _ _ _ _ (v (Pg, j)) (v (RhoUb, j)) (v (RhoLb, j)) (v (NuBal, wire s.counts s.wiring GenBus j)) _ _
        ∙ sym (at_dispatch 𝓡 W h v s g j l)

    -- ---- angles

    across_derivative : (x : ℕ → Form) (i : ℕ) → D (across s x i) ≡ total 𝓡 (λ e. incidence 𝓡 W s e i * D (x e)) s.counts.branches
    across_derivative x i = sum_to_lem 𝓡 W v (ends s x i) _ ∙ total_same 𝓡 _ _ _ (λ e l. ends_derivative 𝓡 W s v x i e)

    pull_ring : (p q : Bool) (w k z₁ z₂ z₃ z₄ z₅ y x n u l : A)
        → (mark 𝓡 p + less (mark 𝓡 q)) * (𝟘 * z₁ + w * (less 𝟘 * z₂ + less k * (y + less x)) + less (𝟘 * z₃ + w * (𝟘 * z₄ + k * n)) + (𝟘 * z₅ + w * (u + less l)))
        ≡ (mark 𝓡 p + less (mark 𝓡 q)) * (less k * w) * (y + less x)
        + (only 𝓡 p (less k * w * n) + only 𝓡 q (less (less k * w * n))
        + (only 𝓡 p (less (w * l)) + only 𝓡 q (w * l) + (only 𝓡 p (w * u) + only 𝓡 q (less (w * u)))))
    pull_ring p q w k z₁ z₂ z₃ z₄ z₅ y x n u l = simp (only_mark, ring)

    pull_derivative : (e i : ℕ)
        → incidence 𝓡 W s e i * D (pull s e)
        ≡ incidence 𝓡 W s e i * exact_of 𝓡 W (weight s e) * (v (NuBal, from s e) + less (v (NuBal, to s e)))
        + (only 𝓡 (eqb (from s e) i) (exact_of 𝓡 W (weight s e) * v (NuFlow, e)) + only 𝓡 (eqb (to s e) i) (less (exact_of 𝓡 W (weight s e) * v (NuFlow, e)))
        + (only 𝓡 (eqb (from s e) i) (less (W.reading Sw e * v (GammaLb, e))) + only 𝓡 (eqb (to s e) i) (W.reading Sw e * v (GammaLb, e))
        + (only 𝓡 (eqb (from s e) i) (W.reading Sw e * v (GammaUb, e)) + only 𝓡 (eqb (to s e) i) (less (W.reading Sw e * v (GammaUb, e))))))
    unfolding along exact_of
    pull_derivative e i =
        pull_ring (eqb (from s e) i) (eqb (to s e) i) (W.reading Sw e) (W.reading Susceptance e) _ _ _ _ _ (v (NuBal, from s e)) (v (NuBal, to s e)) (v (NuFlow, e)) (v (GammaUb, e)) (v (GammaLb, e))

    angle_ring : (x y z u k : A) → x + (y + (z + u)) + k ≡ x + (y + (k + (z + u)))
    angle_ring x y z u k = simp ring

    reference_pull : (j : ℕ) → D (sum_to (λ k. given (eqb (wire s.counts s.wiring References k) j) (var (Eta, k))) s.counts.references)
        ≡ total 𝓡 (λ k. only 𝓡 (eqb (wire s.counts s.wiring References k) j) (v (Eta, k))) s.counts.references
    unfolding along
    reference_pull j =
        sum_to_lem 𝓡 W v (λ k. given (eqb (wire s.counts s.wiring References k) j) (var (Eta, k))) _
        ∙ total_same 𝓡 _ _ _ (λ k l. given_derivative 𝓡 W v (eqb (wire s.counts s.wiring References k) j) (var (Eta, k)))

    pub angle_row_lem : (j : ℕ) → j < s.counts.buses → D (angle_row s j) ≡ At (Va, j)
    unfolding along
    angle_row_lem j l =
        ap₂ ◌+◌
        (across_derivative (pull s) j
        ∙ total_same 𝓡 _ _ _ (λ e m. pull_derivative e j)
        ∙ total_add 𝓡 _ _ _
        ∙ ap₂ ◌+◌ refl (total_add 𝓡 _ _ _ ∙ ap₂ ◌+◌ (total_add 𝓡 _ _ _) (total_add 𝓡 _ _ _ ∙ ap₂ ◌+◌ (total_add 𝓡 _ _ _) (total_add 𝓡 _ _ _))))
        (reference_pull j)
        ∙ angle_ring _ _ _ _ _
        ∙ sym (at_angle 𝓡 W h v s g j l)

    -- ---- balances

    drawn_ring : (c w k z u y x : A) → c * (𝟘 * z + w * (𝟘 * u + k * (y + less x) + less 𝟘)) ≡ less (c * (less k * w) * (y + less x))
    drawn_ring c w k z u y x = simp ring

    drawn_derivative : (e i : ℕ)
        → incidence 𝓡 W s e i * D (drawn s e) ≡ less (incidence 𝓡 W s e i * exact_of 𝓡 W (weight s e) * (v (Va, from s e) + less (v (Va, to s e))))
    unfolding along exact_of
    drawn_derivative e i = drawn_ring _ (W.reading Sw e) (W.reading Susceptance e) _ _ (v (Va, from s e)) (v (Va, to s e))

    neg_ring : (x z : A) → less (x * z) ≡ less x * z
    neg_ring x z = simp ring

    unit_ring : (o z : A) → o ≡ 𝟙 → z ≡ o * z
    unit_ring o z e = simp (e, ring)

    balance_ring : (x p y : A) → x + p + less 𝟘 + less 𝟘 + 𝟘 + y ≡ y + (x + p)
    balance_ring x p y = simp ring

    -- −B_bus θ
    across_drawn : (i : ℕ) → D (across s (drawn s) i) ≡ total 𝓡 (λ j. less (exact_of 𝓡 W (bbus s i j)) * v (Va, j)) s.counts.buses
    across_drawn i =
        across_derivative (drawn s) i
        ∙ total_same 𝓡 _ _ _ (λ e l. drawn_derivative e i)
        ∙ sym (total_neg 𝓡 _ _)
        ∙ ap less (sym (bbus_row 𝓡 W s h g (λ j. v (Va, j)) i))
        ∙ total_neg 𝓡 _ _
        ∙ total_same 𝓡 _ _ _ (λ j l. neg_ring _ _)

    injected_derivative : (i : ℕ) → D (injected s i) ≡ total 𝓡 (λ j. only 𝓡 (eqb (wire s.counts s.wiring GenBus j) i) (W.number one * v (Pg, j))) s.counts.generators
    unfolding along
    injected_derivative i =
        sum_to_lem 𝓡 W v (λ j. given (eqb (wire s.counts s.wiring GenBus j) i) (var (Pg, j))) _
        ∙ total_same 𝓡 _ _ _
        (λ j l. given_derivative 𝓡 W v (eqb (wire s.counts s.wiring GenBus j) i) (var (Pg, j))
        ∙ ap (only 𝓡 (eqb (wire s.counts s.wiring GenBus j) i)) (unit_ring (W.number one) (v (Pg, j)) h.one_is))

    pub balance_row_lem : (i : ℕ) → D (balance_row s i) ≡ row_of 𝓡 W v (balance s i)
    unfolding along exact_of
    balance_row_lem i =
        balance_ring _ (v (Psh, i)) _
        ∙ ap₂ ◌+◌ (across_drawn i) (ap₂ ◌+◌ (injected_derivative i) (unit_ring (W.number one) (v (Psh, i)) h.one_is))
        ∙ sym (balance_terms 𝓡 W h v s _ i)
