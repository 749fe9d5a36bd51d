-- The rows that a branch's susceptance and its switching move: angle stationarity and balance at both ends, the flow law, and the angle limits.
-- Main results: `susceptance_angle`, `susceptance_balance`, `susceptance_flow`, `switching_angle`, `switching_balance`, `switching_flow`, `switching_floor`, `switching_ceiling`. Assumes nothing.
use mathlib.Core.Path.{◌≡◌, refl, sym, subst}
use mathlib.Core.List.{[]}
use Prim.Native.Nat.{ℕ, ◌<◌}
use native.Mathlib.Decide.{ℕ_discrete}
use lib.Dec.{eqb}
use lib.Ieee.{Float, binary64, neg, add, sub, mul}
use lib.Ieee.Fits.{add-fits, sub-fits, mul-fits}
use borrow.Author.Tests.{eq-eqb, ne_eqb}
use Rattle.float64.proofs.Signs.{mul_neg_left, mul_neg_right}
use Rattle.network.specs.declared.Field.TheVariants.{Susceptance, Sw, Shift, FlowOffset}
use Rattle.network.specs.declared.Part.TheVariants.{References}
use Rattle.network.specs.Layout.{wire}
use Rattle.solution.specs.declared.Entry.TheVariants as entries
use Rattle.kkt_index.specs.declared.Block.TheVariants.{Va, GammaLb, GammaUb, NuBal, NuFlow, Eta}
use Rattle.snapping.specs.Expr.{Expr, eval}
use Rattle.snapping.specs.Snap.{angle, nu_flow}
use Rattle.solution.specs.Sheet.{pieces}
use Rattle.parameter_column.specs.declared.Served.{Served}
use Rattle.parameter_column.specs.declared.Served.TheVariants as served
use Rattle.parameter_column.specs.Columns.{valued, price_across, gamma_across}
use Rattle.books.specs.Forms.{Form, none, unit, Alike}
use Rattle.books.specs.Forms.Form.{rd, var, minus, ◌⊕◌, ◌⊖◌, ◌⊗◌}
use Rattle.books.specs.Manual as manual
use Rattle.books.specs.Manual.{from, to, angle_floor, angle_ceiling}
use Rattle.books.proofs.Doubles.{less_by}
use Rattle.books_residual.specs.Residual.{sum_to, given, row_of, drawn, pull, angle_row, balance_row, flow_law_row}
use Rattle.books_residual.specs.Rates.{rate}
use Rattle.books_residual.specs.Rates.Rate.{still, by}
use Rattle.books_residual.specs.Columns.{direction}
use Rattle.books_residual.proofs.Doubles.{nought_plus}
use Rattle.books_residual.proofs.Places.{placed}
use Rattle.books_residual.proofs.Still.{names_references}
use Rattle.books_residual.proofs.Setting.{Given, R, S, site, worth, Claim}
use Rattle.books_residual.proofs.Quiet.{steady}
use Rattle.books_residual.proofs.Limits.{At, word, injected_still}
use Rattle.books_residual.proofs.Ends.{plus_still, across_rate, ends_word, ends_less, turned_two, turned_three}

module _ (z : Given) where
  -- ---- the two rates of a branch

  -- the flow law's, by susceptance and by switching
  abbrev flow_by_susceptance : ℕ → Form
  flow_by_susceptance e = rd Sw e ⊗ (manual.angle (site z) e ⊖ rd Shift e)

  abbrev flow_by_switching : ℕ → Form
  flow_by_switching e = rd Susceptance e ⊗ manual.angle (site z) e ⊖ rd FlowOffset e

  abbrev prices : ℕ → Form
  prices e = var (NuBal, from (site z) e) ⊖ var (NuBal, to (site z) e)

  -- stationarity's
  abbrev pull_by_susceptance : ℕ → Form
  pull_by_susceptance e = rd Sw e ⊗ (minus unit ⊗ prices e) ⊖ rd Sw e ⊗ var (NuFlow, e)

  abbrev pull_by_switching : ℕ → Form
  pull_by_switching e = minus (rd Susceptance e) ⊗ prices e ⊖ rd Susceptance e ⊗ var (NuFlow, e) ⊕ (var (GammaUb, e) ⊖ var (GammaLb, e))

  susceptance_drawn : (e : ℕ) → rate (direction served.BranchSusceptance e) (drawn (site z) e) ≡ by (flow_by_susceptance e)
  unfolding rate
  susceptance_drawn e = rw (eq-eqb e e refl)

  susceptance_pull : (e : ℕ) → rate (direction served.BranchSusceptance e) (pull (site z) e) ≡ by (pull_by_susceptance e)
  unfolding rate
  susceptance_pull e = rw (eq-eqb e e refl)

  switching_drawn : (e : ℕ) → rate (direction served.Switching e) (drawn (site z) e) ≡ by (flow_by_switching e)
  unfolding rate
  switching_drawn e = rw (eq-eqb e e refl)

  switching_pull : (e : ℕ) → rate (direction served.Switching e) (pull (site z) e) ≡ by (pull_by_switching e)
  unfolding rate
  switching_pull e = rw (eq-eqb e e refl)

  susceptance_drawn_other : (e i : ℕ) → (i ≡ e → ⊥) → rate (direction served.BranchSusceptance e) (drawn (site z) i) ≡ still
  unfolding rate
  susceptance_drawn_other e i d = rw (ne_eqb i e d)

  susceptance_pull_other : (e i : ℕ) → (i ≡ e → ⊥) → rate (direction served.BranchSusceptance e) (pull (site z) i) ≡ still
  unfolding rate
  susceptance_pull_other e i d = rw (ne_eqb i e d)

  switching_drawn_other : (e i : ℕ) → (i ≡ e → ⊥) → rate (direction served.Switching e) (drawn (site z) i) ≡ still
  unfolding rate
  switching_drawn_other e i d = rw (ne_eqb i e d)

  switching_pull_other : (e i : ℕ) → (i ≡ e → ⊥) → rate (direction served.Switching e) (pull (site z) i) ≡ still
  unfolding rate
  switching_pull_other e i d = rw (ne_eqb i e d)

  -- ---- what they are worth

  module _ (e : ℕ) (l : e < z.counts.branches) where
    abbrev figure : Expr → Float
    figure x = eval (R z) (S z) x

    angle_worth : worth z (manual.angle (site z) e) ≡ figure (angle z.counts z.wiring e)
    angle_worth = rw (word z entries.Va refl _ (z.wired.froms e l), word z entries.Va refl _ (z.wired.tos e l))

    prices_worth : worth z (prices e) ≡ figure (price_across z.counts z.wiring e)
    prices_worth = rw (word z entries.NuBal refl _ (z.wired.froms e l), word z entries.NuBal refl _ (z.wired.tos e l))

    abbrev dual : Float
    dual = nu_flow z.counts z.wiring z.indexes z.coefficients (pieces z.counts z.wiring) z.readings z.sheet e

    pull_susceptance_worth : worth z (pull_by_susceptance e)
        ≡ sub binary64 (mul binary64 (neg (R z Sw e)) (figure (price_across z.counts z.wiring e))) (mul binary64 (R z Sw e) dual)
    pull_susceptance_worth =
        let p = figure (price_across z.counts z.wiring e) in
        rw (prices_worth, less_by p (sub-fits binary64 _ _), mul_neg_right (R z Sw e) p, mul_neg_left (R z Sw e) p)

    gammas_worth : worth z (var (GammaUb, e) ⊖ var (GammaLb, e)) ≡ figure (gamma_across z.counts z.wiring e)
    gammas_worth = rw (word z entries.GammaUb refl e l, word z entries.GammaLb refl e l)

    -- ---- angle stationarity

    references_still : (k : Served) (j : ℕ) → rate (direction k e) (sum_to (λ k. given (eqb (wire z.counts z.wiring References k) j) (var (Eta, k))) z.counts.references) ≡ still
    references_still k j = steady k e [] _ refl (names_references [] (site z) j)

    susceptance_angle_at : (j : ℕ) → Claim z served.BranchSusceptance e Va j (angle_row (site z) j)
    unfolding placed valued rate
    susceptance_angle_at j =
        let p = figure (price_across z.counts z.wiring e) in
        let h : Alike (add binary64 (mul binary64 (R z Sw e) p) (mul binary64 (R z Sw e) dual)) (neg (sub binary64 (mul binary64 (neg (R z Sw e)) p) (mul binary64 (R z Sw e) dual))) =
        rw (mul_neg_left (R z Sw e) p) (turned_two (mul binary64 (R z Sw e) p) (mul binary64 (R z Sw e) dual)) in
        rw (across_rate (direction served.BranchSusceptance e) (site z) (pull (site z)) (pull_by_susceptance e) e j l (susceptance_pull e) (susceptance_pull_other e), references_still served.BranchSusceptance j, plus_still)
        (ends_word z (eqb (from (site z) e) j) (eqb (to (site z) e) j) (pull_by_susceptance e) _ _ pull_susceptance_worth (sub-fits binary64 _ _) (add-fits binary64 _ _) h)

    switching_angle_at : (j : ℕ) → Claim z served.Switching e Va j (angle_row (site z) j)
    unfolding placed valued rate
    switching_angle_at j =
        let p = figure (price_across z.counts z.wiring e) in
        let b = R z Susceptance e in
        let g = figure (gamma_across z.counts z.wiring e) in
        let h : Alike (sub binary64 (add binary64 (mul binary64 b p) (mul binary64 b dual)) g) (neg (add binary64 (sub binary64 (mul binary64 (neg b) p) (mul binary64 b dual)) g)) =
        rw (mul_neg_left b p) (turned_three (mul binary64 b p) (mul binary64 b dual) g (sub-fits binary64 _ _)) in
        let worth-is : worth z (pull_by_switching e) ≡ add binary64 (sub binary64 (mul binary64 (neg b) p) (mul binary64 b dual)) g = rw (prices_worth, gammas_worth) in
        rw (across_rate (direction served.Switching e) (site z) (pull (site z)) (pull_by_switching e) e j l (switching_pull e) (switching_pull_other e), references_still served.Switching j, plus_still)
        (ends_word z (eqb (from (site z) e) j) (eqb (to (site z) e) j) (pull_by_switching e) _ _ worth-is (add-fits binary64 _ _) (sub-fits binary64 _ _) h)

    -- ---- balance

    susceptance_flow_worth : worth z (flow_by_susceptance e) ≡ mul binary64 (R z Sw e) (sub binary64 (figure (angle z.counts z.wiring e)) (R z Shift e))
    susceptance_flow_worth = rw angle_worth

    switching_flow_worth : worth z (flow_by_switching e) ≡ sub binary64 (mul binary64 (R z Susceptance e) (figure (angle z.counts z.wiring e))) (R z FlowOffset e)
    switching_flow_worth = rw angle_worth

    susceptance_balance_at : (j : ℕ) → Claim z served.BranchSusceptance e NuBal j (balance_row (site z) j)
    unfolding placed valued rate
    susceptance_balance_at j =
        rw (injected_still z served.BranchSusceptance e j, across_rate (direction served.BranchSusceptance e) (site z) (drawn (site z)) (flow_by_susceptance e) e j l (susceptance_drawn e) (susceptance_drawn_other e))
        (ends_less z (eqb (from (site z) e) j) (eqb (to (site z) e) j) (flow_by_susceptance e) _ susceptance_flow_worth (mul-fits binary64 _ _))

    switching_balance_at : (j : ℕ) → Claim z served.Switching e NuBal j (balance_row (site z) j)
    unfolding placed valued rate
    switching_balance_at j =
        rw (injected_still z served.Switching e j, across_rate (direction served.Switching e) (site z) (drawn (site z)) (flow_by_switching e) e j l (switching_drawn e) (switching_drawn_other e))
        (ends_less z (eqb (from (site z) e) j) (eqb (to (site z) e) j) (flow_by_switching e) _ switching_flow_worth (sub-fits binary64 _ _))

    -- ---- the flow law, and the angle limits

    susceptance_flow_own : Claim z served.BranchSusceptance e NuFlow e (flow_law_row (site z) e)
    unfolding placed valued rate
    susceptance_flow_own = rw (eq-eqb e e refl, angle_worth) (nought_plus _ (mul-fits binary64 _ _))

    susceptance_flow_at : (j : ℕ) → Dec (e ≡ j) → Claim z served.BranchSusceptance e NuFlow j (flow_law_row (site z) j)
    unfolding placed valued rate
    susceptance_flow_at j (yes q) = subst (λ (x : ℕ). Claim z served.BranchSusceptance e NuFlow x (flow_law_row (site z) x)) q susceptance_flow_own
    susceptance_flow_at j (no d) = rw (ne_eqb e j d, ne_eqb j e (λ q. d (sym q)))

    switching_flow_own : Claim z served.Switching e NuFlow e (flow_law_row (site z) e)
    unfolding placed valued rate
    switching_flow_own = rw (eq-eqb e e refl, angle_worth) (nought_plus _ (sub-fits binary64 _ _))

    switching_flow_at : (j : ℕ) → Dec (e ≡ j) → Claim z served.Switching e NuFlow j (flow_law_row (site z) j)
    unfolding placed valued rate
    switching_flow_at j (yes q) = subst (λ (x : ℕ). Claim z served.Switching e NuFlow x (flow_law_row (site z) x)) q switching_flow_own
    switching_flow_at j (no d) = rw (ne_eqb e j d, ne_eqb j e (λ q. d (sym q)))

    floor_own : Claim z served.Switching e GammaLb e (row_of (angle_floor (site z) e) none).1
    unfolding placed valued rate
    floor_own = rw (eq-eqb e e refl, angle_worth, word z entries.GammaLb refl e l) (nought_plus _ (mul-fits binary64 _ _))

    floor_at : (j : ℕ) → Dec (e ≡ j) → Claim z served.Switching e GammaLb j (row_of (angle_floor (site z) j) none).1
    unfolding placed valued rate
    floor_at j (yes q) = subst (λ (x : ℕ). Claim z served.Switching e GammaLb x (row_of (angle_floor (site z) x) none).1) q floor_own
    floor_at j (no d) = rw (ne_eqb e j d, ne_eqb j e (λ q. d (sym q)))

    ceiling_own : Claim z served.Switching e GammaUb e (row_of (angle_ceiling (site z) e) none).1
    unfolding placed valued rate
    ceiling_own = rw (eq-eqb e e refl, angle_worth, word z entries.GammaUb refl e l) (nought_plus _ (mul-fits binary64 _ _))

    ceiling_at : (j : ℕ) → Dec (e ≡ j) → Claim z served.Switching e GammaUb j (row_of (angle_ceiling (site z) j) none).1
    unfolding placed valued rate
    ceiling_at j (yes q) = subst (λ (x : ℕ). Claim z served.Switching e GammaUb x (row_of (angle_ceiling (site z) x) none).1) q ceiling_own
    ceiling_at j (no d) = rw (ne_eqb e j d, ne_eqb j e (λ q. d (sym q)))

    -- ---- every row of a block

    pub susceptance_angle : At z served.BranchSusceptance e Va
    susceptance_angle j f m row = rw row (susceptance_angle_at j)

    pub susceptance_balance : At z served.BranchSusceptance e NuBal
    susceptance_balance j f m row = rw row (susceptance_balance_at j)

    pub susceptance_flow : At z served.BranchSusceptance e NuFlow
    susceptance_flow j f m row = rw row (susceptance_flow_at j (ℕ_discrete e j))

    pub switching_angle : At z served.Switching e Va
    switching_angle j f m row = rw row (switching_angle_at j)

    pub switching_balance : At z served.Switching e NuBal
    switching_balance j f m row = rw row (switching_balance_at j)

    pub switching_flow : At z served.Switching e NuFlow
    switching_flow j f m row = rw row (switching_flow_at j (ℕ_discrete e j))

    pub switching_floor : At z served.Switching e GammaLb
    switching_floor j f m row = rw row (floor_at j (ℕ_discrete e j))

    pub switching_ceiling : At z served.Switching e GammaUb
    switching_ceiling j f m row = rw row (ceiling_at j (ℕ_discrete e j))
