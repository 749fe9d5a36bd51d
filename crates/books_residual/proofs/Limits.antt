-- The rows that demand, the costs and the line limit move: balance and the shed demand's ceiling, dispatch, and the flow limits.
-- Main results: `At`, `demand_balance`, `demand_cap`, `quadratic`, `linear`, `limit_floor`, `limit_ceiling`. Assumes nothing.
use mathlib.Core.Path.{◌≡◌, refl, sym, ap, ◌∙◌, subst}
use mathlib.Core.Bool.{Bool, true, false, cond}
use mathlib.Core.List.{[], ◌∷◌}
use Prim.Native.Nat.{ℕ, ◌<◌}
use native.Mathlib.Decide.{ℕ_discrete}
use lib.Dec.{T, eqb}
use lib.Ieee.{Float, binary64, mul, div, lt, of_int, of_bits}
use borrow.Author.Tests.{eq-eqb, ne_eqb}
use Rattle.float64.specs.Values.{nought, whole, tolerance, max_zero}
use Rattle.network.specs.declared.Field.TheVariants.{Susceptance, Sw, FlowOffset, Slopes, Demand}
use Rattle.network.specs.declared.Part.TheVariants.{GenBus}
use Rattle.network.specs.Layout.{allow_shed, wire}
use Rattle.model.specs.Quantities.{shed_cap}
use Rattle.solution.specs.declared.Entry.{Entry}
use Rattle.solution.specs.declared.Entry.TheVariants as entries
use Rattle.solution.specs.Sheet.{pieces, size, solved}
use Rattle.kkt_index.specs.declared.Block.{Block}
use Rattle.kkt_index.specs.declared.Block.TheVariants.{Pg, LamLb, LamUb, RhoLb, RhoUb, MuUb, NuBal}
use Rattle.snapping.specs.Expr.{eval}
use Rattle.snapping.specs.Snap.{snap_sheet, snapped_at, entry_words, plain_words}
use Rattle.parameter_column.specs.declared.Served.{Served}
use Rattle.parameter_column.specs.declared.Served.TheVariants as served
use Rattle.parameter_column.specs.Columns.{valued}
use Rattle.books.specs.Forms.{Form, none, plain}
use Rattle.books.specs.Forms.Form.{rd, var, positive, ◌⊕◌, ◌⊖◌}
use Rattle.books.specs.Manual.{flow_floor, flow_ceiling, shed_spare, shed_ceiling}
use Rattle.books.proofs.Words.{plain_word}
use Rattle.books_residual.specs.Residual.{row_of, dispatch_row, balance_row, injected, across, drawn, segment_pull, generation_pull}
use Rattle.books_residual.specs.Rates.{rate}
use Rattle.books_residual.specs.Rates.Rate.{still}
use Rattle.books_residual.specs.Columns.{direction}
use Rattle.books_residual.proofs.Places.{placed}
use Rattle.books_residual.proofs.Rows.{Held, RowAt}
use Rattle.books_residual.proofs.Still.{names, names_segments, names_across, names_injected, names_generation}
use Rattle.books_residual.proofs.Setting.{Given, R, S, site, Claim}
use Rattle.books_residual.proofs.Quiet.{moved, apart, steady}

zero_times : mul binary64 nought nought ≡ nought
unfolding mul of_bits
zero_times = refl

tolerance_above : lt nought tolerance ≡ true
unfolding lt tolerance whole of_int div of_bits
tolerance_above = refl

-- what is not below the tolerance is above 0
demand_above : (d : Float) → lt (max_zero d) tolerance ≡ false → lt nought d ≡ true
unfolding max_zero
demand_above d h = go (lt nought d) h
  where
    go : (b : Bool) → lt (cond b d nought) tolerance ≡ false → b ≡ true
    go true h = refl
    go false h = sym h ∙ tolerance_above

module _ (z : Given) where
  -- the claim at every row of a block
  abbrev pub At : Served → ℕ → Block → Type 0
  At k i b = (j : ℕ) (f : Form) → Held (site z) (b, j) → RowAt (site z) b j f → Claim z k i b j f

  -- an unknown that the sheet holds is the port's figure
  pub word : (e : Entry)
      → entry_words z.counts z.wiring (pieces z.counts z.wiring) z.readings z.sheet e ≡ plain_words z.counts z.wiring (pieces z.counts z.wiring) z.readings z.sheet e
      → (i : ℕ) → i < size z.counts (pieces z.counts z.wiring) e
      → solved z.counts (pieces z.counts z.wiring) (snap_sheet z.counts z.wiring (pieces z.counts z.wiring) z.readings z.sheet) e i ≡ eval (R z) (S z) (snapped_at z.counts z.wiring e i)
  word e q i l = plain_word z.counts z.wiring (pieces z.counts z.wiring) z.readings z.sheet z.wired e q i l

  -- ---- what stands still in a balance row

  pub injected_still : (k : Served) (i j : ℕ) → rate (direction k i) (injected (site z) j) ≡ still
  injected_still k i j = steady k i [] (injected (site z) j) refl (names_injected [] (site z) j)

  drawn_still : (k : Served) (i : ℕ) → apart (Susceptance ∷ Sw ∷ FlowOffset ∷ []) (moved k) ≡ true → (j : ℕ) → rate (direction k i) (across (site z) (drawn (site z)) j) ≡ still
  unfolding names
  drawn_still k i h j =
      steady k i (Susceptance ∷ Sw ∷ FlowOffset ∷ []) (across (site z) (drawn (site z)) j) h
      (names_across (Susceptance ∷ Sw ∷ FlowOffset ∷ []) (site z) (drawn (site z)) (λ e. refl) j)

  -- ---- the line limit

  floor_at : (i j : ℕ) → j < z.counts.branches → Dec (i ≡ j) → Claim z served.LineLimit i LamLb j (row_of (flow_floor (site z) j) none).1
  unfolding placed valued rate
  floor_at i j l (yes e) = rw (eq-eqb i j e, eq-eqb j i (sym e), word entries.LamLb refl j l) (ap (λ (x : ℕ). plain (S z entries.LamLb x)) e)
  floor_at i j l (no d) = rw (ne_eqb i j d, ne_eqb j i (λ e. d (sym e)))

  pub limit_floor : (i : ℕ) → At served.LineLimit i LamLb
  limit_floor i j f l row = rw row (floor_at i j l (ℕ_discrete i j))

  ceiling_at : (i j : ℕ) → j < z.counts.branches → Dec (i ≡ j) → Claim z served.LineLimit i LamUb j (row_of (flow_ceiling (site z) j) none).1
  unfolding placed valued rate
  ceiling_at i j l (yes e) = rw (eq-eqb i j e, eq-eqb j i (sym e), word entries.LamUb refl j l) (ap (λ (x : ℕ). plain (S z entries.LamUb x)) e)
  ceiling_at i j l (no d) = rw (ne_eqb i j d, ne_eqb j i (λ e. d (sym e)))

  pub limit_ceiling : (i : ℕ) → At served.LineLimit i LamUb
  limit_ceiling i j f l row = rw row (ceiling_at i j l (ℕ_discrete i j))

  -- ---- costs

  -- what a generator's limits, balance, segments and linear rows add to its dispatch row
  abbrev others : ℕ → Form
  others j =
      var (RhoUb, j) ⊖ var (RhoLb, j) ⊖ var (NuBal, wire z.counts z.wiring GenBus j) ⊕ segment_pull (site z) j ⊕ generation_pull (site z) j

  others_still : (k : Served) (i : ℕ) → apart (Slopes ∷ []) (moved k) ≡ true → (j : ℕ) → rate (direction k i) (others j) ≡ still
  unfolding names
  others_still k i h j = steady k i (Slopes ∷ []) (others j) h (rw (names_segments (Slopes ∷ []) (site z) refl j, names_generation (Slopes ∷ []) (site z) j))

  linear_at : (i j : ℕ) → Dec (i ≡ j) → Claim z served.CostLinear i Pg j (dispatch_row (site z) j)
  unfolding placed valued rate
  linear_at i j (yes e) = rw (others_still served.CostLinear i refl j, eq-eqb i j e, eq-eqb j i (sym e))
  linear_at i j (no d) = rw (others_still served.CostLinear i refl j, ne_eqb i j d, ne_eqb j i (λ e. d (sym e)))

  pub linear : (i : ℕ) → At served.CostLinear i Pg
  linear i j f l row = rw row (linear_at i j (ℕ_discrete i j))

  quadratic_at : (i j : ℕ) → j < z.counts.generators → Dec (i ≡ j) → Claim z served.CostQuadratic i Pg j (dispatch_row (site z) j)
  unfolding placed valued rate
  quadratic_at i j l (yes e) =
      rw (others_still served.CostQuadratic i refl j, eq-eqb i j e, eq-eqb j i (sym e), word entries.Pg refl j l)
      (ap (λ (x : ℕ). plain (mul binary64 (whole 2) (S z entries.Pg x))) e)
  quadratic_at i j l (no d) = rw (others_still served.CostQuadratic i refl j, ne_eqb i j d, ne_eqb j i (λ e. d (sym e)))

  pub quadratic : (i : ℕ) → At served.CostQuadratic i Pg
  quadratic i j f l row = rw row (quadratic_at i j l (ℕ_discrete i j))

  -- ---- demand

  balance_at : (i j : ℕ) → Dec (i ≡ j) → Claim z served.Demand i NuBal j (balance_row (site z) j)
  unfolding placed valued rate
  balance_at i j (yes e) = rw (injected_still served.Demand i j, drawn_still served.Demand i refl j, eq-eqb i j e, eq-eqb j i (sym e))
  balance_at i j (no d) = rw (injected_still served.Demand i j, drawn_still served.Demand i refl j, ne_eqb i j d, ne_eqb j i (λ e. d (sym e)))

  pub demand_balance : (i : ℕ) → At served.Demand i NuBal
  demand_balance i j f l row = rw row (balance_at i j (ℕ_discrete i j))

  -- another demand does not move the cap
  cap_off : (b : Bool) (i j : ℕ) → eqb j i ≡ false → rate (direction served.Demand i) (cond b (positive (rd Demand j)) none) ≡ still
  unfolding rate
  cap_off true i j e = rw e
  cap_off false i j e = refl

  -- a bus that is not fixed has demand above 0, and may be shed
  cap_open : (j : ℕ) → j < z.counts.buses → (b : Bool) → eqb (allow_shed z.wiring) 1 ≡ b → (site z).fixed j ≡ false → Claim z served.Demand j MuUb j (row_of (shed_ceiling (site z) j) none).1
  unfolding placed valued rate shed_cap
  cap_open j l true e q =
      let cap : lt (cond (eqb (allow_shed z.wiring) 1) (max_zero (R z Demand j)) nought) tolerance ≡ false = q in
      let loose : lt (max_zero (R z Demand j)) tolerance ≡ false = rw e at cap in
      rw (e, eq-eqb j j refl, word entries.MuUb refl j l, e, loose, demand_above (R z Demand j) loose)
  cap_open j l false e q =
      let cap : lt (cond (eqb (allow_shed z.wiring) 1) (max_zero (R z Demand j)) nought) tolerance ≡ false = q in
      let shut : lt nought tolerance ≡ false = rw e at cap in
      absurd (subst T (sym tolerance_above ∙ shut) tt)

  cap_same : (j : ℕ) → j < z.counts.buses → (b : Bool) → (site z).fixed j ≡ b → Claim z served.Demand j MuUb j (row_of (cond b (shed_spare (site z) j) (shed_ceiling (site z) j)) none).1
  unfolding placed valued rate shed_cap
  cap_same j l true q =
      let fixed : lt (cond (eqb (allow_shed z.wiring) 1) (max_zero (R z Demand j)) nought) tolerance ≡ true = q in
      rw (eq-eqb j j refl, fixed) (ap plain zero_times)
  cap_same j l false q = cap_open j l (eqb (allow_shed z.wiring) 1) refl q

  cap_other : (i j : ℕ) → (i ≡ j → ⊥) → (b : Bool) → Claim z served.Demand i MuUb j (row_of (cond b (shed_spare (site z) j) (shed_ceiling (site z) j)) none).1
  unfolding placed valued rate
  cap_other i j d true = rw (ne_eqb i j d)
  cap_other i j d false = rw (ne_eqb i j d, cap_off _ i j (ne_eqb j i (λ e. d (sym e))))

  cap_at : (i j : ℕ) → j < z.counts.buses → Dec (i ≡ j) → (b : Bool) → (site z).fixed j ≡ b → Claim z served.Demand i MuUb j (row_of (cond b (shed_spare (site z) j) (shed_ceiling (site z) j)) none).1
  cap_at i j l (yes e) b q = subst (λ (x : ℕ). Claim z served.Demand x MuUb j (row_of (cond b (shed_spare (site z) j) (shed_ceiling (site z) j)) none).1) (sym e) (cap_same j l b q)
  cap_at i j l (no d) b q = cap_other i j d b

  pub demand_cap : (i : ℕ) → At served.Demand i MuUb
  demand_cap i j f l row = rw row.1.1 (cap_at i j l (ℕ_discrete i j) row.0 row.1.0)
