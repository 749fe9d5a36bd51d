-- Every slot of the matrix: each reading that its expression names is in range, and the slot's cell is among that reading's cells.
-- Readings that no kind sets need no cell. Main result: `slots_good`. Assumes nothing.
use Prim.Native.Nat.{ℕ, zero, suc, ◌+◌, ◌<◌}
use mathlib.Core.Path.{◌≡◌, refl, sym, subst, subst₂}
use mathlib.Core.Logic.{◌⊎◌, inl, inr}
use mathlib.Core.Bool.{Bool, true, false, ◌&&◌}
use mathlib.Core.List.{List, [], ◌∷◌, ◌++◌}
use native.Mathlib.Omega.{arith}
use lib.ListN.{length, get_or}
use lib.Dec.{T, eqb, ltb, ltb→lt, eqb→eq}
use lib.Ieee.{Float}
use Rattle.sequence.specs.Lists.{when}
use Rattle.sequence.specs.Facts.{All}
use Rattle.sequence.specs.Facts.All.{done, ◌&◌}
use Rattle.sequence.proofs.Facts.{all_append, all_each, all_when}
use Rattle.network.specs.declared.Counts.{Counts}
use Rattle.network.specs.declared.Field.{Field}
use Rattle.network.specs.declared.Field.TheVariants.{BaseMva, Susceptance, Sw, Shift, FlowOffset, Fmax, Angmin, Angmax, Gmin, Gmax, Cq, Cl, Cc, CShed, Demand, ShuntConductance, HvdcInjection, Slopes, Intercepts, UpperMw, LowerMw}
use Rattle.network.specs.declared.Part.TheVariants.{BrFrom, BrTo}
use Rattle.network.specs.Layout.{wire, size, segments_at, segment_start}
use Rattle.network.specs.Numbers.{Wired}
use Rattle.model.proofs.Runs.{segments_inside}
use Rattle.susceptance.specs.Susceptance.{is_cell}
use Rattle.solution.specs.declared.Entry.{Entry}
use Rattle.solution.specs.Sheet.{piece_rank}
use Rattle.kkt_index.specs.declared.Block.{Block}
use Rattle.kkt_index.specs.declared.Block.TheVariants.{Va, Pg, Flow, Psh, Cost, LamLb, LamUb, GammaLb, GammaUb, RhoLb, RhoUb, MuLb, MuUb, Segments, Linear, NuBal, NuFlow, Eta}
use Rattle.kkt_index.specs.Index.{Shape}
use Rattle.kkt_index.specs.Index.Shape.{free, upper_only, lower_only, two_sided, equality}
use Rattle.snapping.specs.Expr.{Expr, unit, less_unit}
use Rattle.snapping.specs.Snap.{shed_of, segment_slack, dot, row_value, upper_slack, lower_slack}
use Rattle.kkt.specs.declared.Side.{Side}
use Rattle.kkt.specs.declared.Side.TheVariants.{Above, Below, Level}
use Rattle.kkt.specs.Slots.{Slot, Site, Rule, start_of, weight_of, gather_at, branch_part, branch_parts, end_slots, incident, va_column, reference_slot, nu_bal_column, psh_column, mu_lb_column, mu_ub_column, gamma_lb_column, gamma_ub_column, nu_flow_column, pg_own, pg_segment, cost_segment, segment_column, segments_of, term_pair, diagonal, side_slots, row_slots, row_part, column_part, columns, turns_of, emission, emission_at, slots}
use Rattle.change_table.specs.Table.{Pair, cells_of}
use Rattle.change_table.proofs.Agree.{Within}

-- ---- membership in a written list

module _ {A : Type 0} where
  abbrev pub In : A → List A → Type 0
  In a [] = ⊥
  In a (x ∷ xs) = (a ≡ x) ⊎ In a xs

  in_at : (l : List A) (n : ℕ) (d : A) → n < length l → In (get_or l n d) l
  in_at [] n d h = absurd (omega arith)
  in_at (x ∷ xs) zero d h = inl refl
  in_at (x ∷ xs) (suc n) d h = inr (in_at xs n d (omega arith))

  -- a fact of every element of a written list, as a product
  abbrev Each : (A → Type 0) → List A → Type 0
  Each P [] = Unit {0}
  Each P (x ∷ xs) = P x × Each P xs

  listed : {P : A → Type 0} {l : List A} → Each P l → All P l
  listed {l = []} h = done
  listed {l = x ∷ xs} h = h.0 & listed {l = xs} h.1

  when_all : {P : A → Type 0} (t : Bool) {l : List A} → (T t → All P l) → All P (when t l)
  unfolding when
  when_all true h = h tt
  when_all false h = done

-- ---- the readings that kinds set

abbrev pub is_set : Field → Bool
is_set Demand = true
is_set Fmax = true
is_set Sw = true
is_set Susceptance = true
is_set Angmin = true
is_set Angmax = true
is_set Cq = true
is_set Gmin = true
is_set Gmax = true
is_set BaseMva = false
is_set Shift = false
is_set FlowOffset = false
is_set Cl = false
is_set Cc = false
is_set CShed = false
is_set ShuntConductance = false
is_set HvdcInjection = false
is_set Slopes = false
is_set Intercepts = false
is_set UpperMw = false
is_set LowerMw = false

module _ (c : Counts) (w : List ℕ) where
  -- reading i of a field may stand in cell p
  abbrev pub Fair : Pair → Field → ℕ → Type 0
  Fair p f i = (i < size c f) × (T (is_set f) → In p (cells_of c w f i))

  abbrev pub Good : Slot → Type 0
  Good x = Within (Fair (x.row, x.col)) x.what

  -- the cell at a place of a reading's cells
  abbrev nth : Field → ℕ → ℕ → Pair
  nth f i n = get_or (cells_of c w f i) n ((Va, 0), (Va, 0))

  fair : (f : Field) (i n : ℕ) → i < size c f → T (ltb n (length (cells_of c w f i))) → Fair (nth f i n) f i
  fair f i n h t = (h, λ s. in_at (cells_of c w f i) n ((Va, 0), (Va, 0)) (ltb→lt n (length (cells_of c w f i)) t))

  -- ---- buses: the readings of the cap, and no others

  shed_good : (p : Pair) (i : ℕ) → Fair p Demand i → Within (Fair p) (shed_of w i)
  shed_good p i h = ((h, tt), tt, tt, tt, (h, tt), tt)

  psh_good : (i : ℕ) → i < c.buses → All Good (psh_column w i)
  psh_good i l =
      let d = fair Demand i 0 l tt in
      let g = fair Demand i 1 l tt in
      listed (
        ((d, tt), tt, tt, ((d, tt), tt, (tt, tt), tt, tt, tt)),
        (
          ((g, tt), tt, tt, ((g, tt), tt, tt, tt, tt, tt)),
          (tt, tt),
        ),
      )

  mu_lb_good : (i : ℕ) → i < c.buses → All Good (mu_lb_column w i)
  mu_lb_good i l =
      let d = fair Demand i 2 l tt in
      listed (tt, (((d, tt), tt, tt, shed_good _ i d), tt))

  mu_ub_good : (i : ℕ) → i < c.buses → All Good (mu_ub_column w i)
  mu_ub_good i l =
      let d = fair Demand i 3 l tt in
      listed (tt, (((d, tt), tt, tt, ((d, tt), shed_good _ i d)), tt))

  -- ---- branches

  gamma_lb_good : (e : ℕ) → e < c.branches → All Good (gamma_lb_column c w e)
  gamma_lb_good e l = listed (fair Sw e 2 l tt, (fair Sw e 3 l tt, ((fair Sw e 12 l tt, ((tt, tt), fair Angmin e 2 l tt)), tt)))

  gamma_ub_good : (e : ℕ) → e < c.branches → All Good (gamma_ub_column c w e)
  gamma_ub_good e l = listed (fair Sw e 6 l tt, (fair Sw e 7 l tt, ((fair Sw e 13 l tt, (fair Angmax e 2 l tt, (tt, tt))), tt)))

  nu_flow_good : (e : ℕ) → e < c.branches → All Good (nu_flow_column c w e)
  nu_flow_good e l =
      listed ((fair Susceptance e 2 l tt, fair Sw e 10 l tt), ((fair Susceptance e 3 l tt, fair Sw e 11 l tt), (tt, tt)))

  from_good : (e : ℕ) → e < c.branches → All Good (end_slots c w (wire c w BrFrom e) unit e)
  from_good e l =
      listed (
        (((((tt, tt), fair Angmin e 0 l tt), tt), fair Sw e 0 l tt), tt),
        (
          ((((fair Angmax e 0 l tt, (tt, tt)), tt), fair Sw e 4 l tt), tt),
          (
            ((fair Susceptance e 0 l tt, fair Sw e 8 l tt), tt),
            tt,
          ),
        ),
      )

  to_good : (e : ℕ) → e < c.branches → All Good (end_slots c w (wire c w BrTo e) less_unit e)
  to_good e l =
      listed (
        (((((tt, tt), fair Angmin e 1 l tt), tt), fair Sw e 1 l tt), tt),
        (
          ((((fair Angmax e 1 l tt, (tt, tt)), tt), fair Sw e 5 l tt), tt),
          (
            ((fair Susceptance e 1 l tt, fair Sw e 9 l tt), tt),
            tt,
          ),
        ),
      )

  incident_good : (j e : ℕ) → e < c.branches → All Good (incident c w j e)
  incident_good j e l =
      all_append
      (when_all (eqb (wire c w BrFrom e) j) (λ t. subst (λ (i : ℕ). All Good (end_slots c w i unit e)) (eqb→eq (wire c w BrFrom e) j t) (from_good e l)))
      (when_all (eqb (wire c w BrTo e) j) (λ t. subst (λ (i : ℕ). All Good (end_slots c w i less_unit e)) (eqb→eq (wire c w BrTo e) j t) (to_good e l)))

  -- ---- the susceptance sums

  -- branch e's weight may stand in cell (i, j) of two blocks
  abbrev Weighs : Block → Block → ℕ → ℕ → ℕ → Type 0
  Weighs a b e i j = Within (Fair ((a, i), (b, j))) (weight_of e)

  gather_good : (a b : Block) (i j p q e : ℕ) (up : Bool) (x : Expr) → Weighs a b e p q → Within (Fair ((a, i), (b, j))) x
      → Within (Fair ((a, i), (b, j))) (gather_at (is_cell i j p q) up e x)
  gather_good a b i j p q e up x h g = go (eqb i p) (eqb j q) (eqb→eq i p) (eqb→eq j q)
    where
      go : (s t : Bool) → (T s → i ≡ p) → (T t → j ≡ q) → Within (Fair ((a, i), (b, j))) (gather_at (s && t) up e x)
      go true true m n = (subst₂ (λ (i j : ℕ). Weighs a b e i j) (sym (m tt)) (sym (n tt)) h, g)
      go true false m n = g
      go false t m n = g

  -- at the four pairs of a branch's ends
  abbrev Touches : Block → Block → ℕ → Type 0
  Touches a b e =
      Weighs a b e (wire c w BrFrom e) (wire c w BrFrom e)
      × Weighs a b e (wire c w BrFrom e) (wire c w BrTo e)
      × Weighs a b e (wire c w BrTo e) (wire c w BrFrom e)
      × Weighs a b e (wire c w BrTo e) (wire c w BrTo e)

  sum_good : (a b : Block) (i j n : ℕ) → ((e : ℕ) → e < n → Touches a b e) → Within (Fair ((a, i), (b, j))) (branch_parts c w i j n)
  unfolding branch_parts
  sum_good a b i j zero h = tt
  sum_good a b i j (suc e) h = step (h e (omega arith)) (sum_good a b i j e (λ m l. h m (omega arith)))
    where
      step : Touches a b e → Within (Fair ((a, i), (b, j))) (branch_parts c w i j e) → Within (Fair ((a, i), (b, j))) (branch_part c w i j e (branch_parts c w i j e))
      step k g =
          gather_good a b i j _ _ e false _ k.2
          (gather_good a b i j _ _ e false _ k.1
          (gather_good a b i j _ _ e true _ k.3
          (gather_good a b i j _ _ e true _ k.0 g)))

  angle_touches : (e : ℕ) → e < c.branches → Touches NuBal Va e
  angle_touches e l = (
    (fair Susceptance e 4 l tt, fair Sw e 14 l tt),
    (fair Susceptance e 5 l tt, fair Sw e 15 l tt),
    (fair Susceptance e 6 l tt, fair Sw e 16 l tt),
    (fair Susceptance e 7 l tt, fair Sw e 17 l tt),
  )

  balance_touches : (e : ℕ) → e < c.branches → Touches Va NuBal e
  balance_touches e l = (
    (fair Susceptance e 8 l tt, fair Sw e 18 l tt),
    (fair Susceptance e 9 l tt, fair Sw e 19 l tt),
    (fair Susceptance e 10 l tt, fair Sw e 20 l tt),
    (fair Susceptance e 11 l tt, fair Sw e 21 l tt),
  )

  reference_good : (rule : Rule) (j k : ℕ) → All Good (reference_slot rule c w j k)
  unfolding reference_slot
  reference_good rule j k = all_when _ (tt & done)

  va_good : (rule : Rule) (j : ℕ) → All Good (va_column rule c w j)
  va_good rule j =
      all_append (all_each c.branches (incident_good j))
      (all_append (all_each c.buses (λ i l. sum_good NuBal Va i j c.branches angle_touches & done))
      (all_each c.references (λ k l. reference_good rule j k)))

  nu_bal_good : (i : ℕ) → All Good (nu_bal_column c w i)
  nu_bal_good i =
      all_append (all_each c.buses (λ r l. sum_good Va NuBal r i c.branches balance_touches & done))
      (all_append (all_each c.generators (λ j l. all_when _ (tt & done)))
      (tt & done))

  -- ---- the linear rows: no kind sets what they read

  module _ (ti : List ℕ) (tc : List Float) where
    dot_good : (P : Field → ℕ → Type 0) (e : Entry) (at n : ℕ) → Within P (dot ti tc e at n)
    unfolding dot
    dot_good P e at zero = tt
    dot_good P e at (suc n) = (dot_good P e at n, (tt, tt))

    value_good : (P : Field → ℕ → Type 0) (q : ℕ) → Within P (row_value c w ti tc q)
    value_good P q = (dot_good P _ _ _, dot_good P _ _ _)

    base_fair : (p : Pair) → Fair p BaseMva 0
    base_fair p = (omega arith, λ z. absurd z)

    upper_good : (p : Pair) (q : ℕ) → q < c.rows → Within (Fair p) (upper_slack c w ti tc q)
    upper_good p q l = (((l, λ z. absurd z), base_fair p), value_good (Fair p) q)

    lower_good : (p : Pair) (q : ℕ) → q < c.rows → Within (Fair p) (lower_slack c w ti tc q)
    lower_good p q l = (value_good (Fair p) q, ((l, λ z. absurd z), base_fair p))

    row_part_good : (s : Side) (p : Pair) (q t : ℕ) → q < c.rows → Within (Fair p) (row_part c w ti tc s q t)
    row_part_good Above p q t l = ((upper_good p q l, tt, tt, tt), tt)
    row_part_good Below p q t l = ((lower_good p q l, tt, tt, tt), tt)
    row_part_good Level p q t l = tt

    column_part_good : (s : Side) (p : Pair) (t : ℕ) → Within (Fair p) (column_part c w ti tc s t)
    column_part_good Above p t = tt
    column_part_good Below p t = tt
    column_part_good Level p t = tt

    pair_good : (s : Side) (q x : ℕ) (b : Block) (t : ℕ) → q < c.rows → All Good (term_pair c w ti tc s q x b t)
    pair_good s q x b t l = row_part_good s _ q t l & column_part_good s _ t & done

    diagonal_good : (s : Side) (q x : ℕ) → q < c.rows → All Good (diagonal c w ti tc s q x)
    diagonal_good Above q x l = upper_good _ q l & done
    diagonal_good Below q x l = lower_good _ q l & done
    diagonal_good Level q x l = done

    side_good : (s : Side) (q x : ℕ) → q < c.rows → All Good (side_slots c w ti tc s q x)
    side_good s q x l =
        all_append
        (all_append (all_each _ (λ t m. pair_good s q x Flow _ l)) (all_each _ (λ t m. pair_good s q x Pg _ l)))
        (diagonal_good s q x l)

    row_good : (f : Shape) (q x : ℕ) → q < c.rows → All Good (row_slots c w ti tc f q x)
    row_good free q x l = done
    row_good upper_only q x l = side_good Above q x l
    row_good lower_only q x l = side_good Below q x l
    row_good two_sided q x l = all_append (side_good Above q x l) (side_good Below q (x + 1) l)
    row_good equality q x l = side_good Level q x l

  -- ---- the generators' segments, whose readings no kind sets

  module _ (h : Wired c w) where
    segment_in : (j t : ℕ) → j < c.generators → t < segments_at c w j → segment_start c w j + t < c.segments
    segment_in j t l m = omega (arith, segments_inside h j l)

    slack_good : (p : Pair) (j g s : ℕ) → s < c.segments → Within (Fair p) (segment_slack j g s)
    slack_good p j g s l = ((tt, ((l, λ z. absurd z), tt)), (l, λ z. absurd z))

    own_good : (j : ℕ) → j < c.generators → All Good (pg_own c w j)
    own_good j l = listed ((tt, fair Cq j 0 l tt), (tt, (tt, (tt, tt))))

    pg_good : (j : ℕ) → j < c.generators → All Good (pg_own c w j ++ segments_of c w pg_segment j)
    pg_good j l = all_append (own_good j l) (all_each _ (λ t m. one (piece_rank c w j) _ (segment_in j t l m)))
      where
        one : (g s : ℕ) → s < c.segments → All Good (pg_segment j g s)
        one g s n = listed (((slack_good ((Segments, s), (Pg, j)) j g s n, tt), (n, λ z. absurd z)), tt)

    cost_good : (j : ℕ) → j < c.generators → All Good (segments_of c w cost_segment j)
    cost_good j l = all_each _ (λ t m. one (piece_rank c w j) _ (segment_in j t l m))
      where
        one : (g s : ℕ) → s < c.segments → All Good (cost_segment j g s)
        one g s n = listed ((slack_good ((Segments, s), (Cost, g)) j g s n, tt), tt)

    segments_good : (j : ℕ) → j < c.generators → All Good (segments_of c w segment_column j)
    segments_good j l = all_each _ (λ t m. one (piece_rank c w j) _ (segment_in j t l m))
      where
        one : (g s : ℕ) → s < c.segments → All Good (segment_column j g s)
        one g s n = listed ((n, λ z. absurd z), (tt, (slack_good ((Segments, s), (Segments, s)) j g s n, tt)))

-- ---- the blocks

module _ (s : Site) (h : Wired s.counts s.wiring) where
  block_good : (b : Block) (i : ℕ) → i < turns_of s.counts b → All (Good s.counts s.wiring) (columns s b i)
  unfolding columns
  block_good Va i l = va_good s.counts s.wiring s.rule i
  block_good Pg i l = pg_good s.counts s.wiring h i l
  block_good Flow i l = tt & tt & tt & done
  block_good Psh i l = psh_good s.counts s.wiring i l
  block_good Cost i l = cost_good s.counts s.wiring h i l
  block_good LamLb i l = listed (tt, ((tt, fair s.counts s.wiring Fmax i 0 l tt), tt))
  block_good LamUb i l = listed (tt, ((fair s.counts s.wiring Fmax i 1 l tt, tt), tt))
  block_good GammaLb i l = gamma_lb_good s.counts s.wiring i l
  block_good GammaUb i l = gamma_ub_good s.counts s.wiring i l
  block_good RhoLb i l = listed (tt, ((tt, fair s.counts s.wiring Gmin i 0 l tt), tt))
  block_good RhoUb i l = listed (tt, ((fair s.counts s.wiring Gmax i 0 l tt, tt), tt))
  block_good MuLb i l = mu_lb_good s.counts s.wiring i l
  block_good MuUb i l = mu_ub_good s.counts s.wiring i l
  block_good Segments i l = segments_good s.counts s.wiring h i l
  block_good Linear i l =
      row_good s.counts s.wiring s.indexes s.coefficients (s.shapes i) i (start_of s i) l
  block_good NuBal i l = nu_bal_good s.counts s.wiring i
  block_good NuFlow i l = nu_flow_good s.counts s.wiring i l
  block_good Eta i l = tt & done

  pub slots_good : All (Good s.counts s.wiring) (slots s)
  unfolding slots
  slots_good = all_each (length emission) (λ b m. all_each _ (block_good (emission_at b)))
