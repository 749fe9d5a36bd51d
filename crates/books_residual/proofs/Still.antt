-- Which fields a row of each block names, and that a formula stands still where no field that it names moves.
-- Main results: `names`, `stands`, `fields_of`, `row_names`. Assumes nothing.
use mathlib.Core.Path.{◌≡◌, refl}
use mathlib.Core.Bool.{Bool, true, false, cond, ◌&&◌, ◌||◌}
use mathlib.Core.Logic.{inl, inr}
use mathlib.Core.List.{List, [], ◌∷◌}
use Prim.Native.Nat.{ℕ, zero, suc, ◌+◌}
use lib.Dec.{eqb}
use Rattle.sequence.proofs.Lists.{and_left, and_right}
use Rattle.network.specs.declared.Field.{Field}
use Rattle.network.specs.declared.Field.TheVariants.{BaseMva, Susceptance, Sw, FlowOffset, Fmax, Angmin, Angmax, Gmin, Gmax, Cq, Cl, CShed, Demand, ShuntConductance, HvdcInjection, Slopes, Intercepts, UpperMw, LowerMw}
use Rattle.network.specs.declared.Part.TheVariants.{GenBus, References}
use Rattle.network.specs.Layout.{rank, wire, segments_at}
use Rattle.kkt_index.specs.declared.Block.{Block}
use Rattle.kkt_index.specs.declared.Block.TheVariants.{Va, Pg, Flow, Psh, Cost, LamLb, LamUb, GammaLb, GammaUb, RhoLb, RhoUb, MuLb, MuUb, Segments, Linear, NuBal, NuFlow, Eta}
use Rattle.kkt_index.specs.Index.{Shape}
use Rattle.kkt_index.specs.Index.Shape.{free, upper_only, lower_only, two_sided, equality}
use Rattle.books.specs.Forms.{Form, none}
use Rattle.books.specs.Forms.Form.{num, rd, var, minus, positive, ◌⊕◌, ◌⊖◌, ◌⊗◌, ◌⊘◌, if_positive}
use Rattle.books.specs.Manual.{Site, term_coefficient, term_index, row_sum, row_value, row_start, shed_none, shed_floor, shed_spare, shed_ceiling}
use Rattle.books_residual.specs.Residual.{sum_to, given, row_of, pull, drawn, ends, across, row_dual, term_pull, flow_pull, generation_pull, segment_pull, injected}
use Rattle.books_residual.specs.Rates.{Direction, rate}
use Rattle.books_residual.specs.Rates.Rate.{still}
use Rattle.books_residual.proofs.Rows.{RowAt, LinearAt}

abbrev pub listed : ℕ → List Field → Bool
listed n [] = false
listed n (f ∷ fs) = eqb n (rank f) || listed n fs

-- each field that a formula names is in a list
unfoldable pub names : List Field → Form → Bool
names F (num x) = true
names F (rd f i) = listed (rank f) F
names F (var p) = true
names F (minus x) = names F x
names F (positive x) = names F x
names F (x ⊕ y) = names F x && names F y
names F (x ⊖ y) = names F x && names F y
names F (x ⊗ y) = names F x && names F y
names F (x ⊘ y) = names F x && names F y
names F (if_positive t x) = names F t && names F x

module _ (F : List Field) (D : Direction) (h : (f : Field) (i : ℕ) → listed (rank f) F ≡ true → D f i ≡ still) where
  pub stands : (x : Form) → names F x ≡ true → rate D x ≡ still
  unfolding names rate
  stands (num x) e = refl
  stands (rd f i) e = h f i e
  stands (var p) e = refl
  stands (minus x) e = rw (stands x e)
  stands (positive x) e = rw (stands x e)
  stands (x ⊕ y) e = rw (stands x (and_left (names F x) (names F y) e), stands y (and_right (names F x) (names F y) e))
  stands (x ⊖ y) e = rw (stands x (and_left (names F x) (names F y) e), stands y (and_right (names F x) (names F y) e))
  stands (x ⊗ y) e = rw (stands x (and_left (names F x) (names F y) e), stands y (and_right (names F x) (names F y) e))
  stands (x ⊘ y) e = rw (stands x (and_left (names F x) (names F y) e), stands y (and_right (names F x) (names F y) e))
  stands (if_positive t x) e = rw (stands x (and_right (names F t) (names F x) e))

-- ---- sums

module _ (F : List Field) where
  pub names_sum : (f : ℕ → Form) (n : ℕ) → ((i : ℕ) → names F (f i) ≡ true) → names F (sum_to f n) ≡ true
  unfolding names sum_to
  names_sum f zero h = refl
  names_sum f (suc n) h = rw (names_sum f n h, h n)

  pub names_given : (b : Bool) (x : Form) → names F x ≡ true → names F (given b x) ≡ true
  unfolding names
  names_given true x h = h
  names_given false x h = refl

  module _ (s : Site) where
    names_row : (b : Block) (at n : ℕ) → names F (row_sum s b at n) ≡ true
    unfolding names row_sum
    names_row b at zero = refl
    names_row b at (suc n) = rw (names_row b at n)

    pub names_value : (q : ℕ) → names F (row_value s q) ≡ true
    unfolding names
    names_value q = rw (names_row Flow _ _, names_row Pg _ _)

    pub names_across : (x : ℕ → Form) → ((e : ℕ) → names F (x e) ≡ true) → (i : ℕ) → names F (across s x i) ≡ true
    unfolding names
    names_across x h i = names_sum (ends s x i) s.counts.branches (λ e. rw (names_given (eqb _ i) (x e) (h e), names_given (eqb _ i) (minus (x e)) (h e)))

    names_dual : (f : Shape) (x : ℕ) → names F (row_dual s f x) ≡ true
    unfolding names
    names_dual free x = refl
    names_dual upper_only x = refl
    names_dual lower_only x = refl
    names_dual two_sided x = refl
    names_dual equality x = refl

    names_term : (at j t q : ℕ) → names F (term_pull s at j (row_dual s (s.shapes q) (row_start s q)) t) ≡ true
    unfolding names
    names_term at j t q =
        names_given (eqb (term_index s (at + t)) j) (num (term_coefficient s (at + t)) ⊗ row_dual s (s.shapes q) (row_start s q)) (names_dual (s.shapes q) (row_start s q))

    pub names_flow : (e : ℕ) → names F (flow_pull s e) ≡ true
    names_flow e = names_sum _ s.counts.rows (λ q. names_sum _ _ (λ t. names_term _ e t q))

    pub names_generation : (j : ℕ) → names F (generation_pull s j) ≡ true
    names_generation j = names_sum _ s.counts.rows (λ q. names_sum _ _ (λ t. names_term _ j t q))

    pub names_segments : listed (rank Slopes) F ≡ true → (j : ℕ) → names F (segment_pull s j) ≡ true
    unfolding names
    names_segments h j = names_sum _ (segments_at s.counts s.wiring j) (λ t. rw h)

    pub names_injected : (i : ℕ) → names F (injected s i) ≡ true
    unfolding names
    names_injected i = names_sum _ s.counts.generators (λ j. names_given (eqb (wire s.counts s.wiring GenBus j) i) (var (Pg, j)) refl)

    pub names_references : (j : ℕ) → names F (sum_to (λ k. given (eqb (wire s.counts s.wiring References k) j) (var (Eta, k))) s.counts.references) ≡ true
    unfolding names
    names_references j = names_sum _ s.counts.references (λ k. names_given (eqb (wire s.counts s.wiring References k) j) (var (Eta, k)) refl)

-- ---- the rows

abbrev pub fields_of : Block → List Field
fields_of Va = Susceptance ∷ Sw ∷ []
fields_of Pg = Cq ∷ Cl ∷ Slopes ∷ []
fields_of Flow = []
fields_of Psh = CShed ∷ []
fields_of Cost = []
fields_of LamLb = Fmax ∷ []
fields_of LamUb = Fmax ∷ []
fields_of GammaLb = Sw ∷ Angmin ∷ []
fields_of GammaUb = Sw ∷ Angmax ∷ []
fields_of RhoLb = Gmin ∷ []
fields_of RhoUb = Gmax ∷ []
fields_of MuLb = []
fields_of MuUb = Demand ∷ []
fields_of Segments = Slopes ∷ Intercepts ∷ []
fields_of Linear = UpperMw ∷ LowerMw ∷ BaseMva ∷ []
fields_of NuBal = Demand ∷ ShuntConductance ∷ HvdcInjection ∷ Susceptance ∷ Sw ∷ FlowOffset ∷ []
fields_of NuFlow = Susceptance ∷ Sw ∷ FlowOffset ∷ []
fields_of Eta = []

module _ (s : Site) where
  cap_names : (b : Bool) (i : ℕ) → names (Demand ∷ []) (cond b (positive (rd Demand i)) none) ≡ true
  unfolding names
  cap_names true i = refl
  cap_names false i = refl

  linear_names : (g : Shape) (q a x : ℕ) (f : Form) → LinearAt s g q a x f → names (fields_of Linear) f ≡ true
  unfolding names
  linear_names free q a x f h = absurd h
  linear_names upper_only q a x f h = rw (h.1, names_value (fields_of Linear) s q)
  linear_names lower_only q a x f h = rw (h.1, names_value (fields_of Linear) s q)
  linear_names two_sided q a x f (inl h) = rw (h.1, names_value (fields_of Linear) s q)
  linear_names two_sided q a x f (inr h) = rw (h.1, names_value (fields_of Linear) s q)
  linear_names equality q a x f h = rw (h.1, names_value (fields_of Linear) s q)

  lower_names : (b : Bool) (i : ℕ) (f : Form) → f ≡ (row_of (cond b (shed_none s i) (shed_floor s i)) (var (Psh, i))).1 → names [] f ≡ true
  unfolding names
  lower_names true i f h = rw h
  lower_names false i f h = rw h

  upper_names : (b : Bool) (i : ℕ) (f : Form) → f ≡ (row_of (cond b (shed_spare s i) (shed_ceiling s i)) none).1 → names (Demand ∷ []) f ≡ true
  unfolding names
  upper_names true i f h = rw h
  upper_names false i f h = rw (h, cap_names _ i)

  -- a row names its block's fields
  pub row_names : (b : Block) (i : ℕ) (f : Form) → RowAt s b i f → names (fields_of b) f ≡ true
  unfolding names
  row_names Va i f h =
      rw (h, names_across (fields_of Va) s (pull s) (λ e. refl) i, names_references (fields_of Va) s i)
  row_names Pg i f h = rw (h, names_segments (fields_of Pg) s refl i, names_generation (fields_of Pg) s i)
  row_names Flow i f h = rw (h, names_flow [] s i)
  row_names Psh i f h = rw h
  row_names Cost i f h = rw (h.1, names_sum [] _ _ (λ t. refl))
  row_names LamLb i f h = rw h
  row_names LamUb i f h = rw h
  row_names GammaLb i f h = rw h
  row_names GammaUb i f h = rw h
  row_names RhoLb i f h = rw h
  row_names RhoUb i f h = rw h
  row_names MuLb i f h = lower_names h.0 i f h.1
  row_names MuUb i f h = upper_names h.0 i f h.1.1
  row_names Segments i f h = rw h.1.1
  row_names Linear i f h = linear_names (s.shapes h.0) h.0 (row_start s h.0) i f h.1.1
  row_names NuBal i f h =
      rw (h, names_injected (fields_of NuBal) s i, names_across (fields_of NuBal) s (drawn s) (λ e. refl) i)
  row_names NuFlow i f h = rw h
  row_names Eta i f h = rw h
