-- The MATPOWER manual's DC model ("DC Modeling", 3.7) and DC OPF ("Standard DC OPF" and "Standard Extensions", chapter 6) as a program, for a network whose branches may be switched and whose demand may be shed.
-- The unknowns are named by the blocks of 01's layout. Main definitions: `bbus`, `program`. Assumes nothing.
use Rattle.std.specs.Prelude.{ℕ, zero, suc, ◌+◌, Bool, true, false, cond, List, [], ◌∷◌, ◌++◌, get_or, eqb, Float}
use Rattle.std.specs.Float.{nan}
use Rattle.float64.specs.Values.{whole}
use Rattle.sequence.specs.Lists.{before, each, when}
use Rattle.network.specs.declared.Counts.{Counts}
use Rattle.network.specs.declared.Part.TheVariants.{BrFrom, BrTo, GenBus, References, FlowTerms, GenerationTerms}
use Rattle.network.specs.declared.Field.TheVariants.{BaseMva, Susceptance, Sw, FlowOffset, Fmax, Angmin, Angmax, Gmin, Gmax, Cq, Cl, CShed, Demand, ShuntConductance, HvdcInjection, Slopes, Intercepts, UpperMw, LowerMw}
use Rattle.network.specs.Layout.{allow_shed, wire, segments_at, segment_start, term_start}
use Rattle.solution.specs.Sheet.{piece_rank}
use Rattle.kkt_index.specs.declared.Block.{Block}
use Rattle.kkt_index.specs.declared.Block.TheVariants.{Va, Pg, Flow, Psh, Cost, LamLb, LamUb, GammaLb, GammaUb, RhoLb, RhoUb, MuLb, MuUb, Segments, Linear, NuBal, NuFlow, Eta}
use Rattle.kkt_index.specs.Index.{Shape, width}
use Rattle.kkt_index.specs.Index.Shape.{free, upper_only, lower_only, two_sided, equality}
use Rattle.books.specs.Forms.{Place, Form, none, unit}
use Rattle.books.specs.Forms.Form.{num, rd, var, minus, positive, ◌⊕◌, ◌⊖◌, ◌⊗◌, ◌⊘◌}
use Rattle.books.specs.Convex.{Gradient, Constraint, constraint, Program}
use Rattle.books.specs.Convex.Kind.{at_most, equal, vacant}
use Rattle.books.specs.Convex.Convention.{straight, turned}

-- what shapes the program: the wiring, the terms of the linear rows and which limits they have, and which buses are fixed
pub record Site : Type 0 where
  pub counts : Counts
  pub wiring : List ℕ
  pub indexes : List ℕ
  pub coefficients : List Float
  pub shapes : ℕ → Shape
  pub fixed : ℕ → Bool

module _ (s : Site) where
  abbrev pub from : ℕ → ℕ
  from e = wire s.counts s.wiring BrFrom e

  abbrev pub to : ℕ → ℕ
  to e = wire s.counts s.wiring BrTo e

  -- ---- "DC Modeling": branches

  -- θ_f − θ_t, a row of C_f − C_t times the angles
  abbrev pub angle : ℕ → Form
  angle e = var (Va, from e) ⊖ var (Va, to e)

  -- the manual's b_i = 1 / (x τ), 0 where the branch is open; the network's b is the series susceptance, its negative
  abbrev pub weight : ℕ → Form
  weight e = minus (rd Susceptance e) ⊗ rd Sw e

  -- P_f,shift = −b_i θ_shift, a reading of its own; 0 where the branch is open
  abbrev pub shift_flow : ℕ → Form
  shift_flow e = rd Sw e ⊗ rd FlowOffset e

  -- P_f = B_f θ + P_f,shift, where B_f is diag(b) (C_f − C_t)
  abbrev pub flow_law : ℕ → Constraint
  flow_law e =
      constraint (equal turned) (NuFlow, e) (((Flow, e), unit) ∷ ((Va, from e), minus (weight e)) ∷ ((Va, to e), weight e) ∷ [])
      (shift_flow e)

  -- ---- "DC Modeling": buses

  -- more or less a branch's b_i, where the two ends meet the cell
  abbrev pub product : Bool → Bool → ℕ → Form → Form
  product true up e a = cond up (a ⊕ weight e) (a ⊖ weight e)
  product false up e a = a

  abbrev pub meets : ℕ → ℕ → ℕ → ℕ → Bool
  meets i j u v = cond (eqb u i) (eqb v j) false

  -- B_bus = (C_f − C_t)' B_f: of each branch the products of its two ends, f with f, t with t, f with t, t with f
  unfoldable pub bbus_to : ℕ → ℕ → ℕ → Form
  bbus_to i j zero = none
  bbus_to i j (suc e) =
      product (meets i j (to e) (from e)) false e
      (product (meets i j (from e) (to e)) false e
      (product (meets i j (to e) (to e)) true e (product (meets i j (from e) (from e)) true e (bbus_to i j e))))

  abbrev pub bbus : ℕ → ℕ → Form
  bbus i j = bbus_to i j s.counts.branches

  -- P_bus,shift = (C_f − C_t)' P_f,shift
  unfoldable pub bus_shift_to : ℕ → ℕ → Form
  bus_shift_to i zero = none
  bus_shift_to i (suc e) =
      let a = cond (eqb (from e) i) (bus_shift_to i e ⊕ shift_flow e) (bus_shift_to i e) in cond (eqb (to e) i) (a ⊖ shift_flow e) a

  abbrev pub bus_shift : ℕ → Form
  bus_shift i = bus_shift_to i s.counts.branches

  -- generator j in bus i's row of C_g
  abbrev pub generator_at : ℕ → ℕ → Gradient
  generator_at i j = when (eqb (wire s.counts s.wiring GenBus j) i) (((Pg, j), unit) ∷ [])

  -- B_bus θ + P_bus,shift + P_d + G_sh = C_g P_g, with shed demand and HVDC lines among the injections
  abbrev pub balance : ℕ → Constraint
  balance i =
      constraint (equal turned) (NuBal, i)
      (each s.counts.buses (λ j. ((Va, j), minus (bbus i j)) ∷ []) ++ (each s.counts.generators (generator_at i) ++ ((Psh, i), unit) ∷ []))
      (rd Demand i ⊕ (rd ShuntConductance i ⊕ bus_shift i ⊖ rd HvdcInjection i))

  -- the angle of a reference bus is 0
  abbrev pub reference : ℕ → Constraint
  reference r = constraint (equal straight) (Eta, r) (((Va, wire s.counts s.wiring References r), unit) ∷ []) none

  -- ---- "Standard DC OPF": limits

  -- −F_max ≤ P_f ≤ F_max
  abbrev pub flow_floor : ℕ → Constraint
  flow_floor e = constraint (at_most (var (Flow, e) ⊕ rd Fmax e)) (LamLb, e) (((Flow, e), minus unit) ∷ []) (rd Fmax e)

  abbrev pub flow_ceiling : ℕ → Constraint
  flow_ceiling e = constraint (at_most (rd Fmax e ⊖ var (Flow, e))) (LamUb, e) (((Flow, e), unit) ∷ []) (rd Fmax e)

  -- bounds on P_g
  abbrev pub generator_floor : ℕ → Constraint
  generator_floor j = constraint (at_most (var (Pg, j) ⊖ rd Gmin j)) (RhoLb, j) (((Pg, j), minus unit) ∷ []) (minus (rd Gmin j))

  abbrev pub generator_ceiling : ℕ → Constraint
  generator_ceiling j = constraint (at_most (rd Gmax j ⊖ var (Pg, j))) (RhoUb, j) (((Pg, j), unit) ∷ []) (rd Gmax j)

  -- "Branch Angle Difference Limits", both sides times sw, so that an open branch has none
  abbrev pub angle_floor : ℕ → Constraint
  angle_floor e =
      constraint (at_most (rd Sw e ⊗ (angle e ⊖ rd Angmin e))) (GammaLb, e) (((Va, from e), minus (rd Sw e)) ∷ ((Va, to e), rd Sw e) ∷ [])
      (minus (rd Sw e) ⊗ rd Angmin e)

  abbrev pub angle_ceiling : ℕ → Constraint
  angle_ceiling e =
      constraint (at_most (rd Sw e ⊗ (rd Angmax e ⊖ angle e))) (GammaUb, e) (((Va, from e), rd Sw e) ∷ ((Va, to e), minus (rd Sw e)) ∷ [])
      (rd Sw e ⊗ rd Angmax e)

  -- shed demand, 0 to the cap: "the larger of demand and 0 if allow_shed, else 0"
  abbrev pub cap : ℕ → Form
  cap i = cond (eqb (allow_shed s.wiring) 1) (positive (rd Demand i)) none

  abbrev pub shed_floor : ℕ → Constraint
  shed_floor i = constraint (at_most (var (Psh, i))) (MuLb, i) (((Psh, i), minus unit) ∷ []) none

  abbrev pub shed_ceiling : ℕ → Constraint
  shed_ceiling i = constraint (at_most (cap i ⊖ var (Psh, i))) (MuUb, i) (((Psh, i), unit) ∷ []) (cap i)

  -- a fixed bus: one equality, that nothing is shed, whose multiplier is the floor's; the ceiling's is 0
  abbrev pub shed_none : ℕ → Constraint
  shed_none i = constraint (equal turned) (MuLb, i) (((Psh, i), unit) ∷ []) none

  abbrev pub shed_spare : ℕ → Constraint
  shed_spare i = constraint vacant (MuUb, i) (((Psh, i), unit) ∷ []) none

  abbrev pub shed_lower : ℕ → Constraint
  shed_lower i = cond (s.fixed i) (shed_none i) (shed_floor i)

  abbrev pub shed_upper : ℕ → Constraint
  shed_upper i = cond (s.fixed i) (shed_spare i) (shed_ceiling i)

  -- ---- "Piecewise Linear Costs": the constrained cost variable y is above every segment line, slope p + intercept ≤ y

  abbrev pub segment : ℕ → ℕ → Constraint
  segment j t =
      let x = segment_start s.counts s.wiring j + t in
      let y = piece_rank s.counts s.wiring j in
      constraint (at_most (var (Cost, y) ⊖ rd Slopes x ⊗ var (Pg, j) ⊖ rd Intercepts x)) (Segments, x)
      (((Pg, j), rd Slopes x) ∷ ((Cost, y), minus unit) ∷ [])
      (minus (rd Intercepts x))

  abbrev pub segments : ℕ → List Constraint
  segments j = each (segments_at s.counts s.wiring j) (λ t. segment j t ∷ [])

  -- ---- "User-defined Constraints": l ≤ A x ≤ u, of flows and dispatch

  abbrev pub term_coefficient : ℕ → Float
  term_coefficient t = get_or s.coefficients t nan

  abbrev pub term_index : ℕ → ℕ
  term_index t = get_or s.indexes t 0

  -- where the row's flow terms and its generation terms start
  abbrev pub flow_term : ℕ → ℕ
  flow_term q = term_start s.counts s.wiring q

  abbrev pub generation_term : ℕ → ℕ
  generation_term q = term_start s.counts s.wiring q + wire s.counts s.wiring FlowTerms q

  -- the row's terms, each coefficient taken as it is or negatively
  abbrev pub row_terms : (Float → Form) → ℕ → Gradient
  row_terms sign q =
      each (wire s.counts s.wiring FlowTerms q) (λ t. ((Flow, term_index (flow_term q + t)), sign (term_coefficient (flow_term q + t))) ∷ [])
      ++ each (wire s.counts s.wiring GenerationTerms q) (λ t. ((Pg, term_index (generation_term q + t)), sign (term_coefficient (generation_term q + t))) ∷ [])

  abbrev pub turned_num : Float → Form
  turned_num x = minus (num x)

  -- so many terms from a place on, each times its variable, summed from +0
  unfoldable pub row_sum : Block → ℕ → ℕ → Form
  row_sum b at zero = none
  row_sum b at (suc t) = row_sum b at t ⊕ num (term_coefficient (at + t)) ⊗ var (b, term_index (at + t))

  -- A x, its limits in per unit
  abbrev pub row_value : ℕ → Form
  row_value q =
      row_sum Flow (flow_term q) (wire s.counts s.wiring FlowTerms q) ⊕ row_sum Pg (generation_term q) (wire s.counts s.wiring GenerationTerms q)

  abbrev pub upper : ℕ → Form
  upper q = rd UpperMw q ⊘ rd BaseMva 0

  abbrev pub lower : ℕ → Form
  lower q = rd LowerMw q ⊘ rd BaseMva 0

  -- linear row q, whose constraint is of rank x
  abbrev pub row_ceiling : ℕ → ℕ → Constraint
  row_ceiling q x = constraint (at_most (upper q ⊖ row_value q)) (Linear, x) (row_terms num q) (upper q)

  abbrev pub row_floor : ℕ → ℕ → Constraint
  row_floor q x = constraint (at_most (row_value q ⊖ lower q)) (Linear, x) (row_terms turned_num q) (minus (lower q))

  abbrev pub row_level : ℕ → ℕ → Constraint
  row_level q x = constraint (equal straight) (Linear, x) (row_terms num q) (lower q)

  abbrev pub row_constraints : Shape → ℕ → ℕ → List Constraint
  row_constraints free q x = []
  row_constraints upper_only q x = row_ceiling q x ∷ []
  row_constraints lower_only q x = row_floor q x ∷ []
  row_constraints two_sided q x = row_ceiling q x ∷ row_floor q (x + 1) ∷ []
  row_constraints equality q x = row_level q x ∷ []

  -- how many constraints the rows before q have
  abbrev pub row_start : ℕ → ℕ
  row_start q = before (λ i. width (s.shapes i)) q

  -- ---- the objective: cq p² + cl p + cc for a generator, its cost variable, and a price for shed demand

  abbrev pub hessian : ℕ → List (Place × Place × Form)
  hessian j = ((Pg, j), (Pg, j), num (whole 2) ⊗ rd Cq j) ∷ []

  abbrev pub costs : List (Place × Form)
  costs =
      each s.counts.generators (λ j. ((Pg, j), rd Cl j) ∷ [])
      ++ (each s.counts.buses (λ i. ((Psh, i), rd CShed i) ∷ [])
      ++ each s.counts.generators (λ j. cond (eqb (segments_at s.counts s.wiring j) 0) [] (((Cost, piece_rank s.counts s.wiring j), unit) ∷ [])))

  abbrev single : (ℕ → Constraint) → ℕ → List Constraint
  single f i = f i ∷ []

  unfoldable pub constraints : List Constraint
  constraints =
      each s.counts.buses (single balance)
      ++ (each s.counts.branches (single flow_law)
      ++ (each s.counts.references (single reference)
      ++ (each s.counts.branches (single flow_floor)
      ++ (each s.counts.branches (single flow_ceiling)
      ++ (each s.counts.generators (single generator_floor)
      ++ (each s.counts.generators (single generator_ceiling)
      ++ (each s.counts.buses (single shed_lower)
      ++ (each s.counts.buses (single shed_upper)
      ++ (each s.counts.branches (single angle_floor)
      ++ (each s.counts.branches (single angle_ceiling)
      ++ (each s.counts.generators segments
      ++ each s.counts.rows (λ q. row_constraints (s.shapes q) q (row_start q)))))))))))))

  unfoldable pub program : Program
  program = record {
    hessian = each s.counts.generators hessian;
    costs = costs;
    constraints = constraints;
  }
