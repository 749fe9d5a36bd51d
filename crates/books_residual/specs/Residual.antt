-- Boyd and Vandenberghe's KKT residual (11.53), at 1/t = 0, of the MATPOWER manual's DC program: a row for each unknown, in readings and unknowns as they are.
-- r_dual = ∇f0 + Df' λ + A' ν at a variable, −λ f(x) at an inequality's multiplier, and h(x) at an equality's; sums over branches are made branch by branch, as A' (W (A ν)).
-- Main definition: `residual`. Assumes nothing.
use Rattle.std.specs.Prelude.{ℕ, zero, suc, ◌+◌, Bool, cond, List, [], ◌∷◌, ◌++◌, eqb}
use Rattle.float64.specs.Values.{whole}
use Rattle.sequence.specs.Lists.{each}
use Rattle.network.specs.declared.Part.TheVariants.{GenBus, References, FlowTerms, GenerationTerms}
use Rattle.network.specs.declared.Field.TheVariants.{Susceptance, Sw, FlowOffset, Cq, Cl, CShed, Demand, ShuntConductance, HvdcInjection, Slopes}
use Rattle.network.specs.Layout.{wire, segments_at, segment_start}
use Rattle.solution.specs.Sheet.{piece_rank}
use Rattle.kkt_index.specs.declared.Block.TheVariants.{Va, Pg, Flow, Psh, Cost, LamLb, LamUb, GammaLb, GammaUb, RhoLb, RhoUb, MuLb, MuUb, Segments, Linear, NuBal, NuFlow, Eta}
use Rattle.kkt_index.specs.Index.{Shape}
use Rattle.kkt_index.specs.Index.Shape.{free, upper_only, lower_only, two_sided, equality}
use Rattle.books.specs.Forms.{Place, Form, none, unit}
use Rattle.books.specs.Forms.Form.{num, rd, var, minus, ◌⊕◌, ◌⊖◌, ◌⊗◌}
use Rattle.books.specs.Convex.{Kind, Constraint}
use Rattle.books.specs.Convex.Kind.{at_most, equal, vacant}
use Rattle.books.specs.Manual.{Site, from, to, angle, term_coefficient, term_index, flow_term, generation_term, row_value, lower, row_start, flow_floor, flow_ceiling, angle_floor, angle_ceiling, generator_floor, generator_ceiling, shed_lower, shed_upper, segment, row_ceiling, row_floor}

abbrev pub Row : Type 0
Row = Place × Form

-- f 0 + .. + f (n - 1), from +0
unfoldable pub sum_to : (ℕ → Form) → ℕ → Form
sum_to f zero = none
sum_to f (suc n) = sum_to f n ⊕ f n

-- a term where a test passes
abbrev pub given : Bool → Form → Form
given t x = cond t x none

-- −λ f(x), of an inequality; a multiplier without its constraint is 0. An equality has its own row below
abbrev pub centred : Kind → Place → Form → Form
centred (at_most s) p h = var p ⊗ s
centred (equal v) p h = h
centred vacant p h = var p

-- the row of a constraint; h is h(x), of an equality
abbrev pub row_of : Constraint → Form → Row
row_of c h = (c.multiplier, centred c.kind c.multiplier h)

module _ (s : Site) where
  -- ---- branches

  -- −P_f, with P_f = −b sw (θ_f − θ_t) + sw offset
  abbrev pub drawn : ℕ → Form
  drawn e = rd Sw e ⊗ (rd Susceptance e ⊗ angle s e ⊖ rd FlowOffset e)

  -- what the branch's multipliers add to r_dual at its from end: w (ν_f − ν_t) + w ν_flow + sw (γ_ub − γ_lb), where w is −b sw
  abbrev pub pull : ℕ → Form
  pull e =
      rd Sw e ⊗ (minus (rd Susceptance e) ⊗ (var (NuBal, from s e) ⊖ var (NuBal, to s e)))
      ⊖ rd Sw e ⊗ (rd Susceptance e ⊗ var (NuFlow, e))
      ⊕ rd Sw e ⊗ (var (GammaUb, e) ⊖ var (GammaLb, e))

  -- (C_f − C_t)' x, at bus i
  abbrev pub ends : (ℕ → Form) → ℕ → ℕ → Form
  ends x i e = given (eqb (from s e) i) (x e) ⊕ given (eqb (to s e) i) (minus (x e))

  abbrev pub across : (ℕ → Form) → ℕ → Form
  across x i = sum_to (ends x i) s.counts.branches

  -- ---- linear rows

  -- what multiplies a row's gradient in r_dual: upper less lower, or the equality's
  abbrev pub row_dual : Shape → ℕ → Form
  row_dual free x = none
  row_dual upper_only x = var (Linear, x)
  row_dual lower_only x = minus (var (Linear, x))
  row_dual two_sided x = var (Linear, x) ⊖ var (Linear, x + 1)
  row_dual equality x = var (Linear, x)

  -- a row's terms at element j
  abbrev pub term_pull : ℕ → ℕ → Form → ℕ → Form
  term_pull at j d t = given (eqb (term_index s (at + t)) j) (num (term_coefficient s (at + t)) ⊗ d)

  abbrev pub flow_pull : ℕ → Form
  flow_pull e =
      sum_to (λ q. sum_to (term_pull (flow_term s q) e (row_dual (s.shapes q) (row_start s q))) (wire s.counts s.wiring FlowTerms q)) s.counts.rows

  abbrev pub generation_pull : ℕ → Form
  generation_pull j =
      sum_to (λ q. sum_to (term_pull (generation_term s q) j (row_dual (s.shapes q) (row_start s q))) (wire s.counts s.wiring GenerationTerms q)) s.counts.rows

  -- ---- r_dual, at each variable

  abbrev pub angle_row : ℕ → Form
  angle_row j = across pull j ⊕ sum_to (λ k. given (eqb (wire s.counts s.wiring References k) j) (var (Eta, k))) s.counts.references

  abbrev pub segment_pull : ℕ → Form
  segment_pull j =
      sum_to (λ t. rd Slopes (segment_start s.counts s.wiring j + t) ⊗ var (Segments, segment_start s.counts s.wiring j + t)) (segments_at s.counts s.wiring j)

  abbrev pub dispatch_row : ℕ → Form
  dispatch_row j =
      num (whole 2) ⊗ rd Cq j ⊗ var (Pg, j)
      ⊕ rd Cl j
      ⊕ (var (RhoUb, j) ⊖ var (RhoLb, j) ⊖ var (NuBal, wire s.counts s.wiring GenBus j) ⊕ segment_pull j ⊕ generation_pull j)

  abbrev pub flow_row : ℕ → Form
  flow_row e = var (LamUb, e) ⊖ var (LamLb, e) ⊖ var (NuFlow, e) ⊕ flow_pull e

  abbrev pub shed_row : ℕ → Form
  shed_row i = rd CShed i ⊖ var (NuBal, i) ⊕ var (MuUb, i) ⊖ var (MuLb, i)

  -- a piecewise generator's cost variable: 1 less its segments' multipliers
  abbrev pub cost_row : ℕ → List Row
  cost_row j =
      cond (eqb (segments_at s.counts s.wiring j) 0) []
      (((Cost, piece_rank s.counts s.wiring j), unit ⊖ sum_to (λ t. var (Segments, segment_start s.counts s.wiring j + t)) (segments_at s.counts s.wiring j)) ∷ [])

  -- ---- h(x), at each equality

  abbrev pub injected : ℕ → Form
  injected i = sum_to (λ j. given (eqb (wire s.counts s.wiring GenBus j) i) (var (Pg, j))) s.counts.generators

  -- C_g P_g + psh − P_d − G_sh + HVDC − (C_f − C_t)' P_f
  abbrev pub balance_row : ℕ → Form
  balance_row i = injected i ⊕ var (Psh, i) ⊖ rd Demand i ⊖ rd ShuntConductance i ⊕ rd HvdcInjection i ⊕ across drawn i

  abbrev pub flow_law_row : ℕ → Form
  flow_law_row e = var (Flow, e) ⊕ drawn e

  abbrev pub reference_row : ℕ → Form
  reference_row k = var (Va, wire s.counts s.wiring References k)

  abbrev pub level_row : ℕ → Form
  level_row q = row_value s q ⊖ lower s q

  abbrev pub linear_row_count : Shape → ℕ → ℕ → List Row
  linear_row_count free q x = []
  linear_row_count upper_only q x = row_of (row_ceiling s q x) none ∷ []
  linear_row_count lower_only q x = row_of (row_floor s q x) none ∷ []
  linear_row_count two_sided q x = row_of (row_ceiling s q x) none ∷ row_of (row_floor s q (x + 1)) none ∷ []
  linear_row_count equality q x = ((Linear, x), level_row q) ∷ []

  -- ---- all rows, in the order of the blocks

  abbrev single : (ℕ → Row) → ℕ → List Row
  single f i = f i ∷ []

  unfoldable pub residual : List Row
  residual =
      each s.counts.buses (single (λ j. ((Va, j), angle_row j)))
      ++ (each s.counts.generators (single (λ j. ((Pg, j), dispatch_row j)))
      ++ (each s.counts.branches (single (λ e. ((Flow, e), flow_row e)))
      ++ (each s.counts.buses (single (λ i. ((Psh, i), shed_row i)))
      ++ (each s.counts.generators cost_row
      ++ (each s.counts.branches (single (λ e. row_of (flow_floor s e) none))
      ++ (each s.counts.branches (single (λ e. row_of (flow_ceiling s e) none))
      ++ (each s.counts.branches (single (λ e. row_of (angle_floor s e) none))
      ++ (each s.counts.branches (single (λ e. row_of (angle_ceiling s e) none))
      ++ (each s.counts.generators (single (λ j. row_of (generator_floor s j) none))
      ++ (each s.counts.generators (single (λ j. row_of (generator_ceiling s j) none))
      ++ (each s.counts.buses (single (λ i. row_of (shed_lower s i) (var (Psh, i))))
      ++ (each s.counts.buses (single (λ i. row_of (shed_upper s i) none))
      ++ (each s.counts.generators (λ j. each (segments_at s.counts s.wiring j) (λ t. row_of (segment s j t) none ∷ []))
      ++ (each s.counts.rows (λ q. linear_row_count (s.shapes q) q (row_start s q))
      ++ (each s.counts.buses (single (λ i. ((NuBal, i), balance_row i)))
      ++ (each s.counts.branches (single (λ e. ((NuFlow, e), flow_law_row e)))
      ++ each s.counts.references (single (λ k. ((Eta, k), reference_row k)))))))))))))))))))
