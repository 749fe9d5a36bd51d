-- sens/dc.rs's snapping by 01's rules: `snap`, `snap_linear` and `nu_flow_values`, each figure as an expression.
-- Main definitions: `snapped_at`, `snap_sheet`, `linear_duals`, `duals`, `signed`, `nu_flow`. Assumes nothing.
use Rattle.std.specs.Prelude.{ℕ, zero, suc, ◌+◌, List, [], ◌∷◌, length, get_or, eqb, Float}
use Rattle.std.specs.Float.{nan, binary64}
use Rattle.std.specs.Float.Ieee.{add, sub, mul}
use Rattle.float64.specs.Values.{nought, add_at}
use Rattle.sequence.specs.Lists.{each, made, turns}
use Rattle.network.specs.declared.Counts.{Counts}
use Rattle.network.specs.declared.Field.{Field}
use Rattle.network.specs.declared.Part.TheVariants.{BrFrom, BrTo, FlowTerms, GenerationTerms}
use Rattle.network.specs.declared.Field.TheVariants.{BaseMva, Angmin, Angmax, Demand, Slopes, Intercepts, UpperMw, LowerMw}
use Rattle.network.specs.Layout.{allow_shed, wire, reading, segments_at, segment_start, term_start}
use Rattle.model.specs.Rows.{row_limits}
use Rattle.solution.specs.declared.Entry.{Entry}
use Rattle.solution.specs.declared.Entry.TheVariants.{Va, Pg, Flow, Psh, NuBal, LamUb, LamLb, RhoUb, RhoLb, MuUb, MuLb, GammaUb, GammaLb, Epigraph, SegmentDual, LinearDual, LinearValue, Objective}
use Rattle.solution.specs.Sheet.{entries, size, piece_rank, solved}
use Rattle.kkt_index.specs.Index.{Shape, shape_of}
use Rattle.kkt_index.specs.Index.Shape.{free, upper_only, lower_only, two_sided, equality}
use Rattle.snapping.specs.declared.LinearDuals.{LinearDuals}
use Rattle.snapping.specs.Expr.{Expr, eval, none, tol}
use Rattle.snapping.specs.Expr.Expr.{num, rd, sol, minus, positive, ◌⊕◌, ◌⊖◌, ◌⊗◌, ◌⊘◌, choice, if_below, if_at_most, snapped, by_bus}

-- ---- buses

-- "the larger of demand and 0 if allow_shed, else 0"
abbrev pub cap_of : List ℕ → ℕ → Expr
cap_of w i = choice (eqb (allow_shed w) 1) (positive (rd Demand i)) none

-- the shed: 0 where the bus is fixed or at zero, the cap at the cap
abbrev pub shed_of : List ℕ → ℕ → Expr
shed_of w i = by_bus (cap_of w i) (sol Psh i) none none (cap_of w i) (sol Psh i)

-- mu_lb: at a fixed bus the pair is folded, mu_lb - mu_ub
abbrev pub mu_lb_of : List ℕ → ℕ → Expr
mu_lb_of w i = by_bus (cap_of w i) (sol Psh i) (sol MuLb i ⊖ sol MuUb i) (sol MuLb i) none none

abbrev pub mu_ub_of : List ℕ → ℕ → Expr
mu_ub_of w i = by_bus (cap_of w i) (sol Psh i) none none (sol MuUb i) none

-- x at a fixed bus, y at another
abbrev pub if_fixed : List ℕ → ℕ → Expr → Expr → Expr
if_fixed w i x y = if_below (cap_of w i) tol x y

-- ---- branches

-- the angle across branch e
abbrev pub angle : Counts → List ℕ → ℕ → Expr
angle c w e = sol Va (wire c w BrFrom e) ⊖ sol Va (wire c w BrTo e)

abbrev pub gamma_ub_of : Counts → List ℕ → ℕ → Expr
gamma_ub_of c w e = snapped (rd Angmax e ⊖ angle c w e) (sol GammaUb e)

abbrev pub gamma_lb_of : Counts → List ℕ → ℕ → Expr
gamma_lb_of c w e = snapped (angle c w e ⊖ rd Angmin e) (sol GammaLb e)

-- ---- cost segments: segment s of generator j, whose epigraph is the sheet's word g

abbrev pub segment_slack : ℕ → ℕ → ℕ → Expr
segment_slack j g s = sol Epigraph g ⊖ rd Slopes s ⊗ sol Pg j ⊖ rd Intercepts s

abbrev pub segment_dual : ℕ → ℕ → ℕ → Expr
segment_dual j g s = snapped (segment_slack j g s) (sol SegmentDual s)

-- ---- linear rows

module _ (ti : List ℕ) (tc : List Float) where
  -- the sum of so many terms from a place on, each coefficient times the sheet's word that its index names
  unfoldable pub dot : Entry → ℕ → ℕ → Expr
  dot e at zero = none
  dot e at (suc t) = dot e at t ⊕ num (get_or tc (at + t) nan) ⊗ sol e (get_or ti (at + t) 0)

module _ (c : Counts) (w ti : List ℕ) (tc : List Float) where
  abbrev pub row_value : ℕ → Expr
  row_value q = dot ti tc Flow (term_start c w q) (wire c w FlowTerms q) ⊕ dot ti tc Pg (term_start c w q + wire c w FlowTerms q) (wire c w GenerationTerms q)

  abbrev pub upper_slack : ℕ → Expr
  upper_slack q = rd UpperMw q ⊘ rd BaseMva 0 ⊖ row_value q

  abbrev pub lower_slack : ℕ → Expr
  lower_slack q = row_value q ⊖ rd LowerMw q ⊘ rd BaseMva 0

  -- "linear rows kept up to it"
  abbrev pub upper_dual : ℕ → Expr
  upper_dual q = if_at_most (upper_slack q) tol (positive (sol LinearDual q)) none

  abbrev pub lower_dual : ℕ → Expr
  lower_dual q = if_at_most (lower_slack q) tol (positive (minus (sol LinearDual q))) none

  -- "a `LinearDuals` by value for each row"
  abbrev pub linear_duals : (Field → ℕ → Float) → (Entry → ℕ → Float) → Shape → ℕ → LinearDuals
  linear_duals R S free q = record { upper = nought; lower = nought; equality = nought }
  linear_duals R S upper_only q = record { upper = eval R S (upper_dual q); lower = nought; equality = nought }
  linear_duals R S lower_only q = record { upper = nought; lower = eval R S (lower_dual q); equality = nought }
  linear_duals R S two_sided q = record { upper = eval R S (upper_dual q); lower = eval R S (lower_dual q); equality = nought }
  linear_duals R S equality q = record { upper = nought; lower = nought; equality = S LinearDual q }

  unfoldable pub duals : ℕ → List Float → List Float → ℕ → LinearDuals
  duals p r s q = linear_duals (reading c r) (solved c p s) (shape_of (row_limits c w r q)) q

-- "upper minus lower plus equality"
abbrev pub signed : LinearDuals → Float
signed d = add binary64 (sub binary64 d.upper d.lower) d.equality

-- ---- `snap`: the whole snapped sheet

-- word i of an entry, segment duals aside
abbrev pub snapped_at : Counts → List ℕ → Entry → ℕ → Expr
snapped_at c w Va i = sol Va i
snapped_at c w Pg i = sol Pg i
snapped_at c w Flow i = sol Flow i
snapped_at c w Psh i = shed_of w i
snapped_at c w NuBal i = sol NuBal i
snapped_at c w LamUb i = sol LamUb i
snapped_at c w LamLb i = sol LamLb i
snapped_at c w RhoUb i = sol RhoUb i
snapped_at c w RhoLb i = sol RhoLb i
snapped_at c w MuUb i = mu_ub_of w i
snapped_at c w MuLb i = mu_lb_of w i
snapped_at c w GammaUb i = gamma_ub_of c w i
snapped_at c w GammaLb i = gamma_lb_of c w i
snapped_at c w Epigraph i = sol Epigraph i
snapped_at c w SegmentDual i = sol SegmentDual i
snapped_at c w LinearDual i = sol LinearDual i
snapped_at c w LinearValue i = sol LinearValue i
snapped_at c w Objective i = sol Objective i

module _ (c : Counts) (w : List ℕ) (p : ℕ) (r s : List Float) where
  -- generator j's segment duals
  unfoldable pub segment_words : ℕ → List Float
  segment_words j =
      made (λ t. eval (reading c r) (solved c p s) (segment_dual j (piece_rank c w j) (segment_start c w j + t))) (segments_at c w j)

  unfoldable pub plain_words : Entry → List Float
  plain_words e = made (λ i. eval (reading c r) (solved c p s) (snapped_at c w e i)) (size c p e)

  -- an entry's words: the segment duals generator by generator, the others by index
  abbrev pub entry_words : Entry → List Float
  entry_words Va = plain_words Va
  entry_words Pg = plain_words Pg
  entry_words Flow = plain_words Flow
  entry_words Psh = plain_words Psh
  entry_words NuBal = plain_words NuBal
  entry_words LamUb = plain_words LamUb
  entry_words LamLb = plain_words LamLb
  entry_words RhoUb = plain_words RhoUb
  entry_words RhoLb = plain_words RhoLb
  entry_words MuUb = plain_words MuUb
  entry_words MuLb = plain_words MuLb
  entry_words GammaUb = plain_words GammaUb
  entry_words GammaLb = plain_words GammaLb
  entry_words Epigraph = plain_words Epigraph
  entry_words SegmentDual = each c.generators segment_words
  entry_words LinearDual = plain_words LinearDual
  entry_words LinearValue = plain_words LinearValue
  entry_words Objective = plain_words Objective

  abbrev pub entry_at : ℕ → Entry
  entry_at k = get_or entries k Va

  unfoldable pub snap_sheet : List Float
  snap_sheet = each (length entries) (λ k. entry_words (entry_at k))

module _ (c : Counts) (w ti : List ℕ) (tc : List Float) (p : ℕ) (r s : List Float) where
  -- ---- `snap_linear`: upper, lower, equality of each row

  unfoldable pub dual_words : ℕ → List Float
  dual_words q =
      (duals c w ti tc p r s q).upper ∷ (duals c w ti tc p r s q).lower ∷ (duals c w ti tc p r s q).equality ∷ []

  abbrev pub dual_sheet : List Float
  dual_sheet = each c.rows dual_words

  -- ---- `nu_flow_values`: lam_ub - lam_lb, and then coefficient times signed dual for each flow term of the branch, row by row

  unfoldable pub nu_flow_turn : ℕ → ℕ → ℕ → Float → Float
  nu_flow_turn e q t a =
      add_at (eqb (get_or ti (term_start c w q + t) 0) e) (mul binary64 (get_or tc (term_start c w q + t) nan) (signed (duals c w ti tc p r s q))) a

  unfoldable pub nu_flow_row : ℕ → ℕ → Float → Float
  nu_flow_row e q a = turns (nu_flow_turn e q) a (wire c w FlowTerms q)

  unfoldable pub nu_flow : ℕ → Float
  nu_flow e = turns (nu_flow_row e) (sub binary64 (solved c p s LamUb e) (solved c p s LamLb e)) c.rows

  abbrev pub nu_flow_sheet : List Float
  nu_flow_sheet = made nu_flow c.branches
