-- sens/dc.rs's `parameter_jacobian`: the partial of the KKT residual in one parameter, at the snapped solution. A column begins at +0 everywhere; then its words are set, added to or taken from, in the Rust's order.
-- Main definitions: `marks`, `word_of`, `column_words`, `elements`. Assumes nothing.
use Rattle.std.specs.Prelude.{ℕ, ◌+◌, cond, List, [], ◌∷◌, eqb, Float}
use Rattle.std.specs.Float.{binary64}
use Rattle.std.specs.Float.Ieee.{add, sub}
use Rattle.float64.specs.Values.{nought, whole}
use Rattle.sequence.specs.Lists.{made}
use Rattle.network.specs.declared.Counts.{Counts}
use Rattle.network.specs.declared.Field.{Field}
use Rattle.network.specs.declared.Field.TheVariants.{Susceptance, Sw, Shift, FlowOffset, Angmin, Angmax}
use Rattle.network.specs.declared.Part.TheVariants.{BrFrom, BrTo}
use Rattle.network.specs.Layout.{wire, reading}
use Rattle.model.specs.Rows.{row_limits}
use Rattle.solution.specs.declared.Entry.{Entry}
use Rattle.solution.specs.declared.Entry.TheVariants as entries
use Rattle.solution.specs.Sheet.{solved}
use Rattle.kkt_index.specs.declared.Block.{Block}
use Rattle.kkt_index.specs.declared.Block.TheVariants.{Va, Pg, LamLb, LamUb, GammaLb, GammaUb, MuUb, Linear, NuBal, NuFlow}
use Rattle.kkt_index.specs.Index.{Shape, shape_of, linear_start, linear_row_count, block_start, dim}
use Rattle.kkt_index.specs.Index.Shape.{free, upper_only, lower_only, two_sided, equality}
use Rattle.snapping.specs.Expr.{Expr, eval, none, unit, less_unit}
use Rattle.snapping.specs.Expr.Expr.{num, rd, sol, minus, ◌⊕◌, ◌⊖◌, ◌⊗◌}
use Rattle.snapping.specs.Snap.{mu_ub_of, if_fixed, angle, gamma_ub_of, gamma_lb_of, upper_dual, lower_dual, nu_flow}
use Rattle.parameter_column.specs.declared.How.{How}
use Rattle.parameter_column.specs.declared.How.TheVariants.{Put, Plus, Less}
use Rattle.parameter_column.specs.declared.Served.{Served}
use Rattle.parameter_column.specs.declared.Served.TheVariants as served

-- ---- a word that is touched

-- `=`, `+=` and `-=`
abbrev pub touched : How → Float → Float → Float
touched Put a v = v
touched Plus a v = add binary64 a v
touched Less a v = sub binary64 a v

-- a row by block and index, and what is done there
pub record Mark : Type 0 where
  pub block : Block
  pub index : ℕ
  pub how : How
  pub what : Expr

abbrev pub mark : Block → ℕ → How → Expr → Mark
mark b i h x = record { block = b; index = i; how = h; what = x }

-- the same with its double
pub record Touch : Type 0 where
  pub block : Block
  pub index : ℕ
  pub how : How
  pub value : Float

abbrev pub touch : Block → ℕ → How → Float → Touch
touch b i h v = record { block = b; index = i; how = h; value = v }

-- what a touch leaves of the word in row r, where the blocks start as given
abbrev pub touched_at : (Block → ℕ) → Touch → ℕ → Float → Float
touched_at start t r a = cond (eqb (start t.block + t.index) r) (touched t.how a t.value) a

unfoldable pub word_of : (Block → ℕ) → List Touch → ℕ → Float → Float
word_of start [] r a = a
word_of start (t ∷ ts) r a = word_of start ts r (touched_at start t r a)

unfoldable pub valued : (Field → ℕ → Float) → (Entry → ℕ → Float) → List Mark → List Touch
valued R S [] = []
valued R S (m ∷ ms) = touch m.block m.index m.how (eval R S m.what) ∷ valued R S ms

-- ---- the columns

module _ (c : Counts) (w : List ℕ) where
  abbrev pub from : ℕ → ℕ
  from e = wire c w BrFrom e

  abbrev pub to : ℕ → ℕ
  to e = wire c w BrTo e

  -- nu_bal at the from end less that at the to end
  abbrev pub price_across : ℕ → Expr
  price_across e = sol entries.NuBal (from e) ⊖ sol entries.NuBal (to e)

  abbrev pub gamma_across : ℕ → Expr
  gamma_across e = gamma_ub_of c w e ⊖ gamma_lb_of c w e

  -- "Phase-limit complementarity rows carry sw explicitly"
  abbrev pub gamma_marks : ℕ → List Mark
  gamma_marks e =
      mark GammaLb e Plus (gamma_lb_of c w e ⊗ (angle c w e ⊖ rd Angmin e)) ∷ mark GammaUb e Plus (gamma_ub_of c w e ⊗ (rd Angmax e ⊖ angle c w e)) ∷ []

module _ (c : Counts) (w ti : List ℕ) (tc : List Float) (p : ℕ) (r s : List Float) where
  abbrev pub flow_dual : ℕ → Expr
  flow_dual e = num (nu_flow c w ti tc p r s e)

  -- power balance at both ends, the flow definition, and angle stationarity at both ends
  abbrev pub weight_marks : ℕ → Expr → Expr → Expr → List Mark → List Mark
  weight_marks e flow atFrom atTo rest =
      mark NuBal (from c w e) Plus flow
      ∷ mark NuBal (to c w e) Less flow
      ∷ mark NuFlow e Plus flow
      ∷ mark Va (from c w e) Plus atFrom
      ∷ mark Va (to c w e) Plus atTo
      ∷ rest

  -- "xi_ub (u + delta - a'x), xi_lb (a'x - l - delta), and a'x - e - delta = 0"
  abbrev pub limit_marks : Shape → ℕ → List Mark
  limit_marks free q = []
  limit_marks upper_only q = mark Linear (linear_start c w r q) Put (upper_dual c w ti tc q) ∷ []
  limit_marks lower_only q = mark Linear (linear_start c w r q) Put (minus (lower_dual c w ti tc q)) ∷ []
  limit_marks two_sided q =
      mark Linear (linear_start c w r q) Put (upper_dual c w ti tc q) ∷ mark Linear (linear_start c w r q + 1) Put (minus (lower_dual c w ti tc q)) ∷ []
  limit_marks equality q = mark Linear (linear_start c w r q) Put less_unit ∷ []

  abbrev pub marks : Served → ℕ → List Mark
  -- "d cap / d demand": 0 at a fixed bus
  marks served.Demand i = mark NuBal i Put less_unit ∷ mark MuUb i Put (mu_ub_of w i ⊗ if_fixed w i none unit) ∷ []
  -- "pg stationarity carries 2 cq pg", and cl
  marks served.CostQuadratic j = mark Pg j Put (num (whole 2) ⊗ sol entries.Pg j) ∷ []
  marks served.CostLinear j = mark Pg j Put unit ∷ []
  -- "lam_lb (f + fmax), lam_ub (fmax - f)"
  marks served.LineLimit e = mark LamLb e Put (sol entries.LamLb e) ∷ mark LamUb e Put (sol entries.LamUb e) ∷ []
  -- "Vary both the Laplacian and its affine phase term": sw (dth - shift)
  marks served.BranchSusceptance e =
      weight_marks e (rd Sw e ⊗ (angle c w e ⊖ rd Shift e)) (minus (rd Sw e) ⊗ price_across c w e ⊖ rd Sw e ⊗ flow_dual e) (rd Sw e ⊗ price_across c w e ⊕ rd Sw e ⊗ flow_dual e) []
  -- b dth - offset, and "the explicit sw multiplier in the phase-limit gradient"
  marks served.Switching e =
      weight_marks e (rd Susceptance e ⊗ angle c w e ⊖ rd FlowOffset e) (minus (rd Susceptance e) ⊗ price_across c w e ⊖ rd Susceptance e ⊗ flow_dual e ⊕ gamma_across c w e)
      (rd Susceptance e ⊗ price_across c w e ⊕ rd Susceptance e ⊗ flow_dual e ⊖ gamma_across c w e)
      (gamma_marks c w e)
  marks served.ConstraintLimit q = limit_marks (shape_of (row_limits c w r q)) q

  abbrev pub touches : Served → ℕ → List Touch
  touches k i = valued (reading c r) (solved c p s) (marks k i)

  -- the column of element i: a word for each row of the system
  abbrev pub rows_dim : ℕ
  rows_dim = dim c p (linear_row_count c w r)

  unfoldable pub column_words : Served → ℕ → List Float
  column_words k i = made (λ t. word_of (block_start c p (linear_row_count c w r)) (touches k i) t nought) rows_dim

-- "`parameter_len`": how many elements a parameter has
abbrev pub elements : Counts → Served → ℕ
elements c served.Demand = c.buses
elements c served.CostQuadratic = c.generators
elements c served.CostLinear = c.generators
elements c served.LineLimit = c.branches
elements c served.BranchSusceptance = c.branches
elements c served.Switching = c.branches
elements c served.ConstraintLimit = c.rows
