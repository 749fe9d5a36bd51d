-- Boyd and Vandenberghe, Convex Optimization: any program with affine constraints, and the derivative of its KKT residual.
-- 5.5.3, (5.49): primal and dual feasibility, λ f(x) = 0, and ∇f0 + Σ λ ∇f + Σ ν ∇h = 0.
-- 11.7.1, (11.53): r_dual = ∇f0 + Df' λ + A' ν, r_cent = −diag(λ) f − (1/t) 1, r_pri = A x − b; (11.54), (11.55) its derivative
--   [ ∇²f0           Df'        A' ]
--   [ −diag(λ) Df   −diag(f)    0  ]
--   [ A              0          0  ]
-- which is taken at 1/t = 0. Main definitions: `Constraint`, `Program`, `matrix_of`. Assumes nothing.
use Rattle.std.specs.Prelude.{List, [], ◌∷◌, ◌++◌}
use Rattle.books.specs.Forms.{Place, Form, none, unit}
use Rattle.books.specs.Forms.Form.{var, minus, ◌⊗◌}

-- a row of Df or of A, term by term: a variable's place and its coefficient
abbrev pub Gradient : Type 0
Gradient = List (Place × Form)

-- whether the vector of unknowns holds ν, or −ν in its place
pub data Convention : Type 0 where
  straight turned : Convention

pub data Kind : Type 0 where
  -- f(x) ≤ 0, with −f(x)
  at_most : Form → Kind
  -- h(x) = 0
  equal : Convention → Kind
  -- no constraint: the multiplier's own row says that it is 0, and it stands in r_dual all the same
  vacant : Kind

-- f(x) or h(x) is the gradient times x, less the right side
pub record Constraint : Type 0 where
  pub kind : Kind
  pub multiplier : Place
  pub gradient : Gradient
  pub right : Form

abbrev pub constraint : Kind → Place → Gradient → Form → Constraint
constraint k p g b = record { kind = k; multiplier = p; gradient = g; right = b }

-- f0 = 1/2 x' P x + q' x: P's entries, and q's
pub record Program : Type 0 where
  pub hessian : List (Place × Place × Form)
  pub costs : List (Place × Form)
  pub constraints : List Constraint

-- ---- the matrix

pub record Entry : Type 0 where
  pub row : Place
  pub col : Place
  pub what : Form

abbrev pub entry : Place → Place → Form → Entry
entry r c x = record { row = r; col = c; what = x }

-- Df' or A': in the multiplier's column
abbrev pub entry_in_column : Kind → Form → Form
entry_in_column (at_most s) a = a
entry_in_column (equal straight) a = a
entry_in_column (equal turned) a = minus a
entry_in_column vacant a = a

-- −diag(λ) Df, or A: in the multiplier's row
abbrev pub entry_in_row : Kind → Place → Form → Form
entry_in_row (at_most s) p a = minus (var p) ⊗ a
entry_in_row (equal v) p a = a
entry_in_row vacant p a = none

-- −diag(f), or 0
abbrev pub on_diagonal : Kind → Place → List Entry
on_diagonal (at_most s) p = entry p p s ∷ []
on_diagonal (equal v) p = []
on_diagonal vacant p = entry p p unit ∷ []

unfoldable pub against : Kind → Place → Gradient → List Entry
against k p [] = []
against k p (x ∷ g) = entry p x.0 (entry_in_row k p x.1) ∷ entry x.0 p (entry_in_column k x.1) ∷ against k p g

abbrev pub entries_of : Constraint → List Entry
entries_of c = against c.kind c.multiplier c.gradient ++ on_diagonal c.kind c.multiplier

unfoldable pub constraint_entries : List Constraint → List Entry
constraint_entries [] = []
constraint_entries (c ∷ cs) = entries_of c ++ constraint_entries cs

unfoldable pub hessian_entries : List (Place × Place × Form) → List Entry
hessian_entries [] = []
hessian_entries (x ∷ xs) = entry x.0 x.1 x.2 ∷ hessian_entries xs

-- (11.55)
abbrev pub matrix_of : Program → List Entry
matrix_of P = hessian_entries P.hessian ++ constraint_entries P.constraints
