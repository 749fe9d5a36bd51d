-- What a figure is made of: an expression over readings, the solution sheet and numbers, in the Rust's grouping. Each operation is rounded once.
-- Main definitions: `Expr`, `eval`. Assumes nothing.
use Rattle.std.specs.Prelude.{ℕ, Bool, true, false, cond, Float}
use Rattle.std.specs.Float.{binary64}
use Rattle.std.specs.Float.Ieee.{add, sub, mul, div, neg, lt, le, eq}
use Rattle.float64.specs.Values.{nought, one, tolerance, max_zero}
use Rattle.network.specs.declared.Field.{Field}
use Rattle.solution.specs.declared.Entry.{Entry}
use Rattle.snapping.specs.States.{bus_state, by_state, limit_state, limit_value}

infixl 65 ◌⊕◌ ◌⊖◌
infixl 70 ◌⊗◌ ◌⊘◌
pub data Expr : Type 0 where
  num : Float → Expr
  -- a reading of the network, and a word of the solution sheet
  rd : Field → ℕ → Expr
  sol : Entry → ℕ → Expr
  -- positive x: the larger of x and 0
  minus positive : Expr → Expr
  ◌⊕◌ ◌⊖◌ ◌⊗◌ ◌⊘◌ : Expr → Expr → Expr
  -- a choice that the wiring makes
  choice : Bool → Expr → Expr → Expr
  -- if_below a b x y: x where a < b, else y; if_at_most a b x y: x where a ≤ b, else y
  if_below if_at_most : Expr → Expr → Expr → Expr → Expr
  -- snapped slack dual: the dual by the state of its limit
  snapped : Expr → Expr → Expr
  -- by_bus cap shed f z c b: by the state of the bus
  by_bus : Expr → Expr → Expr → Expr → Expr → Expr → Expr
  -- gather up w a: a plus w (up) or minus w, and a itself where w is zero
  gather : Bool → Expr → Expr → Expr

abbrev pub gathered : Bool → Float → Float → Float
gathered true w a = cond (eq w nought) a (add binary64 a w)
gathered false w a = cond (eq w nought) a (sub binary64 a w)

module _ (R : Field → ℕ → Float) (S : Entry → ℕ → Float) where
  abbrev pub eval : Expr → Float
  eval (num x) = x
  eval (rd f i) = R f i
  eval (sol e i) = S e i
  eval (minus x) = neg (eval x)
  eval (positive x) = max_zero (eval x)
  eval (x ⊕ y) = add binary64 (eval x) (eval y)
  eval (x ⊖ y) = sub binary64 (eval x) (eval y)
  eval (x ⊗ y) = mul binary64 (eval x) (eval y)
  eval (x ⊘ y) = div binary64 (eval x) (eval y)
  eval (choice t x y) = cond t (eval x) (eval y)
  eval (if_below a b x y) = cond (lt (eval a) (eval b)) (eval x) (eval y)
  eval (if_at_most a b x y) = cond (le (eval a) (eval b)) (eval x) (eval y)
  eval (snapped s d) = limit_value (limit_state (eval s) (eval d)) (eval d)
  eval (by_bus k s f z c b) = by_state (bus_state (eval k) (eval s)) (eval f) (eval z) (eval c) (eval b)
  eval (gather up w a) = gathered up (eval w) (eval a)

-- ---- numbers

abbrev pub none : Expr
none = num nought

abbrev pub unit : Expr
unit = num one

abbrev pub less_unit : Expr
less_unit = num (neg one)

abbrev pub tol : Expr
tol = num tolerance
