-- The books' formulas: over numbers, the network's readings, and the program's variables and multipliers, each at its place. In doubles each written operation is rounded once.
-- Main definitions: `Form`, `value_of`; `Alike`. Assumes nothing.
use Rattle.std.specs.Prelude.{ℕ, ◌≡◌, cond, Float}
use Rattle.std.specs.Float.{binary64}
use Rattle.std.specs.Float.Ieee.{add, sub, mul, div, neg, lt, eq}
use Rattle.float64.specs.Values.{nought, one, max_zero}
use Rattle.network.specs.declared.Field.{Field}
use Rattle.kkt_index.specs.declared.Block.{Block}

-- a variable or a multiplier: a block of the unknowns, and an index in it
abbrev pub Place : Type 0
Place = Block × ℕ

infixl 65 ◌⊕◌ ◌⊖◌
infixl 70 ◌⊗◌ ◌⊘◌
pub data Form : Type 0 where
  num : Float → Form
  rd : Field → ℕ → Form
  var : Place → Form
  -- positive x: the larger of x and 0
  minus positive : Form → Form
  ◌⊕◌ ◌⊖◌ ◌⊗◌ ◌⊘◌ : Form → Form → Form
  -- if_positive t x: x where t is above 0, else 0
  if_positive : Form → Form → Form

module _ (R : Field → ℕ → Float) (X : Place → Float) where
  abbrev pub value_of : Form → Float
  value_of (num x) = x
  value_of (rd f i) = R f i
  value_of (var p) = X p
  value_of (minus x) = neg (value_of x)
  value_of (positive x) = max_zero (value_of x)
  value_of (x ⊕ y) = add binary64 (value_of x) (value_of y)
  value_of (x ⊖ y) = sub binary64 (value_of x) (value_of y)
  value_of (x ⊗ y) = mul binary64 (value_of x) (value_of y)
  value_of (x ⊘ y) = div binary64 (value_of x) (value_of y)
  value_of (if_positive t x) = cond (lt nought (value_of t)) (value_of x) nought

abbrev pub none : Form
none = num nought

abbrev pub unit : Form
unit = num one

-- a double with the sign of a zero set aside
abbrev pub plain : Float → Float
plain x = cond (eq x nought) nought x

abbrev pub Alike : Float → Float → Type 0
Alike x y = plain x ≡ plain y
