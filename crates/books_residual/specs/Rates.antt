-- The derivative of a formula along a direction in the readings, by the rules of differentiation; what is 0 or 1 is known as such, and 0 is left out of sums and 1 out of products.
-- Main definitions: `Rate`, `rate`, `rate_value`. Assumes nothing.
use Rattle.std.specs.Prelude.{ℕ, Float}
use Rattle.network.specs.declared.Field.{Field}
use Rattle.books.specs.Forms.{Form, none, unit}
use Rattle.books.specs.Forms.Form.{num, rd, var, minus, positive, ◌⊕◌, ◌⊖◌, ◌⊗◌, ◌⊘◌, if_positive}

-- 0, 1, or a formula
pub data Rate : Type 0 where
  still same : Rate
  by : Form → Rate

abbrev pub form_of : Rate → Form
form_of still = none
form_of same = unit
form_of (by x) = x

-- how fast each reading moves
abbrev pub Direction : Type 0
Direction = Field → ℕ → Rate

abbrev pub turned : Rate → Rate
turned still = still
turned same = by (minus unit)
turned (by x) = by (minus x)

abbrev pub plus : Rate → Rate → Rate
plus still y = y
plus same still = same
plus same same = by (unit ⊕ unit)
plus same (by y) = by (unit ⊕ y)
plus (by x) still = by x
plus (by x) same = by (x ⊕ unit)
plus (by x) (by y) = by (x ⊕ y)

abbrev pub less : Rate → Rate → Rate
less still y = turned y
less same still = same
less same same = by (unit ⊖ unit)
less same (by y) = by (unit ⊖ y)
less (by x) still = by x
less (by x) same = by (x ⊖ unit)
less (by x) (by y) = by (x ⊖ y)

-- a rate times a value, a value times a rate, and a rate over a value
abbrev pub times_left : Rate → Form → Rate
times_left still b = still
times_left same b = by b
times_left (by x) b = by (x ⊗ b)

abbrev pub times_right : Form → Rate → Rate
times_right a still = still
times_right a same = by a
times_right a (by x) = by (a ⊗ x)

abbrev pub over : Rate → Form → Rate
over still b = still
over same b = by (unit ⊘ b)
over (by x) b = by (x ⊘ b)

-- the rate where t is above 0, else 0
abbrev pub gated : Form → Rate → Rate
gated t still = still
gated t same = by (if_positive t unit)
gated t (by x) = by (if_positive t x)

module _ (D : Direction) where
  unfoldable pub rate : Form → Rate
  rate (num x) = still
  rate (rd f i) = D f i
  rate (var p) = still
  rate (minus x) = turned (rate x)
  rate (positive x) = gated x (rate x)
  rate (x ⊕ y) = plus (rate x) (rate y)
  rate (x ⊖ y) = less (rate x) (rate y)
  rate (x ⊗ y) = plus (times_left (rate x) y) (times_right x (rate y))
  rate (x ⊘ y) = less (over (rate x) y) (times_right (x ⊘ y) (over (rate y) y))
  rate (if_positive t x) = gated t (rate x)

abbrev pub rate_value : (Form → Float) → Rate → Float
rate_value v r = v (form_of r)
