-- The doubles that document 01 names, each with how it is rounded, and its tests and operations on single doubles.
-- Main definitions: `tolerance`, the limits, `within`, `inRange`, `max_zero`. Assumes nothing.
use Rattle.std.specs.Prelude.{ℕ, ◌^◌, Bool, true, false, cond, ◌&&◌, pos, Float}
use Rattle.std.specs.Float.{nan, inf, fin, binary64}
use Rattle.std.specs.Float.Ieee.{add, sub, div, lt, le, of_int, of_bits}

-- +0, at which every sum begins
abbrev pub nought : Float
nought = of_bits binary64 0

abbrev pub one : Float
one = of_bits binary64 0x3ff0_0000_0000_0000

-- a whole number, rounded once
unfoldable pub whole : ℕ → Float
unfolding of_int
whole n = of_int binary64 (pos n)

-- "1 divided by 1,000,000, rounded once"; both operands are exact
unfoldable pub tolerance : Float
unfolding whole
tolerance = div binary64 (whole 1) (whole 1000000)

-- network and raw readings, coefficients, weights and change values: 10^12, exact
unfoldable pub raw_limit : Float
unfolding whole
raw_limit = whole (10 ^ 12)

-- sheet readings and solved columns: 10^15, exact
unfoldable pub sheet_limit : Float
unfolding whole
sheet_limit = whole (10 ^ 15)

-- a parameter sheet: 10^60, rounded once to the nearest double, since 5^60 has more than 53 binary digits
unfoldable pub parameter_limit : Float
unfolding whole
parameter_limit = whole (10 ^ 60)

-- base_mva from 0.001, one thousandth rounded once, to 10^6, exact
unfoldable pub base_low : Float
unfolding whole
base_low = div binary64 (whole 1) (whole 1000)

unfoldable pub base_high : Float
unfolding whole
base_high = whole 1000000

unfoldable pub finite : Float → Bool
finite nan = false
finite (inf s) = false
finite (fin s m e) = true

unfoldable pub magnitude : Float → Float
magnitude nan = nan
magnitude (inf s) = inf false
magnitude (fin s m e) = fin false m e

-- "finite, magnitude at most" a limit
unfoldable pub within : Float → Float → Bool
unfolding finite magnitude
within limit x = finite x && le (magnitude x) limit

-- between two bounds, the bounds included; no NaN is
unfoldable pub in_range : Float → Float → Float → Bool
in_range low high x = le low x && le x high

-- "`max` with 0 gives +0 for either zero"; it gives +0 for a NaN too
unfoldable pub max_zero : Float → Float
max_zero x = cond (lt nought x) x nought

-- x more, or x less, where it is met
abbrev pub add_at : Bool → Float → Float → Float
add_at met x a = cond met (add binary64 a x) a

abbrev pub sub_at : Bool → Float → Float → Float
sub_at met x a = cond met (sub binary64 a x) a
