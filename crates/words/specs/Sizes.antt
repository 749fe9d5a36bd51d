-- How many bytes numbers have. Assumes nothing.
use Rattle.std.specs.Prelude.{ℕ, zero, suc, ◌≡◌, ◌/◌, ◌<◌, Float, length, refl}
use mathlib.Core.Path.{ap}
use native.Mathlib.Omega.{arith}
use Rattle.std.specs.Float.{binary64}
use Rattle.std.specs.Float.Ieee.{to_bits}
use Rattle.words.specs.Words.{bytes_of, pattern_bytes}

pub four : 0 < 4
four = Prim.omega arith

pub eight : 0 < 8
eight = Prim.omega arith

pub bytes_of_length : (k v : ℕ) → length (bytes_of k v) ≡ k
bytes_of_length zero v = refl
bytes_of_length (suc k) v = ap suc (bytes_of_length k (v / 256))

pub pattern_bytes_length : (x : Float) → length (pattern_bytes x) ≡ 8
pattern_bytes_length x = bytes_of_length 8 (to_bits binary64 x)
