-- A loop's next turn: its number fits a word, and one turn less is left.
-- Main results: `next_fits`, `next_less`. Assumes nothing.
use Prim.Native.Nat.{ℕ, ◌+◌, ◌-◌, ◌≤◌, ◌<◌}
use native.Mathlib.Omega.{arith}
use mir.Syntax.{w64}
use mir.Val.{Fits}

pub next_fits : {i n : ℕ} → i < n → n ≤ 1024 → Fits w64 (i + 1)
next_fits h k = omega arith

pub next_less : {i n : ℕ} → i < n → n - (i + 1) < n - i
next_less h = omega arith
