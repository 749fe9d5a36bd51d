-- A triplet in range, and one that is not zero. Main definitions: `InRange`, `NotZero`. Assumes nothing.
use Rattle.std.specs.Prelude.{ℕ, ◌<◌, ◌≡◌, false}
use Rattle.std.specs.Float.Ieee.{eq}
use Rattle.float64.specs.Values.{nought}
use Rattle.sequence.specs.declared.Triplet.{Triplet}

-- row and column below dim
abbrev pub InRange : ℕ → Triplet → Type 0
InRange dim t = (t.row < dim) × (t.col < dim)

abbrev pub NotZero : Triplet → Type 0
NotZero t = eq t.value nought ≡ false
