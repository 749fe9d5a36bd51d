-- A generator's turn of a loop over the generators: what it emits of its own, then what its segments emit.
-- Main definition: `turn`. Assumes nothing.
use Rattle.std.specs.Prelude.{ℕ, ◌+◌, ◌≡◌, List, ◌++◌, Option}
use Rattle.sequence.specs.Lists.{each}
use Rattle.sequence.specs.declared.Triplet.{Triplet}
use Rattle.network.specs.declared.Counts.{Counts}
use Rattle.network.specs.Layout.{segments_at, segment_start}
use Rattle.solution.specs.Sheet.{piece_rank}
use Rattle.kkt.specs.Walks.{emits}

-- a call at generator j answers what is emitted there
abbrev pub OwnIs : (ℕ → List (Option Triplet) → Type 0) → (ℕ → List Triplet) → Type 0
OwnIs post f = (j : ℕ) (r : List (Option Triplet)) → post j r → emits r ≡ f j

-- a call at its segment s, whose epigraph is of rank g, answers what is emitted there
abbrev pub SegmentIs : (ℕ → ℕ → ℕ → List (Option Triplet) → Type 0) → (ℕ → ℕ → ℕ → List Triplet) → Type 0
SegmentIs post f = (j g s : ℕ) (r : List (Option Triplet)) → post j g s r → emits r ≡ f j g s

abbrev pub turn : Counts → List ℕ → (ℕ → List Triplet) → (ℕ → ℕ → ℕ → List Triplet) → ℕ → List Triplet
turn c w own of_segment j = own j ++ each (segments_at c w j) (λ t. of_segment j (piece_rank c w j) (segment_start c w j + t))
