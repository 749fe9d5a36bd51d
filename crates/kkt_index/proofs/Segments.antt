-- A generator's segments lie in the whole and its epigraph among the epigraphs.
-- Main results: `segment_inside`, `start_more`. Assumes nothing.
use mathlib.Core.Path.{◌≡◌}
use mathlib.Core.List.{List}
use Prim.Native.Nat.{ℕ, ◌+◌, ◌≤◌, ◌<◌}
use native.Mathlib.Omega.{arith}
use borrow.Author.Tests.{ne_eqb}
use Rattle.sequence.proofs.Lists.{before_within}
use Rattle.network.specs.declared.Counts.{Counts}
use Rattle.network.specs.Layout.{segments_at, segment_start}
use Rattle.network.specs.Numbers.{Wired}
use Rattle.model.proofs.Runs.{segments_inside, segments_more}
use Rattle.solution.specs.Sheet.{piece, piece_rank, pieces}

-- segment t of generator j
pub segment_inside : {c : Counts} {w : List ℕ} → Wired c w → (j t : ℕ) → j < c.generators → t < segments_at c w j
    → (segment_start c w j + t < c.segments) × (piece_rank c w j < pieces c w)
unfolding piece_rank
segment_inside {c} {w} h j t l k =
    let one : piece c w j ≡ 1 = rw (ne_eqb (segments_at c w j) 0 (λ z. absurd (omega arith))) in
    (omega (arith, segments_inside h j l), omega (arith, before_within (piece c w) j c.generators l))

-- where the next generator's segments start
pub start_more : {c : Counts} {w : List ℕ} → Wired c w → (j : ℕ) {start count : ℕ} → j < c.generators → start ≡ segment_start c w j → count ≡ segments_at c w j
    → (start + count ≡ segment_start c w (j + 1)) × ((start + count ≤ c.segments) × (start + count ≤ 1024))
start_more {c} {w} h j l p q =
    (rw (segments_more c w j, p, q), (omega (arith, segments_inside h j l), omega (arith, segments_inside h j l, h.laid.few)))
