-- The loops one after the other put the whole of A, by the layout's own starts, and P's entries the whole of P.
-- Main results: `next`, `a_done`, `quad_done`. Assumes nothing.
use mathlib.Core.Path.{◌≡◌}
use mathlib.Core.List.{List, ◌++◌}
use Prim.Native.Nat.{ℕ, ◌+◌, ◌≤◌}
use lib.Ieee.{Float, binary64, mul}
use Rattle.float64.specs.Values.{whole}
use Rattle.sequence.specs.Lists.{each}
use Rattle.sequence.specs.declared.Triplet.{Triplet}
use Rattle.sequence.specs.declared.Sink.{Sink}
use Rattle.sequence.specs.Sinks.{Gains}
use Rattle.network.specs.declared.Counts.{Counts}
use Rattle.network.specs.declared.Field.TheVariants.{Cq}
use Rattle.network.specs.Layout.{reading}
use Rattle.opf_layout.specs.declared.Active.{Active}
use Rattle.opf_layout.specs.declared.OpfLayout.{OpfLayout}
use Rattle.opf_layout.specs.Layout.{column_in, row_in, column_start, row_start, Placed}
use Rattle.opf_layout.proofs.Counting.{columns_of, rows_of}
use Rattle.program_builder.specs.Builder.{kept}
use Rattle.opf_assembly.specs.Assembly.{Coefficient, blank, triplets, a_entries, quad_triplets}
use Rattle.opf_program.specs.Walks.{written}
use Rattle.opf_program.proofs.Triplets.{written_same, puts_then}
use Rattle.sequence.proofs.Sinks.{done}
use Rattle.opf_layout.specs.declared.OpfColumn.TheVariants.{Pg}

-- A's entries by the layout's own starts
pub a_done : (x : OpfLayout) (c : Counts) (w : List ℕ) (r : List Float) (ti : List ℕ) (tc : List Float) {S₀ S₁ : Sink} (a : Active) → Placed c a x
    → Gains (written x c r (a_entries c w r ti tc)) S₀ S₁ → Gains (triplets c a (reading c r) blank (a_entries c w r ti tc)) S₀ S₁
a_done x c w r ti tc a h p =
    rw (written_same {row_at = row_in x} {rowIs = row_start c a} {column_at = column_in x} {columnIs = column_start c a} (reading c r) blank (rows_of c a x h) (columns_of c a x h) (a_entries c w r ti tc)) at p

-- loops that put one list after the other
module _ (x : OpfLayout) (c : Counts) (r : List Float) where
  pub next : {n e : ℕ} {S₀ S₁ S₂ : Sink} (f : ℕ → List Coefficient) (b : List Coefficient) → e ≡ n → Gains (written x c r (each e f)) S₀ S₁ → Gains (written x c r b) S₁ S₂ → Gains (written x c r (each n f ++ b)) S₀ S₂
  next {n} f b q p t = puts_then (row_in x) (column_in x) (reading c r) blank (each n f) b (rw q at p) t

-- generator j's entry of P, where the columns of the dispatch start
abbrev pub curvature : ℕ → Counts → List Float → ℕ → List Triplet
curvature start c r j = kept (start + j) (start + j) (mul binary64 (whole 2) (reading c r Cq j))

pub quad_put : (c : Counts) (r : List Float) {S₀ S₁ : Sink} (start j : ℕ) {k : ℕ} {v : Float} → k ≡ start → v ≡ reading c r Cq j
    → Gains (kept (k + j) (k + j) (mul binary64 (whole 2) v)) S₀ S₁ → Gains (curvature start c r j) S₀ S₁
quad_put c r start j e f p = rw (e, f) at p

pub quad_done : (c : Counts) (a : Active) (r : List Float) {start t : ℕ} {S₀ S₁ : Sink} → start ≡ column_start c a Pg → t ≤ c.generators → c.generators ≤ t
    → Gains (each t (curvature start c r)) S₀ S₁ → Gains (quad_triplets c a (reading c r) blank) S₀ S₁
unfolding quad_triplets
quad_done c a r {start = start} e g h p = done _ g h (rw e at p)
