-- A linear row's duals and slacks by its limits, and where it starts. Main results: `upper_side`, `both_duals`, `both_slacks`, `start_more`. Assumes nothing.
use mathlib.Core.Path.{◌≡◌}
use mathlib.Core.List.{List}
use Prim.Native.Nat.{ℕ, ◌+◌}
use lib.Ieee.{Float, binary64, sub, div}
use Rattle.sequence.proofs.Lists.{before_none, before_more}
use Rattle.network.specs.declared.Counts.{Counts}
use Rattle.network.specs.declared.Field.TheVariants.{BaseMva}
use Rattle.network.specs.Layout.{reading}
use Rattle.model.specs.declared.RowLimits.{RowLimits}
use Rattle.model.specs.declared.RowLimits.TheVariants.{Upper, Lower, Both}
use Rattle.model.specs.Rows.{row_limits}
use Rattle.solution.specs.Sheet.{solved}
use Rattle.kkt_index.specs.Index.{rows_at, linear_start}
use Rattle.snapping.specs.declared.LinearDuals.{LinearDuals}
use Rattle.snapping.specs.Expr.{eval}
use Rattle.snapping.specs.Snap.{row_value, upper_slack, lower_slack, upper_dual, lower_dual, duals}
use Rattle.snapping.proofs.Limits.{slots}

-- by what the row's duals, limits, base and value were found to be
module _ (c : Counts) (w ti : List ℕ) (tc : List Float) (p : ℕ) (r s : List Float) (q : ℕ) {d : LinearDuals} {k : RowLimits} {b v : Float}
    (e : d ≡ duals c w ti tc p r s q) (h : k ≡ row_limits c w r q) (f : b ≡ reading c r BaseMva 0) (g : v ≡ eval (reading c r) (solved c p s) (row_value c w ti tc q)) where
  pub upper_side : {u : Float} → k ≡ Upper u
      → (d.upper ≡ eval (reading c r) (solved c p s) (upper_dual c w ti tc q)) × (sub binary64 (div binary64 u b) v ≡ eval (reading c r) (solved c p s) (upper_slack c w ti tc q))
  unfolding duals
  upper_side m = (rw (e, ← h, m), rw (slots c w r q h m, f, g))

  pub lower_side : {u : Float} → k ≡ Lower u
      → (d.lower ≡ eval (reading c r) (solved c p s) (lower_dual c w ti tc q)) × (sub binary64 v (div binary64 u b) ≡ eval (reading c r) (solved c p s) (lower_slack c w ti tc q))
  unfolding duals
  lower_side m = (rw (e, ← h, m), rw (slots c w r q h m, f, g))

  pub both_duals : {u l : Float} → k ≡ Both u l
      → (d.upper ≡ eval (reading c r) (solved c p s) (upper_dual c w ti tc q)) × (d.lower ≡ eval (reading c r) (solved c p s) (lower_dual c w ti tc q))
  unfolding duals
  both_duals m = (rw (e, ← h, m), rw (e, ← h, m))

  pub both_slacks : {u l : Float} → k ≡ Both u l
      → (sub binary64 (div binary64 u b) v ≡ eval (reading c r) (solved c p s) (upper_slack c w ti tc q)) × (sub binary64 v (div binary64 l b) ≡ eval (reading c r) (solved c p s) (lower_slack c w ti tc q))
  both_slacks m = let z = slots c w r q h m in (rw (z.0, f, g), rw (z.1, f, g))

pub start_none : (c : Counts) (w : List ℕ) (r : List Float) → 0 ≡ linear_start c w r 0
unfolding linear_start
start_none c w r = before_none (rows_at c w r)

pub start_more : (c : Counts) (w : List ℕ) (r : List Float) (q : ℕ) → linear_start c w r (q + 1) ≡ linear_start c w r q + rows_at c w r q
unfolding linear_start
start_more c w r q = before_more (rows_at c w r) q
