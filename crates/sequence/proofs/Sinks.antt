-- The laws of `Gains`, which every loop that puts triplets into a sink cites.
-- Main results: `then`, `more`, `done`. Assumes nothing.
use mathlib.Core.Path.{◌≡◌, refl, ◌∙◌}
use Prim.Native.Nat.{ℕ, ◌+◌, ◌≤◌}
use native.Mathlib.Nat.{le_antisymm}
use mathlib.Core.List.{List, [], ◌++◌}
use Rattle.std.specs.Prelude.{Option}
use Rattle.sequence.specs.Lists.{each}
use Rattle.sequence.specs.declared.Triplet.{Triplet}
use Rattle.sequence.specs.declared.Sink.{Sink}
use Rattle.sequence.specs.Sheets.{emit}
use Rattle.sequence.specs.Sinks.{Gains}
use Rattle.sequence.proofs.Lists.{each_more}
use Rattle.sequence.proofs.Sheets as sheets

-- nothing put in
pub none : {s : Sink} → Gains [] s s
none = record { puts = sheets.none; limit = refl; same_rows = refl; same_cols = refl; same_values = refl }

-- one list put in, then another
pub then : {a b : List Triplet} {s₀ s₁ s₂ : Sink} → Gains a s₀ s₁ → Gains b s₁ s₂ → Gains (a ++ b) s₀ s₂
then p q = record {
  puts = sheets.then p.puts (rw p.limit at q.puts);
  limit = q.limit ∙ p.limit;
  same_rows = q.same_rows ∙ p.same_rows;
  same_cols = q.same_cols ∙ p.same_cols;
  same_values = q.same_values ∙ p.same_values;
}

-- a loop over turns begins, takes one more, and is done
pub begin : {s : Sink} (f : ℕ → List Triplet) → Gains (each 0 f) s s
unfolding each
begin f = none

pub more : {s₀ s₁ s₂ : Sink} (f : ℕ → List Triplet) (e : ℕ) → Gains (each e f) s₀ s₁ → Gains (f e) s₁ s₂ → Gains (each (e + 1) f) s₀ s₂
more f e p q = rw (each_more f e) (then p q)

pub done : {s₀ s₁ : Sink} (f : ℕ → List Triplet) {e m : ℕ} → e ≤ m → m ≤ e → Gains (each e f) s₀ s₁ → Gains (each m f) s₀ s₁
done f p q h = rw (le_antisymm p q) at h

-- an item that was put is the item that the specification names
pub put_of : {s₀ s₁ : Sink} {t u : Option Triplet} → t ≡ u → Gains (emit t) s₀ s₁ → Gains (emit u) s₀ s₁
put_of e p = rw e at p
