-- The laws of `triplets_by`: it goes over appended lists, loops and choices; entries put by value are those that the specification names.
-- Main results: `written_append`, `written_each`, `written_same`, `puts_then`, `puts_more`, `items_are`, `all_put`, `meant_put`, `one_put`. Assumes nothing.
use mathlib.Core.Path.{◌≡◌, refl, sym, ◌∙◌}
use mathlib.Core.Bool.{Bool, true, false}
use mathlib.Core.List.{List, [], ◌∷◌, ◌++◌, append-nil, append_assoc}
use Prim.Native.Nat.{ℕ, zero, suc, ◌+◌, ◌≤◌}
use lib.Ieee.{Float}
use Rattle.std.specs.Prelude.{Option}
use Rattle.sequence.specs.Lists.{each, when}
use Rattle.sequence.specs.declared.Triplet.{Triplet}
use Rattle.sequence.specs.declared.Sink.{Sink}
use Rattle.sequence.specs.Sheets.{emit}
use Rattle.sequence.specs.Sinks.{Gains}
use Rattle.sequence.proofs.Sinks.{none, begin, more, done, then}
use Rattle.network.specs.declared.Counts.{Counts}
use Rattle.network.specs.declared.Field.{Field}
use Rattle.network.specs.Layout.{reading}
use Rattle.solution.specs.declared.Entry.{Entry}
use Rattle.opf_layout.specs.declared.OpfColumn.{OpfColumn}
use Rattle.opf_layout.specs.declared.OpfRow.{OpfRow}
use Rattle.opf_layout.specs.declared.OpfLayout.{OpfLayout}
use Rattle.opf_layout.specs.Layout.{column_in, row_in}
use Rattle.kkt.specs.Walks.{emits}
use Rattle.opf_assembly.specs.Assembly.{blank, Coefficient, item_by, triplets_by}
use Rattle.opf_program.specs.Walks.{items, written}

module _ (row_at : OpfRow → ℕ) (column_at : OpfColumn → ℕ) (R : Field → ℕ → Float) (S : Entry → ℕ → Float) where
  abbrev out : List Coefficient → List Triplet
  out ks = triplets_by row_at column_at R S ks

  pub written_append : (a b : List Coefficient) → out (a ++ b) ≡ out a ++ out b
  unfolding triplets_by
  written_append [] b = refl
  written_append (k ∷ a) b = rw (written_append a b) (sym (append_assoc (emit (item_by row_at column_at R S k)) (out a) (out b)))

  pub written_each : (n : ℕ) (f : ℕ → List Coefficient) → out (each n f) ≡ each n (λ i. out (f i))
  unfolding triplets_by each
  written_each zero f = refl
  written_each (suc n) f = written_append (each n f) (f n) ∙ rw (written_each n f)

  pub puts_then : (a b : List Coefficient) {S₀ S₁ S₂ : Sink} → Gains (out a) S₀ S₁ → Gains (out b) S₁ S₂ → Gains (out (a ++ b)) S₀ S₂
  puts_then a b p q = rw (written_append a b) (then p q)

  pub puts_begin : {S₀ : Sink} (f : ℕ → List Coefficient) → Gains (out (each 0 f)) S₀ S₀
  puts_begin f = rw (written_each 0 f) (begin (λ i. out (f i)))

  pub puts_more : {S₀ S₁ S₂ : Sink} (f : ℕ → List Coefficient) (e : ℕ) → Gains (out (each e f)) S₀ S₁ → Gains (out (f e)) S₁ S₂ → Gains (out (each (e + 1) f)) S₀ S₂
  puts_more f e p q = rw (written_each (e + 1) f) (more (λ i. out (f i)) e (rw (written_each e f) at p) q)

  pub puts_done : {S₀ S₁ : Sink} (f : ℕ → List Coefficient) {e m : ℕ} → e ≤ m → m ≤ e → Gains (out (each e f)) S₀ S₁ → Gains (out (each m f)) S₀ S₁
  puts_done f {e} {m} g h p = rw (written_each m f) (done (λ i. out (f i)) g h (rw (written_each e f) at p))

  pub nothing_put : {S₀ : Sink} → Gains (out []) S₀ S₀
  unfolding triplets_by
  nothing_put = none

-- the starts of the blocks may be named otherwise
pub written_same : {row_at rowIs : OpfRow → ℕ} {column_at columnIs : OpfColumn → ℕ} (R : Field → ℕ → Float) (S : Entry → ℕ → Float)
    → ((b : OpfRow) → row_at b ≡ rowIs b) → ((b : OpfColumn) → column_at b ≡ columnIs b) → (ks : List Coefficient)
    → triplets_by row_at column_at R S ks ≡ triplets_by rowIs columnIs R S ks
unfolding triplets_by
written_same R S p q [] = refl
written_same R S p q (k ∷ ks) = rw (p k.row.0, q k.col.0, written_same R S p q ks)

-- ---- entries by value

module _ (x : OpfLayout) (c : Counts) (r : List Float) where
  -- what is put of entries, each a triplet or none, is what is written of them
  pub items_are : (ks : List Coefficient) → emits (items x c r ks) ≡ written x c r ks
  unfolding emits triplets_by
  items_are [] = refl
  items_are (k ∷ ks) = rw (items_are ks)

  pub all_put : {ts : List (Option Triplet)} {S₀ S₁ : Sink} (ks : List Coefficient) → ts ≡ items x c r ks → Gains (emits ts) S₀ S₁ → Gains (written x c r ks) S₀ S₁
  all_put ks e p = rw (← items_are ks) (rw e at p)

  -- those that are meant, and those that are not
  pub meant_put : {on : Bool} {S₀ S₁ : Sink} (ks : List Coefficient) → on ≡ true → Gains (written x c r ks) S₀ S₁ → Gains (written x c r (when on ks)) S₀ S₁
  unfolding when
  meant_put ks e p = rw e p

  pub unmeant_put : {on : Bool} {S₀ : Sink} (ks : List Coefficient) → on ≡ false → Gains (written x c r (when on ks)) S₀ S₀
  unfolding when triplets_by
  unmeant_put ks e = rw e none

  pub one_put : {t : Option Triplet} {S₀ S₁ : Sink} (k : Coefficient) → t ≡ item_by (row_in x) (column_in x) (reading c r) blank k → Gains (emit t) S₀ S₁ → Gains (written x c r (k ∷ [])) S₀ S₁
  unfolding triplets_by
  one_put k e p = rw append-nil (rw e at p)
