-- A generator's own triplets that were put, then its segments', are its turn, and turns are what their slots emit.
-- Main results: `two_bits`, `turn_put`, `all_is`, `three_are`, `none_is`, `turns_put`. Assumes nothing.
use mathlib.Core.Path.{◌≡◌, refl, ap, ◌∙◌}
use mathlib.Core.List.{List, [], ◌∷◌, ◌++◌, map}
use Prim.Native.Nat.{ℕ, ◌+◌, ◌≤◌}
use lib.ListN.{length}
use lib.Ieee.{Float, binary64, of_int, of_bits}
use Rattle.float64.specs.Values.{whole}
use Rattle.std.specs.Prelude.{Option, None}
use Rattle.sequence.specs.Lists.{each}
use Rattle.sequence.specs.declared.Triplet.{Triplet}
use Rattle.sequence.specs.declared.Sink.{Sink}
use Rattle.sequence.specs.Sheets.{emit}
use Rattle.sequence.specs.Sinks.{Gains}
use Rattle.sequence.proofs.Lists.{each_same}
use Rattle.sequence.proofs.Sinks.{done, then}
use Rattle.network.specs.declared.Counts.{Counts}
use Rattle.network.specs.declared.Field.{Field}
use Rattle.network.specs.Layout.{segments_at, segment_start}
use Rattle.solution.specs.declared.Entry.{Entry}
use Rattle.solution.specs.Sheet.{piece_rank}
use Rattle.kkt_index.specs.declared.Block.{Block}
use Rattle.kkt.specs.Slots.{Slot, segments_of}
use Rattle.kkt.specs.Matrix.{item_of, emitted}
use Rattle.kkt.specs.Walks.{triple, emits}
use Rattle.kkt.proofs.Emitted.{emitted_append, emitted_each, each_is, three_is}
use Rattle.kkt_generators.specs.Turns.{turn}

-- the code's 2.0
pub two_bits : whole 2 ≡ of_bits binary64 0x4000_0000_0000_0000
unfolding whole of_int of_bits
two_bits = refl

module _ (c : Counts) (w : List ℕ) (own : ℕ → List Triplet) (of_segment : ℕ → ℕ → ℕ → List Triplet) where
  pub turn_put : {rank start count e : ℕ} {S₀ S₁ S₂ : Sink} {ts : List Triplet} (j : ℕ)
      → rank ≡ piece_rank c w j → start ≡ segment_start c w j → count ≡ segments_at c w j
      → ts ≡ own j → Gains ts S₀ S₁
      → e ≤ count → count ≤ e → Gains (each e (λ t. of_segment j rank (start + t))) S₁ S₂
      → Gains (turn c w own of_segment j) S₀ S₂
  turn_put {rank = rank} {start = start} j p q r o h a b k = rw (← p, ← q, ← r, ← o) (then h (done (λ t. of_segment j rank (start + t)) a b k))

module _ (start : Block → ℕ) (R : Field → ℕ → Float) (S : Entry → ℕ → Float) where
  abbrev out : List Slot → List Triplet
  out ss = emitted start R S ss

  -- what a call answers for slots
  pub all_is : {r : List (Option Triplet)} (ss : List Slot) → r ≡ map (item_of start R S) ss → emits r ≡ out ss
  all_is ss e = rw e (each_is start R S ss)

  pub three_are : {r : List (Option Triplet)} (ss : List Slot) → length ss ≤ 3 → r ≡ triple (item_of start R S) ss → emits r ≡ out ss
  three_are ss h e = rw e (three_is start R S ss h)

  pub none_is : {r : List (Option Triplet)} → r ≡ None ∷ None ∷ None ∷ None ∷ [] → emits r ≡ out []
  unfolding emits emitted emit
  none_is e = rw e

  module _ (c : Counts) (w : List ℕ) (own : ℕ → List Slot) (of_segment : ℕ → ℕ → ℕ → List Slot) where
    turns_are : (n : ℕ) → out (each n (λ j. own j ++ segments_of c w of_segment j)) ≡ each n (turn c w (λ j. out (own j)) (λ j g s. out (of_segment j g s)))
    turns_are n = emitted_each start R S n (λ j. own j ++ segments_of c w of_segment j)
        ∙ each_same n (λ j. out (own j ++ segments_of c w of_segment j)) (turn c w (λ j. out (own j)) (λ j g s. out (of_segment j g s)))
        (λ j l. emitted_append start R S (own j) (segments_of c w of_segment j)
        ∙ ap (λ (ts : List Triplet). out (own j) ++ ts) (emitted_each start R S (segments_at c w j) (λ t. of_segment j (piece_rank c w j) (segment_start c w j + t))))

    pub turns_put : {S₀ S₁ : Sink} (n : ℕ) → Gains (each n (turn c w (λ j. out (own j)) (λ j g s. out (of_segment j g s)))) S₀ S₁
        → Gains (out (each n (λ j. own j ++ segments_of c w of_segment j))) S₀ S₁
    turns_put n h = rw (turns_are n) h
