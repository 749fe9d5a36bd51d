-- Places by the index are places by the blocks' starts.
-- Main results: `emitted_starts`, `by_starts`. Assumes nothing.
use mathlib.Core.Path.{◌≡◌, refl, subst}
use mathlib.Core.List.{List, [], ◌∷◌}
use Prim.Native.Nat.{ℕ}
use lib.Ieee.{Float}
use Rattle.sequence.specs.declared.Triplet.{Triplet}
use Rattle.sequence.specs.declared.Sink.{Sink}
use Rattle.sequence.specs.Sinks.{Gains}
use Rattle.network.specs.declared.Counts.{Counts}
use Rattle.network.specs.declared.Field.{Field}
use Rattle.network.specs.Layout.{reading}
use Rattle.solution.specs.declared.Entry.{Entry}
use Rattle.solution.specs.Sheet.{solved}
use Rattle.kkt_index.specs.declared.Block.{Block}
use Rattle.kkt_index.specs.declared.KktIdx.{KktIdx}
use Rattle.kkt_index.specs.Index.{block_start, start_in, Indexed}
use Rattle.kkt_index.proofs.Starts.{starts}
use Rattle.kkt.specs.Slots.{Slot}
use Rattle.kkt.specs.Matrix.{emitted}

-- where the starts are the same, so is what is emitted
pub emitted_starts : (f g : Block → ℕ) (R : Field → ℕ → Float) (S : Entry → ℕ → Float) → ((b : Block) → f b ≡ g b) → (ss : List Slot) → emitted f R S ss ≡ emitted g R S ss
unfolding emitted
emitted_starts f g R S h [] = refl
emitted_starts f g R S h (s ∷ ss) = rw (emitted_starts f g R S h ss, h s.row.0, h s.col.0)

-- a list that was put by the index is the list by the blocks' starts
pub by_starts : {c : Counts} {p l : ℕ} {x : KktIdx} (i : Indexed c p l x) (r s : List Float) (ss : List Slot) {S₀ S₁ : Sink}
    → Gains (emitted (start_in x) (reading c r) (solved c x.pieces s) ss) S₀ S₁ → Gains (emitted (block_start c p l) (reading c r) (solved c p s) ss) S₀ S₁
by_starts {c} {p} {l} {x} i r s ss {S₀} {S₁} h =
    subst (λ (ts : List Triplet). Gains ts S₀ S₁) (emitted_starts (start_in x) (block_start c p l) (reading c r) (solved c p s) (starts i) ss)
    (subst (λ (q : ℕ). Gains (emitted (start_in x) (reading c r) (solved c q s) ss) S₀ S₁) i.pieces_is h)
