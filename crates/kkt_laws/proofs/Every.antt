-- A fact of every slot's triplet is one of every triplet of the list. Main result: `emitted_all`. Assumes nothing.
use mathlib.Core.Path.{◌≡◌, refl}
use mathlib.Core.Bool.{Bool, true, false, not}
use mathlib.Core.List.{List, ◌++◌}
use Prim.Native.Nat.{ℕ}
use lib.Ieee.{Float, eq}
use Rattle.float64.specs.Values.{nought}
use Rattle.sequence.specs.declared.Triplet.{Triplet}
use Rattle.sequence.specs.Sheets.{triplet, item, emit}
use Rattle.sequence.specs.Facts.{All}
use Rattle.sequence.specs.Facts.All.{done, ◌&◌}
use Rattle.network.specs.declared.Field.{Field}
use Rattle.solution.specs.declared.Entry.{Entry}
use Rattle.kkt_index.specs.declared.Block.{Block}
use Rattle.snapping.specs.Expr.{eval}
use Rattle.kkt.specs.Slots.{Slot}
use Rattle.kkt.specs.Matrix.{flat, emitted}

module _ (start : Block → ℕ) (R : Field → ℕ → Float) (S : Entry → ℕ → Float) where
  -- what holds of a slot's triplet, where its value is not zero, holds of every triplet
  pub emitted_all : (P : Triplet → Type 0) {ss : List Slot}
      → All (λ s. eq (eval R S s.what) nought ≡ false → P (triplet (flat start R S s.row) (flat start R S s.col) (eval R S s.what))) ss → All P (emitted start R S ss)
  unfolding emitted emit
  emitted_all P done = done
  emitted_all P (◌&◌ {x = s} {xs = ss} h hs) = go (eq (eval R S s.what) nought) h (emitted_all P hs)
    where
      go : (b : Bool) → (b ≡ false → P (triplet (flat start R S s.row) (flat start R S s.col) (eval R S s.what))) → All P (emitted start R S ss)
          → All P (emit (item (not b) (flat start R S s.row) (flat start R S s.col) (eval R S s.what)) ++ emitted start R S ss)
      go true f g = g
      go false f g = f refl & g
