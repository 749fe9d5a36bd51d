-- A part of a sheet on bytes: its length, and its bytes where they have room.
-- Main results: `part_written`, `part_kept`, `unfit`, `told_side`. Assumes nothing.
use Prim.Native.Nat.{ℕ, ◌/◌, ◌≤◌, ◌<◌}
use mathlib.Core.Path.{◌≡◌}
use mathlib.Core.Bool.{Bool, true, false}
use mathlib.Core.List.{List}
use lib.ListN.{length}
use lib.Ieee.{Float}
use borrow.Author.Tests.{lt-ltb, le-ltb}
use Rattle.sequence.specs.Lists.{front}
use Rattle.words.specs.Words.{double_bytes}
use Rattle.decoding.specs.Exports.{Out, out}
use Rattle.capi_contraction.specs.Contraction.{side_out}

module _ (part side : List Float) (bs : List ℕ) (e : part ≡ side) where
  pub part_written : length part ≤ length bs / 8 → {new : List ℕ} → new ≡ front (double_bytes part) bs → out (length part) new ≡ side_out true side bs
  unfolding side_out
  part_written l p = rw (p, ← e, le-ltb (length bs / 8) (length part) l)

  pub part_kept : length bs / 8 < length part → out (length part) bs ≡ side_out true side bs
  unfolding side_out
  part_kept l = rw (← e, lt-ltb (length bs / 8) (length part) l)

-- slices that do not fit have no part
pub unfit : (part : List Float) (ok : Bool) (bs : List ℕ) → ok ≡ false → out 0 bs ≡ side_out ok part bs
unfolding side_out
unfit part ok bs e = rw e

pub told_side : (g : Bool → List Float → List Float → Out) {b : Bool} {P P' Q Q' : List Float} → b ≡ true → P ≡ P' → Q ≡ Q' → g true P Q ≡ g b P' Q'
told_side g e p q = rw (e, p, q)
