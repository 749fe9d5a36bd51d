-- `capi_change::in_turn::put` meets its contract. Assumes nothing.
use mathlib.Core.Path.{◌∙◌, ap}
use mathlib.Core.List.{List}
use Prim.Native.Nat.{ℕ, ◌*◌}
use native.Mathlib.Omega.{arith}
use lib.ListN.{take}
use Rattle.words.specs.Words.{bytes_of}
use Rattle.words.specs.Sizes.{bytes_of_length}
use Rattle.words.proofs.Stored.{low_bytes, stored}
use Rattle.capi_change.proofs.in_turn.put.Goals as goal

pub returns : goal.returns
returns c = let a = c.args in
    stored (4 * a.i) 4 a.out.now (bytes_of 4 a.v) (omega arith) (bytes_of_length 4 a.v)
    (c.copy_from_slice.ensures.after ∙ ap (λ (bs : List ℕ). take 4 bs) (c.to_le_bytes.ensures ∙ low_bytes 8 a.v))
