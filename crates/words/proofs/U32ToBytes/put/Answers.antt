-- `words::U32ToBytes::put` meets its contract. Assumes nothing.
use mathlib.Core.Path.{◌∙◌}
use Prim.Native.Nat.{◌*◌}
use native.Mathlib.Omega.{arith}
use Rattle.words.specs.Words.{bytes_of}
use Rattle.words.specs.Sizes.{bytes_of_length}
use Rattle.words.proofs.Stored.{low_bytes, stored}
use Rattle.words.proofs.U32ToBytes.put.Goals as goal

pub returns : goal.returns
returns c = let a = c.args in
    stored (4 * a.i) 4 a.out.now (bytes_of 4 a.self) (omega arith) (bytes_of_length 4 a.self)
    (c.copy_from_slice.ensures.after ∙ c.to_le_bytes.ensures ∙ low_bytes 4 _)
