-- `words::F64ToBytes::put` meets its contract. Assumes nothing.
use mathlib.Core.Path.{◌∙◌, ap}
use Prim.Native.Nat.{◌*◌}
use native.Mathlib.Omega.{arith}
use lib.Ieee.{binary64, to_bits}
use Rattle.words.specs.Words.{bytes_of, pattern_bytes}
use Rattle.words.specs.Sizes.{pattern_bytes_length}
use Rattle.words.proofs.Stored.{low_bytes, stored}
use Rattle.words.proofs.F64ToBytes.put.Goals as goal

pub returns : goal.returns
returns c = let a = c.args in
    stored (8 * a.i) 8 a.out.now (pattern_bytes a.self) (omega arith) (pattern_bytes_length a.self)
    (c.copy_from_slice.ensures.after ∙ c.to_le_bytes.ensures ∙ low_bytes 8 _ ∙ ap (bytes_of 8) c.pattern.ensures)
