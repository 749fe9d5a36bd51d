-- Bytes that are written one after the other into a lent buffer. Main definition: `Adds`. Assumes nothing.
use Rattle.std.specs.Prelude.{ℕ, ◌+◌, ◌≡◌, List, ◌++◌, length, take}
use Rattle.site_text.specs.declared.buffer.Buffer.{Buffer}

-- the bytes stand behind those that the buffer had, which still do, and it is the same lent one
pub record Adds (bytes : List ℕ) (old new : Buffer) : Type 0 where
  pub len : new.len ≡ old.len + length bytes
  pub text : take new.len new.bytes.now ≡ take old.len old.bytes.now ++ bytes
  pub kept : length new.bytes.now ≡ length old.bytes.now
  pub same_reference : new.bytes.ghost_name ≡ old.bytes.ghost_name
