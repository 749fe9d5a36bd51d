-- What an export that fills a sheet asks of the call in it, and what it makes of the call. Assumes nothing.
use Rattle.std.specs.Prelude.{ℕ, ◌≤◌, ◌≡◌, Bool, true, false, ◌&&◌, List, length, Float, Result}
use Rattle.std.specs.Borrow.{Bor, MutBor}
use Rattle.sequence.specs.declared.Refusal.{Refusal}
use Rattle.sequence.specs.Answers.{count_of, answered}
use Rattle.words.specs.Words.{doubles_of}
use Rattle.network.specs.declared.site.Lent.{Lent}
use Rattle.network.specs.Numbers.{Network, sizes_hold}
use Rattle.network.specs.Sites.{network_in}
use Rattle.decoding.specs.Exports.{out, filled_out}
use Rattle.decoding.specs.Decoding.{Cells}

-- whether a call may be made at a network and cells, and what it may answer and leave there
abbrev pub Pre : Type 1
Pre = Lent → MutBor (List Float) → Type 0

abbrev pub Post : Type 1
Post = Lent → MutBor (List Float) → Result ℕ Refusal → MutBor (List Float) → Type 0

-- the call may be made at cells for at most `most` doubles that go to a number of bytes, and counts no more than them
pub record FillsWithin (most bytes : ℕ) (pre : Pre) (post : Post) : Type 0 where
  pub may : (l : Lent) (cells : MutBor (List Float)) → Cells most bytes (length cells.now) → pre l cells
  pub within : (l : Lent) (cells : MutBor (List Float)) (a : Result ℕ Refusal) (after : MutBor (List Float)) → Cells most bytes (length cells.now) → post l cells a after → count_of a ≤ length cells.now

-- the call was made on a network, and its answer and what it left in the cells became a word and the front of a sheet's bytes
pub record Made (N : Network) (most : ℕ) (post : Post) (word : ℕ) (old new : List ℕ) : Type 0 where
  pub of : Lent
  pub network : network_in of ≡ N
  pub cells : MutBor (List Float)
  pub room : Cells most (length old) (length cells.now)
  pub answer : Result ℕ Refusal
  pub after : MutBor (List Float)
  pub by_call : post of cells answer after
  pub told : out word new ≡ filled_out true (answered answer after.now) old

-- the slices are no network, number 1 and no byte changed; or they are whole, and the call was made on their network
pub data Exported (ok : Bool) (N : Network) (most : ℕ) (post : Post) (word : ℕ) (old new : List ℕ) : Type 0 where
  refused : ok && sizes_hold N ≡ false → out word new ≡ out 1 old → Exported ok N most post word old new
  made : ok ≡ true → Made N most post word old new → Exported ok N most post word old new

-- ---- a call that takes the doubles of a byte slice too

abbrev pub pre_at : (Lent → Bor (List Float) → MutBor (List Float) → Type 0) → List ℕ → Pre
pre_at pre b l cells = (s : Bor (List Float)) → s.now ≡ doubles_of b → pre l s cells

abbrev pub post_at : (Lent → Bor (List Float) → MutBor (List Float) → Result ℕ Refusal → MutBor (List Float) → Type 0) → List ℕ → Post
post_at post b l cells a after = (s : Bor (List Float)) × (s.now ≡ doubles_of b) × post l s cells a after

-- the slice does not fit, number 1 and no byte changed; or the export of the call at its doubles
pub data ExportedAt (fit ok : Bool) (N : Network) (most : ℕ) (post : Post) (word : ℕ) (old new : List ℕ) : Type 0 where
  unread : fit ≡ false → out word new ≡ out 1 old → ExportedAt fit ok N most post word old new
  read : fit ≡ true → Exported ok N most post word old new → ExportedAt fit ok N most post word old new
