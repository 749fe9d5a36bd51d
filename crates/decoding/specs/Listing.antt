-- What an export that fills three sheets with a list asks of the call in it, and what it makes of the call. Assumes nothing.
use Rattle.std.specs.Prelude.{ℕ, ◌≤◌, ◌≡◌, Bool, true, false, ◌&&◌, List, length, Float, Result}
use Rattle.std.specs.Borrow.{MutBor}
use Rattle.sequence.specs.declared.Refusal.{Refusal}
use Rattle.sequence.specs.Answers.{count_of}
use Rattle.sequence.specs.Sheets.{listed}
use Rattle.network.specs.declared.site.Lent.{Lent}
use Rattle.network.specs.Numbers.{Network, sizes_hold}
use Rattle.network.specs.Sites.{network_in}
use Rattle.decoding.specs.Exports.{outs, laid_out}
use Rattle.decoding.specs.Decoding.{list_room, ListCells}

-- whether a call may be made at a network and cells, and what it may answer and leave there
abbrev pub ListPre : Type 1
ListPre = Lent → MutBor (List ℕ) → MutBor (List ℕ) → MutBor (List Float) → Type 0

abbrev pub ListPost : Type 1
ListPost = Lent → MutBor (List ℕ) → MutBor (List ℕ) → MutBor (List Float) → Result ℕ Refusal → MutBor (List ℕ) → MutBor (List ℕ) → MutBor (List Float) → Type 0

-- the call may be made at cells for at most `most` triplets that go to three numbers of bytes, and counts no more than they hold
pub record ListsWithin (most rows cols values : ℕ) (pre : ListPre) (post : ListPost) : Type 0 where
  pub may : (l : Lent) (r c : MutBor (List ℕ)) (v : MutBor (List Float)) → ListCells most rows cols values (length r.now) (length c.now) (length v.now) → pre l r c v
  pub within : (l : Lent) (r c : MutBor (List ℕ)) (v : MutBor (List Float)) (a : Result ℕ Refusal) (r' c' : MutBor (List ℕ)) (v' : MutBor (List Float)) → ListCells most rows cols values (length r.now) (length c.now) (length v.now) → post l r c v a r' c' v' → count_of a ≤ list_room most rows cols values

-- the call was made on a network, and its answer and what it left in the cells became a word and the fronts of three sheets' bytes
pub record ListMade (N : Network) (most : ℕ) (post : ListPost) (word : ℕ) (R C X R' C' X' : List ℕ) : Type 0 where
  pub of : Lent
  pub network : network_in of ≡ N
  pub rows : MutBor (List ℕ)
  pub cols : MutBor (List ℕ)
  pub values : MutBor (List Float)
  pub room : ListCells most (length R) (length C) (length X) (length rows.now) (length cols.now) (length values.now)
  pub answer : Result ℕ Refusal
  pub new_rows : MutBor (List ℕ)
  pub new_cols : MutBor (List ℕ)
  pub new_values : MutBor (List Float)
  pub by_call : post of rows cols values answer new_rows new_cols new_values
  pub told : outs word R' C' X' ≡ laid_out true (listed answer new_rows.now new_cols.now new_values.now) R C X

-- the slices are no network, number 1 and no byte changed; or they are whole, and the call was made on their network
pub data ListExported (ok : Bool) (N : Network) (most : ℕ) (post : ListPost) (word : ℕ) (R C X R' C' X' : List ℕ) : Type 0 where
  refused : ok && sizes_hold N ≡ false → outs word R' C' X' ≡ outs 1 R C X → ListExported ok N most post word R C X R' C' X'
  made : ok ≡ true → ListMade N most post word R C X R' C' X' → ListExported ok N most post word R C X R' C' X'
