-- What a change call answers and leaves in its sheets, whatever it leaves of the readings. Main definition: `Answered`. Assumes nothing.
use Rattle.std.specs.Prelude.{ℕ, ◌≡◌, List, Float}
use Rattle.job_book.specs.Book.{Outcome, outcome, words}

pub record Answered (n k : ℕ) (R C : List ℕ) (X : List Float) (o : Outcome) : Type 0 where
  pub readings : List Float
  pub is : outcome n k (words readings R C X) ≡ o
