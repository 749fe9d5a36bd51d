-- What a function of an index may be asked, and what it gives. Assumes nothing.
use Rattle.std.specs.Prelude.{ℕ, ◌<◌, ◌≡◌}

-- it may be asked at each index below n
abbrev pub AskedBelow : ℕ → (ℕ → Type 0) → Type 0
AskedBelow n pre = (i : ℕ) → i < n → pre i

-- and gives f there
abbrev pub GivesBelow : {A : Type 0} → ℕ → (ℕ → A → Type 0) → (ℕ → A) → Type 0
GivesBelow {A} n post f = (i : ℕ) (a : A) → i < n → post i a → a ≡ f i
