-- Lists, sums, tests and values that loops make, each by its last turn. Assumes nothing.
use Rattle.std.specs.Prelude.{ℕ, zero, suc, ◌+◌, Bool, true, false, ◌&&◌, ◌||◌, List, [], ◌∷◌, ◌++◌, length, drop}

-- f 0 + f 1 + .. + f (n - 1)
unfoldable pub before : (ℕ → ℕ) → ℕ → ℕ
before f zero = 0
before f (suc n) = before f n + f n

-- each of test 0 to test (n - 1) passes
unfoldable pub every : (ℕ → Bool) → ℕ → Bool
every test zero = true
every test (suc n) = every test n && test n

-- one of test 0 to test (n - 1) passes
unfoldable pub some : (ℕ → Bool) → ℕ → Bool
some test zero = false
some test (suc n) = some test n || test n

module _ {A : Type 0} where
  -- f 0 ++ f 1 ++ .. ++ f (n - 1)
  unfoldable pub each : ℕ → (ℕ → List A) → List A
  each zero f = []
  each (suc n) f = each n f ++ f n

  unfoldable pub when : Bool → List A → List A
  when true l = l
  when false l = []

  -- the n values f 0, f 1, .., f (n - 1)
  unfoldable pub made : (ℕ → A) → ℕ → List A
  made f zero = []
  made f (suc n) = made f n ++ f n ∷ []

  -- what turns 0 to n - 1 of a loop leave of a value
  unfoldable pub turns : (ℕ → A → A) → A → ℕ → A
  turns step a zero = a
  turns step a (suc n) = step n (turns step a n)

  -- "the result fills the front of its sheet and later words keep their bits"
  unfoldable pub front : List A → List A → List A
  front new old = new ++ drop (length new) old
