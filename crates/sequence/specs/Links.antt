-- Stable grouping by key: `head` has the first index of each key, and `next` the index that follows with the same key. Assumes nothing.
use Rattle.std.specs.Prelude.{◌≡◌, List, ℕ, ◌+◌, ◌≤◌, ◌<◌, get_or}

-- of the indices from a to c - 1, z is the first whose key is j, and c where none is
pub record First (key : ℕ → ℕ) (c j a z : ℕ) : Type 0 where
  pub low : a ≤ z
  pub high : z ≤ c
  pub none : (x : ℕ) → a ≤ x → x < z → key x ≡ j → ⊥
  pub hit : z < c → key z ≡ j

-- the chains of the indices from a to c - 1, over the keys below b
pub record Links (key : ℕ → ℕ) (b c a : ℕ) (head next : List ℕ) : Type 0 where
  pub heads : (j : ℕ) → j < b → First key c j a (get_or head j 0)
  pub nexts : (x : ℕ) → a ≤ x → x < c → First key c (key x) (x + 1) (get_or next x 0)
