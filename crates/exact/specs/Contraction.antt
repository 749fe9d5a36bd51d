-- sens/mod.rs's `forward_adjoint` over any commutative ring, each loop as the Rust has it: one solve with K for a column, or one with K' for an element.
-- Main definitions: `applied`, `exchanged`, `selected`, `forward`, `adjoint`, `Solves`. Assumes nothing.
use Rattle.std.specs.Prelude.{ℕ, ◌<◌, ◌≡◌, Bool, cond, eqb}
use mathlib.Core.List.{List, map, foldl}
use mathlib.Mathlib.Algebra.Ring.Defs.{CommRing}
use Rattle.sequence.specs.Lists.{turns}

-- a value of K at a row and a column: values at one place add up
pub record Triplet (R : Type 0) : Type 0 where
  pub row : ℕ
  pub col : ℕ
  pub value : R

-- a weight of an element's functional at a row: weights at one row add up
pub record Entry (R : Type 0) : Type 0 where
  pub row : ℕ
  pub weight : R

module _ {R : Type 0} where
  -- a triplet by its row, column and value
  abbrev pub triplet : ℕ → ℕ → R → Triplet R
  triplet r c v = record { row = r; col = c; value = v }

  -- an entry by its row and weight
  abbrev pub entry : ℕ → R → Entry R
  entry r w = record { row = r; weight = w }

  -- K', the list that the adjoint direction hands to the solver
  unfoldable pub exchanged : List (Triplet R) → List (Triplet R)
  exchanged K = map (λ t. triplet t.col t.row t.value) K

  -- row and column below dim
  abbrev pub InRange : ℕ → Triplet R → Type 0
  InRange dim t = (t.row < dim) × (t.col < dim)

  -- row below dim
  abbrev pub Below : ℕ → Entry R → Type 0
  Below dim e = e.row < dim

module _ {R : Type 0} (𝓡 : CommRing R) where
  open 𝓡 use {add as ◌+◌, mul as ◌*◌, zero as 𝟘}

  infixl 65 ◌+◌
  infixl 70 ◌*◌
  -- (K x) i
  unfoldable pub applied : List (Triplet R) → (ℕ → R) → ℕ → R
  applied K x i = foldl (λ acc t. cond (eqb t.row i) (acc + t.value * x t.col) acc) 𝟘 K

  -- K x = b, row by row
  abbrev pub Solves : ℕ → List (Triplet R) → (ℕ → R) → (ℕ → R) → Type 0
  Solves dim K x b = (i : ℕ) → i < dim → applied K x i ≡ b i

  -- "sel[(r, o)] += w": row r of the adjoint's right side
  unfoldable pub selected : List (Entry R) → ℕ → R
  selected entries r = foldl (λ acc e. cond (eqb e.row r) (acc + e.weight) acc) 𝟘 entries

  -- the word of one element and one column, by x with K x = p
  unfoldable pub forward : R → List (Entry R) → (ℕ → R) → R
  forward sign entries x = sign * foldl (λ acc e. acc + e.weight * x e.row) 𝟘 entries

  -- the same word, by y with K' y = selected entries, "skipping exact zeros" of p
  unfoldable pub adjoint : (R → Bool) → ℕ → R → (ℕ → R) → (ℕ → R) → R
  adjoint zero? dim sign p y = sign * turns (λ r acc. cond (zero? (p r)) acc (acc + p r * y r)) 𝟘 dim
