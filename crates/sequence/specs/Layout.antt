-- A flat list that is made of blocks, one after the other: a block starts where those before it end. Assumes nothing.
use Rattle.std.specs.Prelude.{ℕ, ◌+◌, List, [], ◌∷◌, take}

abbrev pub total : List ℕ → ℕ
total [] = 0
total (x ∷ xs) = x + total xs

-- where the block of a rank starts
abbrev pub start : List ℕ → ℕ → ℕ
start sizes rank = total (take rank sizes)
