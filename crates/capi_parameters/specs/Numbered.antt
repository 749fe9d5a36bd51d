-- What an export on typed sheets answers where the count is the caller's own: the number, and the sheet afterwards.
-- Main definition: `numbering`. Assumes nothing.
use Rattle.std.specs.Prelude.{ℕ, List, Float}
use Rattle.sequence.specs.Answers.{Filled}

pub record Numbered : Type 0 where
  pub number : ℕ
  pub sheet : List Float

abbrev pub numbered : ℕ → List Float → Numbered
numbered n s = record { number = n; sheet = s }

-- a call's answer without its count
abbrev pub numbering : Filled Float → Numbered
numbering a = numbered a.number a.sheet
