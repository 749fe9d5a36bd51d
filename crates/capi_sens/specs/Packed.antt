-- What an export on typed sheets answers: number and count in one word, and the three sheets afterwards. Assumes nothing.
use Rattle.std.specs.Prelude.{ℕ, List, Float}
use Rattle.sequence.specs.Sheets.{Laid}
use Rattle.decoding.specs.Exports.{packed}

pub record Packed : Type 0 where
  pub word : ℕ
  pub rows : List ℕ
  pub cols : List ℕ
  pub values : List Float

abbrev pub packed_laid : ℕ → List ℕ → List ℕ → List Float → Packed
packed_laid a r c v = record { word = a; rows = r; cols = c; values = v }

-- a call's answer with its number and count in one word
abbrev pub packing : Laid → Packed
packing a = packed_laid (packed a.number a.count) a.rows a.cols a.values
