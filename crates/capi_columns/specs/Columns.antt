-- What the exports of a parameter's column and of an operand's selector answer on bytes, and the bytes that they leave.
-- Main definitions: `column_out`, `selector_out`. Assumes nothing.
use Rattle.std.specs.Prelude.{ℕ, ◌*◌, Bool, cond, List, eqb, take, Float}
use Rattle.sequence.specs.Lists.{front}
use Rattle.sequence.specs.Answers.{Filled}
use Rattle.words.specs.Words.{word_bytes, double_bytes}
use Rattle.decoding.specs.Exports.{Out, out, packed}
use Rattle.sens_operands.specs.Calls.{Selected}

-- a ragged input slice has a wrong length: number 1. Else the call's answer, and the counted columns of dim doubles in front
unfoldable pub column_out : Bool → ℕ → Filled Float → List ℕ → Out
column_out ok dim a bs =
    cond ok (out (packed a.number a.count) (front (double_bytes (take (dim * a.count) a.sheet)) bs)) (out 1 bs)

-- what the selector's export answers, and the bytes of its four sheets
pub record Selecting : Type 0 where
  pub word : ℕ
  pub sign : List ℕ
  pub counts : List ℕ
  pub rows : List ℕ
  pub weights : List ℕ

abbrev pub selecting : ℕ → List ℕ → List ℕ → List ℕ → List ℕ → Selecting
selecting a s k r w = record { word = a; sign = s; counts = k; rows = r; weights = w }

-- the sign is one double, and written on 0 only
abbrev pub signs : ℕ → ℕ
signs number = cond (eqb number 0) 1 0

unfoldable pub selector_out : Bool → Selected → List ℕ → List ℕ → List ℕ → List ℕ → Selecting
selector_out ok a s k r w =
    cond ok
    (selecting (packed a.number a.count) (front (double_bytes (take (signs a.number) a.left.sign)) s) (front (word_bytes (take a.count a.left.counts)) k) (front (word_bytes (take a.count a.left.rows)) r) (front (double_bytes (take a.count a.left.weights)) w))
    (selecting 1 s k r w)
