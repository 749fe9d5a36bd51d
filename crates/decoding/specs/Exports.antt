-- What the exported functions do with bytes: the slices' words and doubles are a network, and the call's answer goes back as bytes.
-- Main definitions: `decoded`, `all_whole`, `filled_out`, `laid_out`. Assumes nothing.
use Rattle.std.specs.Prelude.{ℕ, ◌+◌, ◌*◌, ◌%◌, Bool, cond, ◌&&◌, List, length, take, eqb, Float}
use Rattle.std.specs.Borrow.{Bor}
use Rattle.sequence.specs.Lists.{front}
use Rattle.sequence.specs.Answers.{Filled}
use Rattle.sequence.specs.Sheets.{Laid}
use Rattle.words.specs.Words.{words_of, doubles_of, word_bytes, double_bytes}
use Rattle.network.specs.Numbers.{Network}

-- the network that four byte slices hold
abbrev pub decoded : Bor (List ℕ) → Bor (List ℕ) → Bor (List ℕ) → Bor (List ℕ) → Network
decoded w r i k =
    record { wiring = words_of w.now; readings = doubles_of r.now; indexes = words_of i.now; coefficients = doubles_of k.now }

-- a slice is a whole number of words of k bytes
abbrev pub whole : ℕ → List ℕ → Bool
whole k b = eqb (length b % k) 0

abbrev pub all_whole : Bor (List ℕ) → Bor (List ℕ) → Bor (List ℕ) → Bor (List ℕ) → Bool
all_whole w r i k = whole 4 w.now && (whole 8 r.now && (whole 4 i.now && whole 8 k.now))

-- number and count in one word
abbrev pub packed : ℕ → ℕ → ℕ
packed number count = number + 256 * count

-- what an export answers, and the bytes that it leaves
pub record Out : Type 0 where
  pub word : ℕ
  pub bytes : List ℕ

abbrev pub out : ℕ → List ℕ → Out
out a bs = record { word = a; bytes = bs }

-- a ragged input slice has a wrong length: number 1. Else the call's answer, and its result's bytes in front
unfoldable pub filled_out : Bool → Filled Float → List ℕ → Out
filled_out ok a bs = cond ok (out (packed a.number a.count) (front (double_bytes (take a.count a.sheet)) bs)) (out 1 bs)

-- the same for a list in three sheets
pub record Outs : Type 0 where
  pub word : ℕ
  pub rows : List ℕ
  pub cols : List ℕ
  pub values : List ℕ

abbrev pub outs : ℕ → List ℕ → List ℕ → List ℕ → Outs
outs a r c v = record { word = a; rows = r; cols = c; values = v }

unfoldable pub laid_out : Bool → Laid → List ℕ → List ℕ → List ℕ → Outs
laid_out ok a r c v =
    cond ok
    (outs (packed a.number a.count) (front (word_bytes (take a.count a.rows)) r) (front (word_bytes (take a.count a.cols)) c) (front (double_bytes (take a.count a.values)) v))
    (outs 1 r c v)
