-- What the exported change calls do: on typed slices number and count go into one word; on bytes the slices' words and doubles are lent to the call, and what it leaves goes back as bytes.
-- Main definitions: `telling`, `told_bytes`. Assumes nothing.
use Rattle.std.specs.Prelude.{ℕ, Bool, cond, List, take, eqb}
use Rattle.std.specs.Borrow.{Bor, MutBor}
use Rattle.sequence.specs.Lists.{front}
use Rattle.words.specs.Words.{words_of, doubles_of, word_bytes, double_bytes}
use Rattle.decoding.specs.Exports.{packed}
use Rattle.job_book.specs.Book.{Given, given, Words, words, Outcome, Ran}

-- ---- typed slices

pub record Told : Type 0 where
  pub word : ℕ
  pub left : Words

abbrev pub told : ℕ → Words → Told
told a W = record { word = a; left = W }

abbrev pub telling : Outcome → Told
telling o = told (packed o.number o.count) o.left

-- of a list of changes the number alone: the caller knows how many there are
pub record ToldRun : Type 0 where
  pub number : ℕ
  pub left : Words
  pub numbers : List ℕ
  pub counts : List ℕ

abbrev pub told_run : ℕ → Words → List ℕ → List ℕ → ToldRun
told_run n W ns ks = record { number = n; left = W; numbers = ns; counts = ks }

abbrev pub telling_run : Ran → ToldRun
telling_run r = told_run r.number r.left r.numbers r.counts

-- ---- bytes

-- what four byte slices give, and the words in four others
abbrev pub given_in : Bor (List ℕ) → Bor (List ℕ) → Bor (List ℕ) → Bor (List ℕ) → Given
given_in w i k s = given (words_of w.now) (words_of i.now) (doubles_of k.now) (doubles_of s.now)

abbrev pub words_in : MutBor (List ℕ) → MutBor (List ℕ) → MutBor (List ℕ) → MutBor (List ℕ) → Words
words_in r a b v = words (doubles_of r.now) (words_of a.now) (words_of b.now) (doubles_of v.now)

pub record Bytes : Type 0 where
  pub word : ℕ
  pub readings : List ℕ
  pub rows : List ℕ
  pub cols : List ℕ
  pub values : List ℕ

abbrev pub leaves : ℕ → List ℕ → List ℕ → List ℕ → List ℕ → Bytes
leaves a r x y z = record { word = a; readings = r; rows = x; cols = y; values = z }

-- a ragged input slice has a wrong length: number 1. Else the call's answer; where it is 0 the readings' bytes, and the list's in front
unfoldable pub told_bytes : Bool → Outcome → List ℕ → List ℕ → List ℕ → List ℕ → Bytes
told_bytes ok o r x y z =
    cond ok
    (cond (eqb o.number 0)
    (leaves (packed 0 o.count) (double_bytes o.left.readings) (front (word_bytes (take o.count o.left.rows)) x) (front (word_bytes (take o.count o.left.cols)) y) (front (double_bytes (take o.count o.left.values)) z))
    (leaves (packed o.number 0) r x y z))
    (leaves 1 r x y z)
