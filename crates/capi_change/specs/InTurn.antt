-- A list of changes on bytes: one change call after the other, each on the bytes that the last one left.
-- Main definitions: `after_calls`, `in_turn_call`. Assumes nothing.
use Rattle.std.specs.Prelude.{ℕ, zero, suc, ◌+◌, ◌*◌, ◌/◌, ◌%◌, cond, not, ◌&&◌, ◌||◌, List, [], ◌∷◌, length, eqb, ltb}
use Rattle.sequence.specs.Lists.{made, front}
use Rattle.sequence.specs.Answers.{test, first_of}
use Rattle.words.specs.Words.{at32, words_of, doubles_of, word_bytes}
use Rattle.kkt.specs.Slots.Rule.{first_place}
use Rattle.decoding.specs.Exports.{whole}
use Rattle.job_book.specs.declared.Change.{Change}
use Rattle.job_book.specs.Book.{change, given, words, step}
use Rattle.capi_change.specs.Told.{Bytes, told_bytes}

-- change i of a slice, twelve bytes each
abbrev pub change_in : List ℕ → ℕ → Change
change_in b i = change (at32 b (12 * i)) (at32 b (12 * i + 4)) (at32 b (12 * i + 8))

-- the slices that the calls only read
pub record Fed : Type 0 where
  pub wiring : List ℕ
  pub indexes : List ℕ
  pub coefficients : List ℕ
  pub solution : List ℕ
  pub changes : List ℕ

abbrev pub fed : List ℕ → List ℕ → List ℕ → List ℕ → List ℕ → Fed
fed w i k s ch = record { wiring = w; indexes = i; coefficients = k; solution = s; changes = ch }

module _ (F : Fed) where
  -- the call for a change on the bytes as they are: `capi_change`
  abbrev pub called_for : Bytes → Change → Bytes
  called_for B h =
      told_bytes ((whole 4 F.wiring && (whole 8 B.readings && (whole 4 F.indexes && whole 8 F.coefficients))) && whole 8 F.solution)
      (step (given (words_of F.wiring) (words_of F.indexes) (doubles_of F.coefficients) (doubles_of F.solution)) first_place (λ W h. []) (words (doubles_of B.readings) (words_of B.rows) (words_of B.cols) (doubles_of B.values)) h)
      B.readings B.rows B.cols B.values

  abbrev pub called : Bytes → ℕ → Bytes
  called B i = called_for B (change_in F.changes i)

  -- what the first n calls leave; its word is the last one's answer
  unfoldable pub after_calls : Bytes → ℕ → Bytes
  after_calls B zero = B
  after_calls B (suc n) = called (after_calls B n) n

  abbrev pub number_at : Bytes → ℕ → ℕ
  number_at B i = (after_calls B (suc i)).word % 256

  abbrev pub count_at : Bytes → ℕ → ℕ
  count_at B i = (after_calls B (suc i)).word / 256

-- the number of it all, and every byte afterwards
pub record InTurn : Type 0 where
  pub number : ℕ
  pub readings : List ℕ
  pub rows : List ℕ
  pub cols : List ℕ
  pub values : List ℕ
  pub numbers : List ℕ
  pub counts : List ℕ

abbrev pub in_turn : ℕ → Bytes → List ℕ → List ℕ → InTurn
in_turn n B ns ks = record { number = n; readings = B.readings; rows = B.rows; cols = B.cols; values = B.values; numbers = ns; counts = ks }

-- 1: the slice is no whole number of changes; 7: a sheet has no word for each of them
unfoldable pub in_turn_number : List ℕ → List ℕ → List ℕ → ℕ
in_turn_number ch ns ks =
    first_of (test 1 (not (eqb (length ch % 12) 0)) ∷ test 7 (ltb (length ns / 4) (length ch / 12) || ltb (length ks / 4) (length ch / 12)) ∷ [])

unfoldable pub in_turn_call : Fed → Bytes → List ℕ → List ℕ → InTurn
in_turn_call F B ns ks =
    cond (eqb (in_turn_number F.changes ns ks) 0)
    (in_turn 0 (after_calls F B (length F.changes / 12)) (front (word_bytes (made (number_at F B) (length F.changes / 12))) ns) (front (word_bytes (made (count_at F B) (length F.changes / 12))) ks))
    (in_turn (in_turn_number F.changes ns ks) B ns ks)
