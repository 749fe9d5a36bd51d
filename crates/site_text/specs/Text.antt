-- 01's "Bench network": what the program `sitechange` prints for the bytes that it reads, from network B on.
-- Main definitions: `given_b`, `printed`. Assumes nothing.
use Rattle.std.specs.Prelude.{ℕ, zero, suc, ◌/◌, cond, List, [], ◌∷◌, ◌++◌, length, eqb, ltb}
use Rattle.std.specs.Float.{binary64}
use Rattle.std.specs.Float.Ieee.{to_bits}
use Rattle.float64.specs.Values.{whole}
use Rattle.io.specs.Digits.{last_digits}
use Rattle.sequence.specs.Lists.{made, when}
use Rattle.sequence.specs.declared.Triplet.{Triplet}
use Rattle.words.specs.Words.{word_at, joined}
use Rattle.solution.specs.NetworkB.{wiring_b, readings_b, sheet_b}
use Rattle.kkt.specs.Slots.Rule.{first_place}
use Rattle.change_table.specs.Table.{among, named_cells}
use Rattle.job_book.specs.declared.Change.{Change}
use Rattle.job_book.specs.Book.{change, Given, given, Words, words, Outcome, counts_in, matrix_of, changed, step}

-- ---- network B, as a run starts with it

abbrev pub given_b : Given
given_b = given wiring_b [] [] sheet_b

-- sheets for the most triplets that B's list can have, 26m + 10n + 9k + 2R
abbrev pub words_b : Words
words_b = words readings_b (made (λ i. 0) 57) (made (λ i. 0) 57) (made (λ i. whole 0) 57)

-- ---- what is printed

-- how many decimal digits a number below 10^20 takes
unfoldable pub places : ℕ → ℕ → ℕ
places zero n = 1
places (suc k) n = cond (ltb n 10) 1 (suc (places k (n / 10)))

abbrev pub decimal_of : ℕ → List ℕ
decimal_of n = last_digits 10 (places 19 n) n

-- "number and triplet count"
unfoldable pub first_line : ℕ → ℕ → List ℕ
first_line number count = decimal_of number ++ 32 ∷ (decimal_of count ++ 10 ∷ [])

-- "row, column in decimal, the double's bits as 16 hexadecimal digits"
unfoldable pub triplet_line : Triplet → List ℕ
triplet_line t = decimal_of t.row ++ 32 ∷ (decimal_of t.col ++ 32 ∷ (last_digits 16 16 (to_bits binary64 t.value) ++ 10 ∷ []))

-- "then for an accepted change the triplets in its cells, in list order"
unfoldable pub triplets_in : List (ℕ × ℕ) → List Triplet → List Triplet
triplets_in cells [] = []
triplets_in cells (t ∷ ts) = when (among (t.row, t.col) cells) (t ∷ []) ++ triplets_in cells ts

abbrev pub named_b : Change → List Triplet
named_b h = triplets_in (named_cells (counts_in given_b) wiring_b readings_b h.kind h.index) (matrix_of given_b first_place (changed given_b readings_b h))

abbrev pub answered : Outcome → Change → List ℕ
answered o h = first_line o.number o.count ++ when (eqb o.number 0) (joined triplet_line (named_b h))

-- "A change is three little-endian 32-bit words"; "Input other than 12 bytes prints `1 0`; any refusal prints only its first line"
unfoldable pub printed : List ℕ → List ℕ
printed input =
    cond (eqb (length input) 12)
    (answered (step given_b first_place (λ W h. []) words_b (change (word_at input 0) (word_at input 1) (word_at input 2))) (change (word_at input 0) (word_at input 1) (word_at input 2)))
    (first_line 1 0)
