-- 01's job book: what a change call answers and leaves, and a list of calls, each on what the last one left.
-- The reference rule and the tests after 7 are parameters. Main definitions: `step`, `lines`, `words_after`, `run_call`. Assumes nothing.
use Rattle.std.specs.Prelude.{ℕ, ◌+◌, ◌*◌, ◌/◌, ◌%◌, false, cond, not, ◌||◌, List, [], ◌∷◌, ◌++◌, map, length, get_or, set, eqb, ltb, Float, Result}
use Rattle.std.specs.Float.{binary64}
use Rattle.std.specs.Float.Ieee.{of_bits}
use Rattle.float64.specs.Values.{within, raw_limit}
use Rattle.sequence.specs.Lists.{made, front}
use Rattle.sequence.specs.Answers.{Test, test, first_of, number_of as answer_number, count_of as answer_count}
use Rattle.sequence.specs.declared.Refusal.{Refusal}
use Rattle.sequence.specs.declared.Triplet.{Triplet}
use Rattle.sequence.specs.Sheets.{rows_of, cols_of, values_of, short_list}
use Rattle.network.specs.declared.Counts.{Counts}
use Rattle.network.specs.Layout.{counts_of, size, place}
use Rattle.network.specs.Numbers.{Network}
use Rattle.solution_check.specs.Tests.{solution_tests}
use Rattle.kkt.specs.Slots.{Rule}
use Rattle.change_table.specs.Table.{is_kind, field_of}
use Rattle.job_book.specs.declared.Change.{Change}
use Rattle.sens_dc.specs.Calls.{list_of}

-- ---- a change

-- "A change is three little-endian 32-bit words: the first has the kind in its top four bits and the index in the low 28; then the low and high halves of the new double"
abbrev pub change : ℕ → ℕ → ℕ → Change
change a l h = record { kind = a / 0x1000_0000; index = a % 0x1000_0000; value = of_bits binary64 (l + 0x1_0000_0000 * h) }

-- ---- what the book is fed, and what it holds

-- "Its job book is fed wiring, terms, solution sheet and changes alone"
pub record Given : Type 0 where
  pub wiring : List ℕ
  pub indexes : List ℕ
  pub coefficients : List Float
  pub solution : List Float

-- "and holds the words of readings and list sheets, at first as lent": every word that a call may write
pub record Words : Type 0 where
  pub readings : List Float
  pub rows : List ℕ
  pub cols : List ℕ
  pub values : List Float

abbrev pub given : List ℕ → List ℕ → List Float → List Float → Given
given w i k s = record { wiring = w; indexes = i; coefficients = k; solution = s }

abbrev pub words : List Float → List ℕ → List ℕ → List Float → Words
words r a b v = record { readings = r; rows = a; cols = b; values = v }

-- a call and its answer
pub record Line : Type 0 where
  pub change : Change
  pub number : ℕ
  pub count : ℕ

abbrev pub line : Change → ℕ → ℕ → Line
line h n k = record { change = h; number = n; count = k }

-- ---- one call

-- "3: a change value not finite or outside its limits", "4: change kind 0 or 10 to 15", "5: change index not below its length"
unfoldable pub own_tests : Counts → ℕ → ℕ → Float → List Test
own_tests c kind i v =
    test 3 (not (within raw_limit v)) ∷ test 4 (not (is_kind kind)) ∷ test 5 (not (ltb i (size c (field_of kind)))) ∷ []

-- what a call answers, and the words that it leaves
pub record Outcome : Type 0 where
  pub number : ℕ
  pub count : ℕ
  pub left : Words

abbrev pub outcome : ℕ → ℕ → Words → Outcome
outcome n k W = record { number = n; count = k; left = W }

-- of a call that hands this back and leaves these words
abbrev pub outcome_of : Result ℕ Refusal → Words → Outcome
outcome_of r W = outcome (answer_number r) (answer_count r) W

-- "that list fills the front": the readings and the sheets afterwards
abbrev pub fronts : List Triplet → List Float → Words → Words
fronts ts r W = words r (front (rows_of ts) W.rows) (front (cols_of ts) W.cols) (front (values_of ts) W.values)

-- "On 0, accepted, the change's reading takes the new bits, that list fills the front, and the count is its length; else the count is 0 and nothing moves"
unfoldable pub outcome_by_number : ℕ → List Triplet → List Float → Words → Outcome
outcome_by_number n ts r W = cond (eqb n 0) (outcome 0 (length ts) (fronts ts r W)) (outcome n 0 W)

-- a change that no test before 7 refuses
abbrev pub made_at : List Triplet → List Float → Words → Outcome
made_at ts r W = outcome_by_number (cond (short_list ts W.rows W.cols W.values) 7 0) ts r W

module _ (G : Given) where
  abbrev pub counts_in : Counts
  counts_in = counts_of G.wiring

  abbrev pub network_of : List Float → Network
  network_of r = record { wiring = G.wiring; readings = r; indexes = G.indexes; coefficients = G.coefficients }

  -- demand 2's list for these readings
  abbrev pub matrix_of : Rule → List Float → List Triplet
  matrix_of rule r = list_of rule (network_of r) G.solution

  -- the word of the readings that a change sets
  abbrev pub place_of : Change → ℕ
  place_of h = place counts_in (field_of h.kind) h.index

  -- the readings with the change made
  abbrev pub changed : List Float → Change → List Float
  changed r h = set r (place_of h) h.value

  module _ (rule : Rule) (further : Words → Change → List Test) where
    -- 1 to 3 on network and solution sheet as the matrix call has them, then the change's own; "7 holds if demand 2's list for them with the change made doesn't fit its sheets"
    abbrev pub change_tests : Words → Change → List Test
    change_tests W h =
        solution_tests false (network_of W.readings) G.solution
        ++ (own_tests counts_in h.kind h.index h.value
        ++ test 7 (short_list (matrix_of rule (changed W.readings h)) W.rows W.cols W.values)
        ∷ further W h)

    -- "the lowest number that holds on its own readings"
    unfoldable pub number_of : Words → Change → ℕ
    number_of W h = first_of (change_tests W h)

    unfoldable pub step : Words → Change → Outcome
    step W h = outcome_by_number (number_of W h) (matrix_of rule (changed W.readings h)) (changed W.readings h) W

    -- ---- a list of calls, "each call on what the last one left"

    unfoldable pub lines : Words → List Change → List Line
    lines W [] = []
    lines W (h ∷ hs) = line h (step W h).number (step W h).count ∷ lines (step W h).left hs

    unfoldable pub words_after : Words → List Change → Words
    words_after W [] = W
    words_after W (h ∷ hs) = words_after (step W h).left hs

-- ---- the same as one call on a lent list of changes, which writes every number and count to lent sheets

-- the changes of a slice, three words each
abbrev pub change_at : List ℕ → ℕ → Change
change_at ws i = change (get_or ws (3 * i) 0) (get_or ws (3 * i + 1) 0) (get_or ws (3 * i + 2) 0)

abbrev pub changes_of : List ℕ → List Change
changes_of ws = made (change_at ws) (length ws / 3)

pub record Ran : Type 0 where
  pub number : ℕ
  pub count : ℕ
  pub left : Words
  pub numbers : List ℕ
  pub counts : List ℕ

abbrev pub ran : ℕ → ℕ → Words → List ℕ → List ℕ → Ran
ran n k W ns ks = record { number = n; count = k; left = W; numbers = ns; counts = ks }

-- of a call that hands this back and leaves these words and sheets
abbrev pub ran_of : Result ℕ Refusal → Words → List ℕ → List ℕ → Ran
ran_of r W ns ks = ran (answer_number r) (answer_count r) W ns ks

abbrev pub numbers_of : List Line → List ℕ
numbers_of ls = map (λ (l : Line). l.number) ls

abbrev pub counts_of_lines : List Line → List ℕ
counts_of_lines ls = map (λ (l : Line). l.count) ls

-- 1: the slice is no whole number of changes; 7: a sheet has no word for each of them
unfoldable pub run_number : List ℕ → List ℕ → List ℕ → ℕ
run_number ws ns ks =
    first_of (test 1 (not (eqb (length ws % 3) 0)) ∷ test 7 (ltb (length ns) (length ws / 3) || ltb (length ks) (length ws / 3)) ∷ [])

unfoldable pub run_call : Given → Rule → (Words → Change → List Test) → Words → List ℕ → List ℕ → List ℕ → Ran
run_call G rule further W ws ns ks =
    cond (eqb (run_number ws ns ks) 0)
    (ran 0 (length ws / 3) (words_after G rule further W (changes_of ws)) (front (numbers_of (lines G rule further W (changes_of ws))) ns) (front (counts_of_lines (lines G rule further W (changes_of ws))) ks))
    (ran (run_number ws ns ks) 0 W ns ks)
