-- Demand 3, one statement about a whole run of change calls: `Demand3`, proved of every run as `demand_3` in proofs/Whole. Assumes nothing.
use Rattle.std.specs.Prelude.{ℕ, ◌≡◌, Bool, true, false, cond, not, ◌&&◌, ◌||◌, List, [], ◌∷◌, map, length, get_or, take, T, eqb, Float}
use Rattle.std.specs.Float.{nan}
use Rattle.sequence.specs.Lists.{made}
use Rattle.sequence.specs.Answers.{Test}
use Rattle.sequence.specs.declared.Triplet.{Triplet}
use Rattle.sequence.specs.Sheets.{triplet, laid}
use Rattle.kkt.specs.Slots.{Rule}
use Rattle.change_table.specs.Table.{Cell, named_cells, among, values_at}
use Rattle.sens_dc.specs.Calls.{matrix_call}
use Rattle.job_book.specs.declared.Change.{Change}
use Rattle.job_book.specs.Book.{Given, Words, Line, outcome, counts_in, network_of, place_of, matrix_of, step, lines, words_after}

-- ---- the list in the sheets

unfoldable pub triplets : List ℕ → List ℕ → List Float → List Triplet
triplets [] cs vs = []
triplets (r ∷ rs) [] vs = []
triplets (r ∷ rs) (c ∷ cs) [] = []
triplets (r ∷ rs) (c ∷ cs) (v ∷ vs) = triplet r c v ∷ triplets rs cs vs

-- "The list is the sheets' front", so many triplets long
abbrev pub list_in : ℕ → Words → List Triplet
list_in k W = triplets (take k W.rows) (take k W.cols) (take k W.values)

-- ---- the calls of a run, and the accepted ones

abbrev pub changes_in : List Line → List Change
changes_in ls = map (λ (l : Line). l.change) ls

abbrev pub accepted : Line → Bool
accepted l = eqb l.number 0

unfoldable pub any_accepted : List Line → Bool
any_accepted [] = false
any_accepted (l ∷ ls) = accepted l || any_accepted ls

-- "as long as the last accepted count", and k where there is none
unfoldable pub last_count : ℕ → List Line → ℕ
last_count k [] = k
last_count k (l ∷ ls) = last_count (cond (accepted l) l.count k) ls

module _ (G : Given) where
  -- the last value that an accepted call gave the reading at a place, and x where none did
  unfoldable pub last_value : ℕ → Float → List Line → Float
  last_value p x [] = x
  last_value p x (l ∷ ls) = last_value p (cond (accepted l && eqb (place_of G l.change) p) l.change.value x) ls

  -- "each reading at its last accepted value, or its first if it has none"
  unfoldable pub standing : List Float → List Line → List Float
  standing r ls = made (λ p. last_value p (get_or r p nan) ls) (length r)

  -- a cell is outside every set that 01 names for the accepted changes
  unfoldable pub outside : List Float → Cell → List Line → Bool
  outside r x [] = true
  outside r x (l ∷ ls) =
      not (accepted l && among x (named_cells (counts_in G) G.wiring r l.change.kind l.change.index)) && outside r x ls

  -- the matrix call on these readings and sheets: it answers 0 and so many triplets, and every word is as it would leave it
  abbrev pub Stands : Rule → List Float → ℕ → Words → Type 0
  Stands rule r k W =
      matrix_call rule [] (network_of G r) G.solution W.rows W.cols W.values ≡ laid 0 k W.rows W.cols W.values

  -- how long the list is: "as long as the last accepted count, and before that as demand 2's for the network at the start"
  abbrev pub length_after : Rule → Words → List Line → ℕ
  length_after rule W ls = last_count (length (matrix_of G rule W.readings)) ls

  module _ (rule : Rule) (further : Words → Change → List Test) where
    -- calls, each as its contract has it, on the words that the last one left
    pub data Runs : Words → List Line → Words → Type 0 where
      ended : {W : Words} → Runs W [] W
      called : {W W₁ W₂ : Words} {l : Line} {ls : List Line} → outcome l.number l.count W₁ ≡ step G rule further W l.change → Runs W₁ ls W₂ → Runs W (l ∷ ls) W₂

    -- of a run from W over the calls ls to W'
    pub record Demand3 (W : Words) (ls : List Line) (W' : Words) : Type 0 where
      -- "every number and count, and afterwards every word of readings and list sheets, are those of 01's job book"
      pub answers : ls ≡ lines G rule further W (changes_in ls)
      pub left : W' ≡ words_after G rule further W (changes_in ls)
      -- "each reading at its last accepted value, or its first if it has none"
      pub readings : W'.readings ≡ standing W.readings ls
      -- "From the first accepted call on, the list is exactly demand 2's for the network" with those readings
      pub list : T (any_accepted ls) → Stands rule (standing W.readings ls) (length_after rule W ls) W' × (list_in (length_after rule W ls) W' ≡ matrix_of G rule (standing W.readings ls))
      -- "If the list at the start was demand 2's, each cell outside every set 01 names for the accepted changes holds the same values bit for bit"
      pub cells : list_in (length_after rule W []) W ≡ matrix_of G rule W.readings → (x : Cell) → T (outside W.readings x ls) → values_at (list_in (length_after rule W ls) W') x ≡ values_at (list_in (length_after rule W []) W) x
      -- "Two runs from one start, each with an accepted call, that end on the same reading bits give one list"
      pub one_list : (ls₂ : List Line) (W₂ : Words) → Runs W ls₂ W₂ → T (any_accepted ls) → T (any_accepted ls₂) → W'.readings ≡ W₂.readings → (length_after rule W ls ≡ length_after rule W ls₂) × (list_in (length_after rule W ls) W' ≡ list_in (length_after rule W ls₂) W₂)
      -- "once accepted calls have put all old bits back, demand 2's list for the old network is back"
      pub back : T (any_accepted ls) → W'.readings ≡ W.readings → Stands rule W.readings (length_after rule W ls) W' × (list_in (length_after rule W ls) W' ≡ matrix_of G rule W.readings)
