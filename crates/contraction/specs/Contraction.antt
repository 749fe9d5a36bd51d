-- sens/mod.rs, `forward_adjoint`, on both sides of the outside solve: the selection sheet, and the contraction of the solved columns.
-- Main definitions: `Selector`, `selection_sheet`, `forward_word`, `adjoint_word`, `contracted`; `Run` and `Entered` say which entries are in range. Assumes nothing.
use Rattle.std.specs.Prelude.{ℕ, ◌+◌, ◌*◌, ◌≤◌, ◌<◌, ◌≡◌, cond, List, length, get_or, take, drop, eqb, Float}
use Rattle.std.specs.Float.{nan, binary64}
use Rattle.std.specs.Float.Ieee.{add, mul, ne}
use Rattle.std.specs.Borrow.{Bor}
use Rattle.float64.specs.Values.{nought, add_at}
use Rattle.sequence.specs.Lists.{before, each, made, turns}
use Rattle.model.specs.Quantities.{term_sum}
use Rattle.interface.specs.declared.Mode.{Mode}
use Rattle.interface.specs.declared.Mode.TheVariants.{Forward, Adjoint, Auto}

-- "Selector: a sign, entry counts per element, and the entries as terms (row, weight)", element after element
pub record Selector : Type 0 where
  pub sign : Float
  pub counts : List ℕ
  pub rows : List ℕ
  pub weights : List Float

abbrev pub selector : Float → List ℕ → List ℕ → List Float → Selector
selector g n i w = record { sign = g; counts = n; rows = i; weights = w }

-- the selector behind three references
abbrev pub selector_of : Float → Bor (List ℕ) → Bor (List ℕ) → Bor (List Float) → Selector
selector_of g n i w = selector g n.now i.now w.now

abbrev pub elements : Selector → ℕ
elements S = length S.counts

-- how many entries element o has, and where they start
abbrev pub entries_at : Selector → ℕ → ℕ
entries_at S o = get_or S.counts o 0

unfoldable pub entry_start : Selector → ℕ → ℕ
entry_start S o = before (entries_at S) o

-- ---- the selection sheet

-- word r of an element's column: from +0, each of its entries at row r added in order
unfoldable pub selection_word : List ℕ → List Float → ℕ → ℕ → ℕ → Float
selection_word rows weights from n r =
    turns (λ t a. add_at (eqb (get_or rows (from + t) 0) r) (get_or weights (from + t) nan) a) nought n

unfoldable pub selection_column : Selector → ℕ → ℕ → List Float
selection_column S dim o = made (selection_word S.rows S.weights (entry_start S o) (entries_at S o)) dim

-- a column for each element
unfoldable pub selection_sheet : Selector → ℕ → List Float
selection_sheet S dim = each (elements S) (selection_column S dim)

-- ---- the contraction

-- "column after column": column c of a sheet whose columns have dim words
unfoldable pub column : ℕ → List Float → ℕ → List Float
column dim sheet c = take dim (drop (c * dim) sheet)

-- forward: the sign times the entries' sum over a solved column
unfoldable pub forward_word : Float → List ℕ → List Float → ℕ → ℕ → List Float → Float
forward_word sign rows weights from n solved = mul binary64 sign (term_sum rows weights solved from n)

-- the first n words of a parameter column, each that is not zero times a solved word, summed from +0
unfoldable pub gathered : List Float → List Float → ℕ → Float
gathered parameter solved n =
    turns (λ r a. cond (ne (get_or parameter r nan) nought) (add binary64 a (mul binary64 (get_or parameter r nan) (get_or solved r nan))) a) nought n

-- adjoint: the sign times the parameter column's sum over a solved column
unfoldable pub adjoint_word : Float → ℕ → List Float → List Float → Float
adjoint_word sign dim parameter solved = mul binary64 sign (gathered parameter solved dim)

-- element o's word c, where the element has n entries from a place on; `Auto` is resolved by the driver
abbrev pub word_of : Mode → Float → List ℕ → List Float → ℕ → ℕ → ℕ → List Float → List Float → ℕ → ℕ → Float
word_of Forward sign rows weights from n dim parameter solved o c = forward_word sign rows weights from n (column dim solved c)
word_of Adjoint sign rows weights from n dim parameter solved o c = adjoint_word sign dim (column dim parameter c) (column dim solved o)
word_of Auto sign rows weights from n dim parameter solved o c = nought

-- element o's words, a word for each parameter column
unfoldable pub contracted_row : Mode → Selector → ℕ → ℕ → List Float → List Float → ℕ → List Float
contracted_row mode S dim columns parameter solved o =
    made (word_of mode S.sign S.rows S.weights (entry_start S o) (entries_at S o) dim parameter solved o) columns

-- "element by element, columns within"
unfoldable pub contracted : Mode → Selector → ℕ → ℕ → List Float → List Float → List Float
contracted mode S dim columns parameter solved = each (elements S) (contracted_row mode S dim columns parameter solved)

-- how many columns are solved: one for each parameter column, or one for each element
abbrev pub sides : Mode → ℕ → ℕ → ℕ
sides Forward columns elements = columns
sides Adjoint columns elements = elements
sides Auto columns elements = 0

-- ---- entries in range

-- n entries from a place on lie in the slices and name rows below dim
pub record Run (rows : List ℕ) (weights : List Float) (from n dim : ℕ) : Type 0 where
  pub in_rows : from + n ≤ length rows
  pub in_weights : from + n ≤ length weights
  pub below : (t : ℕ) → t < n → get_or rows (from + t) 0 < dim

-- n entries stand for the first dim words of a parameter column: over every solved column they have the words' sum
pub record Gathers (rows : List ℕ) (values : List Float) (n dim : ℕ) (parameter : List Float) : Type 0 where
  pub run : Run rows values 0 n dim
  pub sum : (solved : List Float) → term_sum rows values solved 0 n ≡ gathered parameter solved dim

-- a selector's entries are as many as its counts say, and name rows below dim
pub record Entered (S : Selector) (dim : ℕ) : Type 0 where
  pub long : length S.weights ≡ length S.rows
  pub sum : entry_start S (elements S) ≡ length S.rows
  pub below : (t : ℕ) → t < length S.rows → get_or S.rows t 0 < dim

-- the parameter columns and the solved columns lie in their sheets
pub record Sided (mode : Mode) (dim columns elements : ℕ) (parameter solved : List Float) : Type 0 where
  pub in_parameter : dim * columns ≤ length parameter
  pub in_solved : dim * sides mode columns elements ≤ length solved
