-- A list of triplets in three lent sheets: rows, columns and values. Assumes nothing.
use Rattle.std.specs.Prelude.{ℕ, ◌+◌, ◌≤◌, min, Bool, cond, List, [], ◌∷◌, map, ◌≡◌, length, set, eqb, ltb, Float, Option, Some, None, Result}
use Rattle.std.specs.Borrow.{MutBor}
use Rattle.sequence.specs.declared.Refusal.{Refusal}
use Rattle.sequence.specs.Answers.{number_of, count_of}
use Rattle.sequence.specs.Lists.{front}
use Rattle.sequence.specs.declared.Triplet.{Triplet}

abbrev pub triplet : ℕ → ℕ → Float → Triplet
triplet r c v = record { row = r; col = c; value = v }

-- a triplet where it is meant at all
abbrev pub item : Bool → ℕ → ℕ → Float → Option Triplet
item b r c v = cond b (Some (triplet r c v)) None

-- the list of a triplet, or of none
unfoldable pub emit : Option Triplet → List Triplet
emit (Some t) = t ∷ []
emit None = []

abbrev pub rows_of : List Triplet → List ℕ
rows_of ts = map (λ (t : Triplet). t.row) ts

abbrev pub cols_of : List Triplet → List ℕ
cols_of ts = map (λ (t : Triplet). t.col) ts

abbrev pub values_of : List Triplet → List Float
values_of ts = map (λ (t : Triplet). t.value) ts

-- ---- putting triplets in, one after the other

-- the three sheets, and how many triplets have been met
pub record Sheets : Type 0 where
  pub rows : List ℕ
  pub cols : List ℕ
  pub values : List Float
  pub at : ℕ

abbrev pub sheets : List ℕ → List ℕ → List Float → ℕ → Sheets
sheets r c v n = record { rows = r; cols = c; values = v; at = n }

-- the sheets behind three references
abbrev pub held : MutBor (List ℕ) → MutBor (List ℕ) → MutBor (List Float) → ℕ → Sheets
held r c v n = sheets r.now c.now v.now n

-- one more triplet: stored where its place is below the limit, and counted in any case
unfoldable pub put1 : ℕ → Sheets → Triplet → Sheets
put1 l S t =
    cond (ltb S.at l)
    (sheets (set S.rows S.at t.row) (set S.cols S.at t.col) (set S.values S.at t.value) (S.at + 1))
    (sheets S.rows S.cols S.values (S.at + 1))

unfoldable pub puts : ℕ → Sheets → List Triplet → Sheets
unfolding put1
puts l S [] = S
puts l S (t ∷ ts) = puts l (put1 l S t) ts

-- S₁ is S₀ with the list put in, below the limit l
pub record Puts (l : ℕ) (ts : List Triplet) (S₀ S₁ : Sheets) : Type 0 where
  pub is : S₁ ≡ puts l S₀ ts
  pub rows_kept : length S₁.rows ≡ length S₀.rows
  pub cols_kept : length S₁.cols ≡ length S₀.cols
  pub values_kept : length S₁.values ≡ length S₀.values

-- the limit lies within the sheets, and the count is far from wrapping
pub record Fits (l : ℕ) (S : Sheets) : Type 0 where
  pub in_rows : l ≤ length S.rows
  pub in_cols : l ≤ length S.cols
  pub in_values : l ≤ length S.values
  pub far : S.at ≤ 0x4000_0000

-- ---- what a call answers and leaves in its three sheets

pub record Laid : Type 0 where
  pub number : ℕ
  pub count : ℕ
  pub rows : List ℕ
  pub cols : List ℕ
  pub values : List Float

abbrev pub laid : ℕ → ℕ → List ℕ → List ℕ → List Float → Laid
laid n k r c v = record { number = n; count = k; rows = r; cols = c; values = v }

-- how many triplets three sheets hold: "short if any of them is"
abbrev pub room : List ℕ → List ℕ → List Float → ℕ
room r c v = min (length r) (min (length c) (length v))

abbrev pub short_list : List Triplet → List ℕ → List ℕ → List Float → Bool
short_list ts r c v = ltb (room r c v) (length ts)

-- on 0 the list fills the fronts and the count is its length; else the count is 0 and nothing is written
unfoldable pub lays : ℕ → List Triplet → List ℕ → List ℕ → List Float → Laid
lays number ts r c v =
    cond (eqb number 0)
    (laid 0 (length ts) (front (rows_of ts) r) (front (cols_of ts) c) (front (values_of ts) v))
    (laid number 0 r c v)

-- the list where the sheets hold it, and number 7 where they are short
abbrev pub lays_if : List Triplet → List ℕ → List ℕ → List Float → Laid
lays_if ts r c v = lays (cond (short_list ts r c v) 7 0) ts r c v

-- number, count and sheets of a call that hands this back
abbrev pub listed : Result ℕ Refusal → List ℕ → List ℕ → List Float → Laid
listed a r c v = laid (number_of a) (count_of a) r c v
