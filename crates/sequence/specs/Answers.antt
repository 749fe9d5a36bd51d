-- Answers by number: an ordered list of tests, of which the first that holds gives the number.
-- A call's answer is its number, its count and what its sheet holds afterwards. Assumes nothing.
use Rattle.std.specs.Prelude.{ℕ, Bool, true, cond, not, ◌&&◌, List, [], ◌∷◌, length, eqb, ltb, Result, Ok, Err}
use Rattle.sequence.specs.declared.Refusal.{Refusal}
use Rattle.sequence.specs.declared.Refusal.TheVariants.{Size, Wiring, Reading, Kind, Element, Piecewise, Short}
use Rattle.sequence.specs.Lists.{front}

-- a number of 01's table, and whether its condition holds
pub record Test : Type 0 where
  pub number : ℕ
  pub holds : Bool

abbrev pub test : ℕ → Bool → Test
test n b = record { number = n; holds = b }

-- the number of the first test that holds, and 0 where none does
unfoldable pub first_of : List Test → ℕ
first_of [] = 0
first_of (t ∷ ts) = cond t.holds t.number (first_of ts)

-- no test of the list has the number 0
unfoldable pub marked : List Test → Bool
marked [] = true
marked (t ∷ ts) = not (eqb t.number 0) && marked ts

-- "a lent output shorter than the result"
abbrev pub short : {A : Type 0} → List A → List A → Bool
short result sheet = ltb (length sheet) (length result)

-- what a call answers and leaves in its one sheet
pub record Filled (A : Type 0) : Type 0 where
  pub number : ℕ
  pub count : ℕ
  pub sheet : List A

abbrev pub filled : {A : Type 0} → ℕ → ℕ → List A → Filled A
filled n k s = record { number = n; count = k; sheet = s }

-- on 0 the result fills the front and the count is its length; else the count is 0 and nothing is written
unfoldable pub fills : {A : Type 0} → ℕ → List A → List A → Filled A
fills number result sheet = cond (eqb number 0) (filled 0 (length result) (front result sheet)) (filled number 0 sheet)

-- ---- what a call hands back

-- a refusal's number in 01's table
abbrev pub refusal_number : Refusal → ℕ
refusal_number Size = 1
refusal_number Wiring = 2
refusal_number Reading = 3
refusal_number Kind = 4
refusal_number Element = 5
refusal_number Piecewise = 6
refusal_number Short = 7

-- 0, or the number of the refusal
abbrev pub number_of : {A : Type 0} → Result A Refusal → ℕ
number_of (Ok a) = 0
number_of (Err e) = refusal_number e

-- how much was written: nothing where the call refuses
abbrev pub count_of : Result ℕ Refusal → ℕ
count_of (Ok n) = n
count_of (Err e) = 0

-- number, count and sheet of a call that hands this back
abbrev pub answered : {A : Type 0} → Result ℕ Refusal → List A → Filled A
answered r s = filled (number_of r) (count_of r) s
