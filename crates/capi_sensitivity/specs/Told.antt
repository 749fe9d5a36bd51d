-- What an export on typed sheets answers: the number, and by reference the count, which a refusal leaves as it was.
-- Main definitions: `counting`, `selecting`, `copying`. Assumes nothing.
use Rattle.std.specs.Prelude.{ℕ, cond, List, eqb, length, Float}
use Rattle.sequence.specs.Lists.{front}
use Rattle.sequence.specs.Answers.{Filled, short}
use Rattle.sens_operands.specs.Calls.{Selection, Selected}

-- ---- number, count and sheet

-- the count's word afterwards: the count on 0, and else what it was
abbrev pub noted : ℕ → ℕ → ℕ → ℕ
noted number count old = cond (eqb number 0) count old

pub record Told : Type 0 where
  pub number : ℕ
  pub count : ℕ
  pub sheet : List Float

abbrev pub told : ℕ → ℕ → List Float → Told
told n k s = record { number = n; count = k; sheet = s }

-- a call's answer, over the count's old word
abbrev pub counting : Filled Float → ℕ → Told
counting a old = told a.number (noted a.number a.count old) a.sheet

-- likewise of a selector's four sheets
pub record Chosen : Type 0 where
  pub number : ℕ
  pub count : ℕ
  pub left : Selection

abbrev pub chosen : ℕ → ℕ → Selection → Chosen
chosen n k s = record { number = n; count = k; left = s }

abbrev pub selecting : Selected → ℕ → Chosen
selecting a old = chosen a.number (noted a.number a.count old) a.left

-- ---- a part handed back, copied

pub record Copied : Type 0 where
  pub count : ℕ
  pub sheet : List Float

abbrev pub copied : ℕ → List Float → Copied
copied n s = record { count = n; sheet = s }

-- its length, and its words in front where they have room
abbrev pub copying : List Float → List Float → Copied
copying part sheet = copied (length part) (cond (short part sheet) sheet (front part sheet))
