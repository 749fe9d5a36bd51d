-- 01's "`ProgramBuilder` without CSC: zero values dropped, `lin` adds, `rhs` sets". Main definitions: `entry`, `added`. Assumes nothing.
use Rattle.std.specs.Prelude.{ℕ, not, List, get_or, set, Float, Option}
use Rattle.std.specs.Float.{nan, binary64}
use Rattle.std.specs.Float.Ieee.{eq, add}
use Rattle.float64.specs.Values.{nought}
use Rattle.sequence.specs.declared.Triplet.{Triplet}
use Rattle.sequence.specs.Sheets.{item, emit}

-- `quad` and `a`: "zero values dropped"
abbrev pub entry : ℕ → ℕ → Float → Option Triplet
entry i j v = item (not (eq v nought)) i j v

abbrev pub kept : ℕ → ℕ → Float → List Triplet
kept i j v = emit (entry i j v)

-- `lin` adds
abbrev pub added : List Float → ℕ → Float → List Float
added q c v = set q c (add binary64 (get_or q c nan) v)

-- `rhs` sets
abbrev pub replaced : List Float → ℕ → Float → List Float
replaced b r v = set b r v
