-- What the exports of the contraction answer on bytes, for one element and one column a call. The slices are decoded into
-- arrays of 6,544 words, the greatest dim that 01 allows: longer ones are number 1, as ragged ones are.
-- Main definitions: `entries_fit`, `first_out`, `side_out`. Assumes nothing.
use Rattle.std.specs.Prelude.{ℕ, ◌/◌, Bool, cond, ◌&&◌, List, ltb, length, take, Float}
use Rattle.sequence.specs.Lists.{front}
use Rattle.sequence.specs.Answers.{Filled}
use Rattle.words.specs.Words.{double_bytes}
use Rattle.interface.specs.declared.Mode.{Mode}
use Rattle.interface.specs.declared.Mode.TheVariants.{Forward, Adjoint, Auto}
use Rattle.decoding.specs.Exports.{Out, out, packed}
use Rattle.decoding.specs.Decoding.{fits}

-- an element's entries
abbrev pub entries_fit : List ℕ → List ℕ → Bool
entries_fit rows weights = fits 4 rows 6544 && fits 8 weights 6544

-- two sheets of doubles
abbrev pub sheets_fit : List ℕ → List ℕ → Bool
sheets_fit a b = fits 8 a 6544 && fits 8 b 6544

-- how many of the counted words the first call writes: "when adjoint, fills the selection sheet"
abbrev pub written : Mode → ℕ → ℕ
written Forward count = 0
written Adjoint count = count
written Auto count = 0

unfoldable pub first_out : Bool → Mode → Filled Float → List ℕ → Out
first_out ok mode a bs =
    cond ok (out (packed a.number a.count) (front (double_bytes (take (written mode a.count) a.sheet)) bs)) (out 1 bs)

-- a part's length, and where they have room its bytes in front; none of slices that do not fit
unfoldable pub side_out : Bool → List Float → List ℕ → Out
side_out ok part bs =
    cond ok (out (length part) (cond (ltb (length bs / 8) (length part)) bs (front (double_bytes part) bs))) (out 0 bs)
