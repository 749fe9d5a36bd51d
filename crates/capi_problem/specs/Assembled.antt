-- What the exports of `assemble_opf` answer: number and counts in one word, beside the nine sheets that it leaves, or their bytes.
-- Main definitions: `packing`, `assembled_out`. Assumes nothing.
use Rattle.std.specs.Prelude.{ℕ, ◌+◌, ◌*◌, Bool, cond, List, length, take, eqb, Float}
use Rattle.sequence.specs.Lists.{front}
use Rattle.words.specs.Words.{words_of, doubles_of, word_bytes, double_bytes}
use Rattle.network.specs.declared.Counts.{Counts}
use Rattle.opf_layout.specs.Layout.{active_of, cones}
use Rattle.opf_assembly.specs.Assembly.{q_sheet, b_sheet}
use Rattle.opf_problem.specs.Calls.{Parts, Program, program, Assembled}
use Rattle.capi_problem.specs.declared.Sides.{Sides}

-- number, A's count and P's count in one word
abbrev pub packed_both : ℕ → ℕ → ℕ → ℕ
packed_both number a p = number + 256 * a + 0x1_0000_0000 * p

-- ---- typed sheets

pub record Packed : Type 0 where
  pub word : ℕ
  pub left : Program

abbrev pub packed_program : ℕ → Program → Packed
packed_program a s = record { word = a; left = s }

-- a call's answer with its number and counts in one word
abbrev pub packing : Assembled → Packed
packing a = packed_program (packed_both a.number a.a_count a.p_count) a.left

-- ---- bytes

-- nine byte slices
pub record Bytes : Type 0 where
  pub p_rows : List ℕ
  pub p_cols : List ℕ
  pub p_values : List ℕ
  pub a_rows : List ℕ
  pub a_cols : List ℕ
  pub a_values : List ℕ
  pub q : List ℕ
  pub b : List ℕ
  pub cones : List ℕ

abbrev pub bytes : List ℕ → List ℕ → List ℕ → List ℕ → List ℕ → List ℕ → List ℕ → List ℕ → List ℕ → Bytes
bytes pr pc pv ar ac av q b s =
    record { p_rows = pr; p_cols = pc; p_values = pv; a_rows = ar; a_cols = ac; a_values = av; q = q; b = b; cones = s }

-- the words and doubles that they hold
abbrev pub words_in : Bytes → Program
words_in B =
    program (words_of B.p_rows) (words_of B.p_cols) (doubles_of B.p_values)
    (words_of B.a_rows) (words_of B.a_cols) (doubles_of B.a_values)
    (doubles_of B.q) (doubles_of B.b) (words_of B.cones)

-- how many words q, b and the cones' sizes have
abbrev pub sides : ℕ → ℕ → ℕ → Sides
sides q b s = record { q = q; b = b; cones = s }

abbrev pub sides_at : Counts → List ℕ → List Float → Sides
sides_at c w r = sides (length (q_sheet c w r)) (length (b_sheet c w r)) (length (cones c (active_of c w r)))

abbrev pub sides_of : Parts → Sides
sides_of x = sides (length x.q) (length x.b) (length x.cones)

-- the bytes of a words of A's sheets, of p of P's, and of so many of the others, in front of the slices
abbrev pub back : ℕ → ℕ → Sides → Program → Bytes → Bytes
back a p k s B =
    bytes (front (word_bytes (take p s.p_rows)) B.p_rows) (front (word_bytes (take p s.p_cols)) B.p_cols) (front (double_bytes (take p s.p_values)) B.p_values)
    (front (word_bytes (take a s.a_rows)) B.a_rows) (front (word_bytes (take a s.a_cols)) B.a_cols) (front (double_bytes (take a s.a_values)) B.a_values)
    (front (double_bytes (take k.q s.q)) B.q) (front (double_bytes (take k.b s.b)) B.b) (front (word_bytes (take k.cones s.cones)) B.cones)

-- what the export answers, and the bytes that it leaves
pub record Out : Type 0 where
  pub word : ℕ
  pub left : Bytes

abbrev pub out : ℕ → Bytes → Out
out a B = record { word = a; left = B }

-- a ragged input slice has a wrong length: number 1. Else the call's answer; where it is 0 each result's bytes are in front, and else no byte moves
unfoldable pub assembled_out : Bool → Parts → Assembled → Bytes → Out
assembled_out ok x a B =
    cond ok
    (out (packed_both a.number a.a_count a.p_count) (cond (eqb a.number 0) (back a.a_count a.p_count (sides_of x) a.left B) B))
    (out 1 B)
