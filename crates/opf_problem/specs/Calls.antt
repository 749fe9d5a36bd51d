-- `assemble_opf` as a call: 01's number, A's and P's counts, and every lent word afterwards.
-- Main definitions: `parts_of`, `assemble_call`. Assumes nothing.
use Rattle.std.specs.Prelude.{ℕ, Bool, true, cond, ◌||◌, List, [], ◌∷◌, ◌++◌, length, eqb, Float, Result, Ok, Err}
use Rattle.sequence.specs.Lists.{front}
use Rattle.sequence.specs.Answers.{test, first_of, short, number_of}
use Rattle.sequence.specs.declared.Refusal.{Refusal}
use Rattle.sequence.specs.declared.Triplet.{Triplet}
use Rattle.sequence.specs.Sheets.{rows_of, cols_of, values_of, short_list}
use Rattle.network.specs.Numbers.{Network, network_tests}
use Rattle.network.specs.declared.Counts.{Counts}
use Rattle.model.specs.Calls.{counted}
use Rattle.opf_layout.specs.Layout.{active_of, cones}
use Rattle.opf_assembly.specs.Assembly.{p_triplets, a_triplets, q_sheet, b_sheet}
use Rattle.opf_problem.specs.declared.Written.{Written}

-- what is assembled: P's list, A's list, q, b and the cones' sizes
pub record Parts : Type 0 where
  pub p : List Triplet
  pub a : List Triplet
  pub q : List Float
  pub b : List Float
  pub cones : List ℕ

abbrev pub parts_at : Counts → List ℕ → List Float → List ℕ → List Float → Parts
parts_at c w r ti tc =
    record {
      p = p_triplets c w r;
      a = a_triplets c w r ti tc;
      q = q_sheet c w r;
      b = b_sheet c w r;
      cones = cones c (active_of c w r);
    }

abbrev pub parts_of : Network → Parts
parts_of N = parts_at (counted N) N.wiring N.readings N.indexes N.coefficients

-- the sheets that are lent for it
pub record Program : Type 0 where
  pub p_rows : List ℕ
  pub p_cols : List ℕ
  pub p_values : List Float
  pub a_rows : List ℕ
  pub a_cols : List ℕ
  pub a_values : List Float
  pub q : List Float
  pub b : List Float
  pub cones : List ℕ

abbrev pub program : List ℕ → List ℕ → List Float → List ℕ → List ℕ → List Float → List Float → List Float → List ℕ → Program
program pr pc pv ar ac av q b s =
    record { p_rows = pr; p_cols = pc; p_values = pv; a_rows = ar; a_cols = ac; a_values = av; q = q; b = b; cones = s }

-- "a lent output shorter than the result": any of them
abbrev pub short_program : Parts → Program → Bool
short_program x s =
    short_list x.p s.p_rows s.p_cols s.p_values
    || (short_list x.a s.a_rows s.a_cols s.a_values || (short x.q s.q || (short x.b s.b || short x.cones s.cones)))

-- each result in the front of its sheet
abbrev pub fronts : Parts → Program → Program
fronts x s =
    program (front (rows_of x.p) s.p_rows) (front (cols_of x.p) s.p_cols) (front (values_of x.p) s.p_values)
    (front (rows_of x.a) s.a_rows) (front (cols_of x.a) s.a_cols) (front (values_of x.a) s.a_values)
    (front x.q s.q) (front x.b s.b) (front x.cones s.cones)

-- what the call answers, and leaves of the sheets
pub record Assembled : Type 0 where
  pub number : ℕ
  pub a_count : ℕ
  pub p_count : ℕ
  pub left : Program

abbrev pub assembled : ℕ → ℕ → ℕ → Program → Assembled
assembled n k l s = record { number = n; a_count = k; p_count = l; left = s }

-- how many triplets were written: none where the call refuses
abbrev pub counts_of : Result Written Refusal → Written
counts_of (Ok n) = n
counts_of (Err e) = record { a = 0; p = 0 }

-- number, counts and sheets of a call that hands this back
abbrev pub assembled_by : Result Written Refusal → Program → Assembled
assembled_by r s = assembled (number_of r) (counts_of r).a (counts_of r).p s

-- on 0 every result is written, and the counts are A's and P's; else the counts are 0 and nothing is
unfoldable pub assembles : ℕ → Parts → Program → Assembled
assembles number x s = cond (eqb number 0) (assembled 0 (length x.a) (length x.p) (fronts x s)) (assembled number 0 0 s)

unfoldable pub assemble_number : Network → Parts → Program → ℕ
assemble_number N x s = first_of (network_tests N true true ++ test 7 (short_program x s) ∷ [])

abbrev pub assemble_call : Network → Program → Assembled
assemble_call N s = assembles (assemble_number N (parts_of N) s) (parts_of N) s
