-- What the inner functions of `capi_assemble_opf` are lent: cells for a program that goes to nine byte slices, and results that have room there.
-- Main definitions: `ProgramCells`, `ListFits`, `SidesFit`. Assumes nothing.
use Rattle.std.specs.Prelude.{ℕ, ◌*◌, ◌/◌, ◌<◌, ◌≤◌, min, ◌≡◌, List, length, Float}
use Rattle.decoding.specs.Decoding.{ListCells}
use Rattle.opf_problem.specs.Calls.{Program}
use Rattle.capi_problem.specs.declared.Sides.{Sides}
use Rattle.capi_problem.specs.Assembled.{Bytes}

-- cells for a program, of the greatest lengths or what the slices hold
pub record ProgramCells (B : Bytes) (s : Program) : Type 0 where
  pub of_p : ListCells 256 (length B.p_rows) (length B.p_cols) (length B.p_values) (length s.p_rows) (length s.p_cols) (length s.p_values)
  pub of_a : ListCells 12304 (length B.a_rows) (length B.a_cols) (length B.a_values) (length s.a_rows) (length s.a_cols) (length s.a_values)
  pub of_q : length s.q ≡ min 1536 (length B.q / 8)
  pub of_b : length s.b ≡ min 5072 (length B.b / 8)
  pub of_cones : length s.cones ≡ min 4 (length B.cones / 4)

-- a list lies in its cells, and its bytes in their slices
pub record ListFits (n : ℕ) (r c : List ℕ) (v : List Float) (R C X : List ℕ) : Type 0 where
  pub rows : n ≤ length r
  pub cols : n ≤ length c
  pub values : n ≤ length v
  pub row_bytes : 4 * n ≤ length R
  pub col_bytes : 4 * n ≤ length C
  pub value_bytes : 8 * n ≤ length X
  pub small : n < 0x100_0000

-- and so do q, b and the cones' sizes
pub record SidesFit (k : Sides) (q b : List Float) (s Q B S : List ℕ) : Type 0 where
  pub in_q : k.q ≤ length q
  pub in_b : k.b ≤ length b
  pub in_cones : k.cones ≤ length s
  pub q_bytes : 8 * k.q ≤ length Q
  pub b_bytes : 8 * k.b ≤ length B
  pub cone_bytes : 4 * k.cones ≤ length S
