-- The unit scale on bytes: one double, or a refusal, by what the numbers stand for.
-- Main results: `scaled_answer`, `scaled_count`. Assumes nothing.
use mathlib.Core.Path.{◌≡◌, ap}
use mathlib.Core.Bool.{true, not}
use mathlib.Core.List.{List, [], ◌∷◌}
use Prim.Native.Nat.{ℕ, ◌≤◌}
use native.Mathlib.Omega.{arith}
use lib.ListN.{length}
use lib.Ieee.{Float}
use Rattle.std.specs.Prelude.{Option, Some, None}
use Rattle.float64.specs.Values.{base_low, base_high, in_range}
use Rattle.sequence.specs.Answers.{test, marked, Filled, filled}
use Rattle.words.specs.Words.{doubles_of}
use Rattle.interface.specs.Scales.{unit_scale, scale_number}
use Rattle.interface.specs.declared.Operand.{Operand}
use Rattle.interface.specs.declared.Parameter.{Parameter}
use Rattle.asked.specs.Asked.{known_scale, scaling}
use Rattle.decoding.specs.Exports.{filled_out}
use Rattle.decoding.specs.Decoding.{Cells}
use Rattle.decoding.proofs.Answered.{sheet_answer, sheet_count}

module _ (base : Float) (bs : List ℕ) (cells : List Float) (room : Cells 1 (length bs) (length cells)) {n k : ℕ} {new : List Float} where
  -- a refusal writes nothing
  refused_answer : (number : ℕ) → filled n k new ≡ filled number 0 cells → filled_out true (filled n k new) bs ≡ filled_out true (filled number 0 (doubles_of bs)) bs
  unfolding filled_out
  refused_answer number e = ap (λ (a : Filled Float). filled_out true a bs) e

  refused_count : (number : ℕ) → filled n k new ≡ filled number 0 cells → k ≤ length cells
  refused_count number e = rw (ap (λ (a : Filled Float). a.count) e) (omega arith)

  known_answer : (o : Operand) (p : Option Parameter) → filled n k new ≡ known_scale o p base cells → filled_out true (filled n k new) bs ≡ filled_out true (known_scale o p base (doubles_of bs)) bs
  unfolding scale_number marked
  known_answer o (Some p) e = sheet_answer (test 3 (not (in_range base_low base_high base)) ∷ []) tt (unit_scale o p base ∷ []) 1 bs cells room (λ z. omega arith) e
  known_answer o None e = refused_answer _ e

  known_count : (o : Operand) (p : Option Parameter) → filled n k new ≡ known_scale o p base cells → k ≤ length cells
  unfolding scale_number marked
  known_count o (Some p) e = sheet_count (test 3 (not (in_range base_low base_high base)) ∷ []) tt (unit_scale o p base ∷ []) 1 bs cells room (λ z. omega arith) e
  known_count o None e = refused_count _ e

  pub scaled_answer : (o : Option Operand) (p : Option Parameter) → filled n k new ≡ scaling o p base cells → filled_out true (filled n k new) bs ≡ filled_out true (scaling o p base (doubles_of bs)) bs
  scaled_answer (Some o) p e = known_answer o p e
  scaled_answer None p e = refused_answer _ e

  pub scaled_count : (o : Option Operand) (p : Option Parameter) → filled n k new ≡ scaling o p base cells → k ≤ length cells
  scaled_count (Some o) p e = known_count o p e
  scaled_count None p e = refused_count _ e
