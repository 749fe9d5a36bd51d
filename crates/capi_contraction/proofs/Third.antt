-- The call after the solve on bytes, for one element and one column: the laws of its answer, whose result is one word.
-- Main results: `third_answer`, `third_count`, `third_one`; `unfit`. Assumes nothing.
use mathlib.Core.Path.{◌≡◌, sym}
use mathlib.Core.Bool.{Bool, true, false, ◌&&◌}
use mathlib.Core.List.{List}
use Prim.Native.Nat.{ℕ, ◌≤◌}
use native.Mathlib.Omega.{arith}
use lib.ListN.{length}
use lib.Ieee.{Float}
use Rattle.sequence.specs.Answers.{marked, Filled, filled}
use Rattle.sequence.proofs.Lists.{never}
use Rattle.words.specs.Words.{doubles_of}
use Rattle.network.specs.Numbers.{Network, sizes_hold}
use Rattle.interface.specs.declared.Mode.{Mode}
use Rattle.contraction.specs.Contraction.{Selector, elements}
use Rattle.contraction.proofs.Columns.{contracted_long}
use Rattle.selector_check.specs.Tests.{dim_of}
use Rattle.sens.specs.Calls.{third_tests, third_sheet, third_number, third_call}
use Rattle.decoding.specs.Exports.{out, filled_out}
use Rattle.decoding.specs.Decoding.{Cells}
use Rattle.decoding.proofs.Answered.{sheet_answer, sheet_count, sheet_one}

module _ (N : Network) (mode : Mode) (S : Selector) (parameter solved : List Float) where
  module _ (one : elements S ≡ 1) (bs : List ℕ) (cells : List Float) (room : Cells 1 (length bs) (length cells)) {n k : ℕ} {new : List Float} (e : filled n k new ≡ third_call N mode S 1 parameter solved cells) where
    small : length (third_sheet N mode S 1 parameter solved) ≤ 1
    small = omega (arith, one, contracted_long mode S (dim_of N) 1 parameter solved)

    pub third_answer : filled_out true (filled n k new) bs ≡ filled_out true (third_call N mode S 1 parameter solved (doubles_of bs)) bs
    unfolding third_call third_number marked
    third_answer = sheet_answer (third_tests N mode S 1 parameter solved) tt (third_sheet N mode S 1 parameter solved) 1 bs cells room (λ z. small) e

    pub third_count : k ≤ length cells
    unfolding third_call third_number marked
    third_count = sheet_count (third_tests N mode S 1 parameter solved) tt (third_sheet N mode S 1 parameter solved) 1 bs cells room (λ z. small) e

  pub third_one : (sheet : List Float) (ok : Bool) (bs : List ℕ) → ok && sizes_hold N ≡ false → out 1 bs ≡ filled_out ok (third_call N mode S 1 parameter solved sheet) bs
  unfolding third_call third_number
  third_one sheet ok bs e = sheet_one N _ _ _ (third_sheet N mode S 1 parameter solved) sheet ok bs (further ok (sizes_hold N) _ e)
    where
      -- sizes of the call's own, beside the network's
      further : (a b c : Bool) → a && b ≡ false → a && (b && c) ≡ false
      further false b c h = h
      further true false c h = h
      further true true c h = never (sym h)

pub unfit : (a : Filled Float) (ok : Bool) (bs : List ℕ) → ok ≡ false → out 1 bs ≡ filled_out ok a bs
unfolding filled_out
unfit a ok bs e = rw e
