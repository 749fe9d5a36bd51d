-- `interface::scale::served_unit_scale` meets its contract: a law for each return.
-- Main results: `outside`, `no_room`, `done`. Assumes nothing.
use mathlib.Core.Path.{◌≡◌, ◌∙◌}
use mathlib.Core.Bool.{Bool, true, false}
use mathlib.Core.List.{List, []}
use Prim.Native.Nat.{◌≤◌, ◌<◌}
use native.Mathlib.Omega.{arith}
use lib.ListN.{length, set}
use lib.Ieee.{Float}
use borrow.Author.Tests.{lt-ltb, le-ltb}
use Rattle.float64.specs.Values.{base_low, base_high, in_range}
use Rattle.sequence.specs.Answers.{filled}
use Rattle.sequence.proofs.Lists.{failed, held}
use Rattle.sequence.proofs.Answers.{no_test, passed, holding, fills_refused, fills_done}
use Rattle.sequence.proofs.Fronts.{one_front}
use Rattle.interface.specs.declared.Operand.{Operand}
use Rattle.interface.specs.declared.Parameter.{Parameter}
use Rattle.interface.specs.Scales.{unit_scale, scale_number, scale_call}
use Rattle.interface.proofs.scale.served_unit_scale.Goals as goal

module _ (o : Operand) (p : Parameter) (base : Float) (sheet : List Float) where
  outside : in_range base_low base_high base ≡ false → filled 3 0 sheet ≡ scale_call o p base sheet
  unfolding scale_number
  outside h = fills_refused _ sheet (holding 3 _ _ (rw h)) (λ z. absurd (omega arith))

  no_room : in_range base_low base_high base ≡ true → length sheet < 1 → filled 7 0 sheet ≡ scale_call o p base sheet
  unfolding scale_number
  no_room h l = fills_refused _ sheet (passed 3 _ _ (rw h) ∙ holding 7 _ [] (lt-ltb (length sheet) 1 l)) (λ z. absurd (omega arith))

  done : in_range base_low base_high base ≡ true → 1 ≤ length sheet → {y : Float} → y ≡ unit_scale o p base → filled 0 1 (set sheet 0 y) ≡ scale_call o p base sheet
  unfolding scale_number
  done h l e = rw (e, one_front _ sheet l) (fills_done _ sheet (passed 3 _ _ (rw h) ∙ passed 7 _ [] (le-ltb (length sheet) 1 l) ∙ no_test))

-- the test of the code is the definition's

in_limits : (base : Float) {low high : Float} {r : Bool} → low ≡ base_low → high ≡ base_high → r ≡ in_range low high base → r ≡ in_range base_low base_high base
in_limits base l h e = rw (l, h) at e

pub returns-then-not-in_range : goal.returns-then-not-in_range
returns-then-not-in_range c = let a = c.args in
    let e = in_limits a.base c.base_low.ensures c.base_high.ensures c.in_range.ensures in
    outside a.o a.p a.base a.out.now (failed e c.if-not-in_range.true)

pub returns-then-is_empty : goal.returns-then-is_empty
returns-then-is_empty c = let a = c.args in
    let e = in_limits a.base c.base_low.ensures c.base_high.ensures c.in_range.ensures in
    no_room a.o a.p a.base a.out.now (held e c.if-not-in_range.false) (grind arith)

pub returns : goal.returns
returns c = let a = c.args in
    let e = in_limits a.base c.base_low.ensures c.base_high.ensures c.in_range.ensures in
    done a.o a.p a.base a.out.now (held e c.if-not-in_range.false) (grind arith) (rw (c.operand_served_scale.ensures, c.parameter_served_scale.ensures))
