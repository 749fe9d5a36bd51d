-- `sens_operands::put_rows` meets its contract, word by word. Assumes nothing.
use Prim.Native.Nat.{◌+◌}
use Rattle.sequence.proofs.Fronts.{Fronted}
use Rattle.sens_operands.proofs.put_rows.Given as goal

abbrev pub invariant-loop-i : goal.invariant-loop-i
invariant-loop-i l = Fronted (λ i. l.start + i) l.i l.initial.rows l.rows
