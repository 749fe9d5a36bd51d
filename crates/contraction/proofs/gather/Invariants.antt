-- `contraction::gather` meets its contract. The loop's invariant: the entries stand for the words of the first b blocks. Assumes nothing.
use mathlib.Core.Path.{◌≡◌}
use Prim.Native.Nat.{◌*◌, ◌≤◌}
use lib.ListN.{length}
use Rattle.contraction.specs.Contraction.{Gathers}
use Rattle.contraction.proofs.gather.Given as goal

abbrev pub invariant-loop-b : goal.invariant-loop-b
invariant-loop-b l = Gathers l.rows l.values l.n (8 * l.b) l.parameter × (length l.rows ≡ length l.initial.rows) × (length l.values ≡ length l.initial.values) × (l.n ≤ length l.rows)
