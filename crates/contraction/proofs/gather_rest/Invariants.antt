-- `contraction::gather_rest` meets its contract. The loop's invariant: the entries stand for the first r words. Assumes nothing.
use mathlib.Core.Path.{◌≡◌}
use Prim.Native.Nat.{◌≤◌}
use lib.ListN.{length}
use Rattle.contraction.specs.Contraction.{Gathers}
use Rattle.contraction.proofs.gather_rest.Given as goal

abbrev pub invariant-loop-r : goal.invariant-loop-r
invariant-loop-r l = Gathers l.rows l.values l.n l.r l.parameter × (length l.rows ≡ length l.initial.rows) × (length l.values ≡ length l.initial.values) × (l.n ≤ length l.rows)
