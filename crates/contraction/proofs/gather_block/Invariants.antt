-- `contraction::gather_block` meets its contract: eight zeros are passed over at once, and other words are gathered one by one. Assumes nothing.
use mathlib.Core.Path.{◌≡◌}
use Prim.Native.Nat.{◌+◌, ◌≤◌}
use lib.ListN.{length}
use Rattle.contraction.specs.Contraction.{Gathers}
use Rattle.contraction.proofs.gather_block.Given as goal

abbrev pub invariant-loop-i : goal.invariant-loop-i
invariant-loop-i l = Gathers l.rows l.values l.k (l.r + l.i) l.parameter × (length l.rows ≡ length l.initial.rows) × (length l.values ≡ length l.initial.values) × (l.k ≤ l.n + l.i)
