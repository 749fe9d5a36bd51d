-- `solution::piece_count` meets its contract. The loop's invariant: the piecewise generators passed. Assumes nothing.
use mathlib.Core.Path.{◌≡◌}
use Prim.Native.Nat.{◌-◌, ◌≤◌}
use Rattle.sequence.specs.Lists.{before}
use Rattle.solution.specs.Sheet.{piece}
use Rattle.solution.proofs.piece_count.Given as goal

abbrev pub invariant-loop-j : goal.invariant-loop-j
invariant-loop-j l = (l.j ≤ l.to) × (l.to ≡ l.c.generators) × (l.count ≡ before (piece l.c l.wiring) l.j) × (l.count ≤ l.j)

abbrev pub decreases-loop-j : goal.decreases-loop-j
decreases-loop-j l = l.to - l.j
