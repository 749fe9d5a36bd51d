-- `contraction::quiet` meets its contract. Assumes nothing.
use mathlib.Core.Path.{◌≡◌}
use mathlib.Core.Bool.{not}
use Prim.Native.Nat.{◌+◌}
use lib.ListN.{get_or}
use lib.Ieee.{nan, ne}
use Rattle.float64.specs.Values.{nought}
use Rattle.sequence.specs.Lists.{every}
use Rattle.contraction.proofs.quiet.Given as goal

abbrev pub invariant-loop-i : goal.invariant-loop-i
invariant-loop-i l = l.ok ≡ every (λ i. not (ne (get_or l.parameter (l.r + i) nan) nought)) l.i
