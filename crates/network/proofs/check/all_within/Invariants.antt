-- `network::check::all_within` meets its contract. Assumes nothing.
use mathlib.Core.Path.{◌≡◌}
use Prim.Native.Nat.{◌-◌, ◌≤◌}
use Rattle.sequence.specs.Lists.{every}
use lib.ListN.{length, get_or}
use lib.Ieee.{nan}
use Rattle.float64.specs.Values.{within}
use Rattle.network.proofs.check.all_within.Given as goal

abbrev pub invariant-loop-i : goal.invariant-loop-i
invariant-loop-i l = (l.i ≤ length l.xs) × (l.i-end ≡ length l.xs) × (l.ok ≡ every (λ i. within l.limit (get_or l.xs i nan)) l.i)

abbrev pub decreases-loop-i : goal.decreases-loop-i
decreases-loop-i l = length l.xs - l.i
