-- `network::check::indexes_below` meets its contract. The loop's invariant: each index passed is below the limit. Assumes nothing.
use mathlib.Core.Path.{◌≡◌}
use mathlib.Core.Bool.{true}
use Prim.Native.Nat.{◌+◌, ◌-◌, ◌≤◌}
use lib.Dec.{ltb}
use lib.ListN.{get_or}
use Rattle.sequence.specs.Lists.{every}
use Rattle.network.proofs.check.indexes_below.Given as goal

abbrev pub invariant-loop-t : goal.invariant-loop-t
invariant-loop-t l = (l.t ≤ l.count) × (every (λ t. ltb (get_or l.term_index (l.at + t) 0) l.limit) l.t ≡ true)

abbrev pub decreases-loop-t : goal.decreases-loop-t
decreases-loop-t l = l.count - l.t
