-- `selector_check::counts_sum` meets its contract. The loop's invariant: what is left, with the counts passed, is n. Assumes nothing.
use mathlib.Core.Path.{◌≡◌}
use Prim.Native.Nat.{◌+◌}
use lib.ListN.{get_or}
use Rattle.sequence.specs.Lists.{before}
use Rattle.selector_check.proofs.counts_sum.Given as goal

abbrev pub invariant-loop-count : goal.invariant-loop-count
invariant-loop-count l = before (λ i. get_or l.counts i 0) l.count-index + l.left ≡ l.n
