-- `capi_sensitivity::copy` meets its contract: the words of the part so far stand in front. Assumes nothing.
use Prim.Native.Nat.{◌≤◌}
use lib.ListN.{length, get_or}
use lib.Ieee.{nan}
use Rattle.sequence.proofs.Fronts.{Fronted}
use Rattle.capi_sensitivity.proofs.copy.Given as goal

abbrev pub invariant-loop-i : goal.invariant-loop-i
invariant-loop-i l = Fronted (λ k. get_or l.part k nan) l.i l.fn.sheet l.sheet × (l.i ≤ length l.part)
