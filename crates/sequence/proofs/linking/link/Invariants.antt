-- `sequence::linking::link` meets its contract: the indices from i on are linked. Assumes nothing.
use Prim.Native.Nat.{ℕ}
use mathlib.Core.Path.{◌≡◌}
use lib.ListN.{length}
use Rattle.sequence.specs.Links.{Links}
use Rattle.sequence.specs.Given.{GivesBelow}
use Rattle.sequence.proofs.linking.link.Given as goal

abbrev pub invariant-loop-i : goal.invariant-loop-i
invariant-loop-i g l = ((f : ℕ → ℕ) → GivesBelow l.count (goal.K-post g l.key) f → Links f l.keys l.count l.i l.head l.next) × (length l.head ≡ length l.initial.head) × (length l.next ≡ length l.initial.next)
