-- `network::site::Wiring::part_holds` meets its contract. The loop's invariant: each word passed is below the limit. Assumes nothing.
use mathlib.Core.Path.{◌≡◌}
use mathlib.Core.Bool.{true}
use Prim.Native.Nat.{◌-◌, ◌≤◌}
use lib.Dec.{ltb}
use Rattle.sequence.specs.Lists.{every}
use Rattle.network.specs.Layout.{wire, part_size}
use Rattle.network.specs.Numbers.{part_limit}
use Rattle.network.proofs.site.Wiring.part_holds.Given as goal

abbrev pub invariant-loop-i : goal.invariant-loop-i
invariant-loop-i l = (l.i ≤ l.to) × (l.to ≡ part_size l.self.counts l.p) × (l.limit ≡ part_limit l.self.counts l.p) × (every (λ i. ltb (wire l.self.counts l.self.words.now l.p i) (part_limit l.self.counts l.p)) l.i ≡ true)

abbrev pub decreases-loop-i : goal.decreases-loop-i
decreases-loop-i l = l.to - l.i
