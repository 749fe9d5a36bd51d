-- `network::site::Wiring::segment_sum` meets its contract. The loop's invariant: the sum of the words passed, far from wrapping. Assumes nothing.
use mathlib.Core.Path.{◌≡◌}
use Prim.Native.Nat.{◌*◌, ◌-◌, ◌≤◌}
use Rattle.sequence.specs.Lists.{before}
use Rattle.network.specs.Layout.{segments_at}
use Rattle.network.proofs.site.Wiring.segment_sum.Given as goal

abbrev pub invariant-loop-j : goal.invariant-loop-j
invariant-loop-j l = (l.j ≤ l.to) × (l.to ≡ l.self.counts.generators) × (l.sum ≡ before (segments_at l.self.counts l.self.words.now) l.j) × (l.sum ≤ l.j * 0x2_0000_0000)

abbrev pub decreases-loop-j : goal.decreases-loop-j
decreases-loop-j l = l.to - l.j
