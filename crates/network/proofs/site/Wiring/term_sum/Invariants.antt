-- `network::site::Wiring::term_sum` meets its contract. The loop's invariant: the sum of the words passed, far from wrapping. Assumes nothing.
use mathlib.Core.Path.{◌≡◌}
use Prim.Native.Nat.{◌*◌, ◌-◌, ◌≤◌}
use Rattle.sequence.specs.Lists.{before}
use Rattle.network.specs.Layout.{row_terms}
use Rattle.network.proofs.site.Wiring.term_sum.Given as goal

abbrev pub invariant-loop-q : goal.invariant-loop-q
invariant-loop-q l = (l.q ≤ l.to) × (l.to ≡ l.self.counts.rows) × (l.sum ≡ before (row_terms l.self.counts l.self.words.now) l.q) × (l.sum ≤ l.q * 0x2_0000_0000)

abbrev pub decreases-loop-q : goal.decreases-loop-q
decreases-loop-q l = l.to - l.q
