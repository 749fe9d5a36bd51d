-- `network::site::Wiring::terms_hold` meets its contract. The loop's invariant: the row's first place, and that each row passed holds. Assumes nothing.
use mathlib.Core.Path.{◌≡◌}
use mathlib.Core.Bool.{true, ◌&&◌}
use Prim.Native.Nat.{◌-◌, ◌≤◌}
use Rattle.sequence.specs.Lists.{before, every}
use Rattle.network.specs.Layout.{row_terms}
use Rattle.network.specs.Numbers.{flow_terms_hold, generation_terms_hold}
use Rattle.network.proofs.site.Wiring.terms_hold.Given as goal

abbrev pub invariant-loop-q : goal.invariant-loop-q
invariant-loop-q l = (l.q ≤ l.to) × (l.to ≡ l.self.counts.rows) × (l.at ≡ before (row_terms l.self.counts l.self.words.now) l.q) × (every (λ q. flow_terms_hold l.self.counts l.self.words.now l.term_index q && generation_terms_hold l.self.counts l.self.words.now l.term_index q) l.q ≡ true)

abbrev pub decreases-loop-q : goal.decreases-loop-q
decreases-loop-q l = l.to - l.q
