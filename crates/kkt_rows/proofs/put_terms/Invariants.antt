-- `kkt_rows::put_terms` meets its contract: a pair more each turn. Assumes nothing.
use Prim.Native.Nat.{◌+◌, ◌*◌, ◌-◌, ◌≤◌}
use Rattle.sequence.specs.Lists.{each}
use Rattle.sequence.specs.Sinks.{Gains}
use Rattle.kkt_rows.proofs.Pairs.{pair}
use Rattle.kkt_rows.proofs.put_terms.Given as goal

abbrev pub invariant-loop-t : goal.invariant-loop-t
invariant-loop-t l = Gains (each l.t (λ i. pair l.at.line.site.kkt.index l.at.line.site.term_index.now l.at.line.site.term_coefficient.now l.at.side l.at.dual l.at.row l.b (l.start + i))) l.initial.sink l.sink × (l.sink.count ≤ l.initial.sink.count + 2 * l.t) × (l.t ≤ l.count)

abbrev pub decreases-loop-t : goal.decreases-loop-t
decreases-loop-t l = l.count - l.t
