-- `opf_rows::put_terms` meets its contract: an entry more each turn. Assumes nothing.
use Prim.Native.Nat.{◌+◌, ◌-◌, ◌≤◌}
use Rattle.sequence.specs.Sinks.{Gains}
use Rattle.opf_rows.specs.Terms.{term_items}
use Rattle.opf_rows.proofs.put_terms.Given as goal

abbrev pub invariant-loop-t : goal.invariant-loop-t
invariant-loop-t l = Gains (term_items l.site.opf.layout l.site.term_index.now l.site.term_coefficient.now l.b l.at l.sign l.col l.start l.t) l.initial.sink l.sink × (l.sink.count ≤ l.initial.sink.count + l.t) × (l.t ≤ l.count)

abbrev pub decreases-loop-t : goal.decreases-loop-t
decreases-loop-t l = l.count - l.t
