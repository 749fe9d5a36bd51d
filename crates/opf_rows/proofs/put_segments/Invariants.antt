-- `opf_rows::put_segments` meets its contract: two entries more each turn. Assumes nothing.
use Prim.Native.Nat.{◌+◌, ◌*◌, ◌-◌, ◌≤◌}
use Rattle.sequence.specs.Lists.{each}
use Rattle.sequence.specs.Sinks.{Gains}
use Rattle.opf_program.specs.Walks.{written}
use Rattle.opf_rows.proofs.Rows.{segment_of}
use Rattle.opf_rows.proofs.put_segments.Given as goal

abbrev pub invariant-loop-t : goal.invariant-loop-t
invariant-loop-t l = Gains (written l.opf.layout l.opf.grid.plan.counts l.opf.grid.plan.readings.now (each l.t (segment_of l.j l.g l.start))) l.initial.sink l.sink × (l.sink.count ≤ l.initial.sink.count + 2 * l.t) × (l.t ≤ l.count)

abbrev pub decreases-loop-t : goal.decreases-loop-t
decreases-loop-t l = l.count - l.t
