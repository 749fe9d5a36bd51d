-- `kkt_cells::put_kept` meets its contract: a kept sum more each turn, and all of them are the column's entries. Assumes nothing.
use Prim.Native.Nat.{◌+◌, ◌-◌, ◌≤◌}
use lib.ListN.{length}
use Rattle.sequence.specs.Lists.{each}
use Rattle.sequence.specs.Sinks.{Gains}
use Rattle.kkt_cells.proofs.Cells.{replay}
use Rattle.kkt_cells.proofs.put_kept.Given as goal

abbrev pub invariant-loop-t : goal.invariant-loop-t
invariant-loop-t l = Gains (each (l.t - l.first) (replay l.less l.from l.col l.sums.buses.now l.sums.values.now l.first)) l.initial.sink l.sink
    × (l.sink.count ≤ l.initial.sink.count + (l.t - l.first))
    × (l.first ≤ l.t)
    × (l.t ≤ l.to)
    × (l.to ≤ 1280)
    × (l.to ≤ length l.sums.buses.now)
    × (l.to ≤ length l.sums.values.now)

abbrev pub decreases-loop-t : goal.decreases-loop-t
decreases-loop-t l = l.to - l.t
