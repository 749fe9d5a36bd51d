-- `kkt_short::put_short` meets its contract: a column more each turn. Assumes nothing.
use mathlib.Core.Path.{◌≡◌}
use Prim.Native.Nat.{◌+◌, ◌*◌, ◌-◌, ◌≤◌}
use Rattle.sequence.specs.Lists.{each}
use Rattle.sequence.specs.Sinks.{Gains}
use Rattle.kkt.specs.Slots.{Site, columns}
use Rattle.kkt.specs.Walks.{emitted_at}
use Rattle.kkt_short.proofs.put_short.Given as goal

abbrev pub invariant-loop-i : goal.invariant-loop-i
invariant-loop-i l = ((s : Site) → s.counts ≡ l.kkt.grid.plan.counts → s.wiring ≡ l.kkt.grid.plan.wiring.now → Gains (emitted_at l.kkt (each l.i (columns s l.b))) l.initial.sink l.sink)
    × (l.sink.count ≤ l.initial.sink.count + 3 * l.i)
    × (l.i ≤ l.to)

abbrev pub decreases-loop-i : goal.decreases-loop-i
decreases-loop-i l = l.to - l.i
