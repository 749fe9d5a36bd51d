-- `kkt_chains::put_ends` meets its contract: the ends below the chain's next, where they are at the bus. Assumes nothing.
use Prim.Native.Nat.{◌+◌, ◌-◌, ◌*◌, ◌≤◌, ◌<◌}
use mathlib.Core.Path.{◌≡◌}
use Rattle.sequence.specs.Sinks.{Gains}
use Rattle.sequence.proofs.Links.{scan}
use Rattle.network.specs.Layout.{reading}
use Rattle.susceptance.specs.Incidence.{end_at}
use Rattle.solution.specs.Sheet.{solved}
use Rattle.kkt_index.specs.Index.{start_in}
use Rattle.kkt.specs.Matrix.{emitted}
use Rattle.kkt_chains.proofs.Ends.{at_end}
use Rattle.kkt_chains.proofs.put_ends.Given as goal

abbrev pub invariant-loop-end : goal.invariant-loop-end
invariant-loop-end l = Gains (scan (end_at l.kkt.grid.plan.counts l.kkt.grid.plan.wiring.now) l.j (λ y. emitted (start_in l.kkt.index) (reading l.kkt.grid.plan.counts l.kkt.grid.plan.readings.now) (solved l.kkt.grid.plan.counts l.kkt.index.pieces l.kkt.sheet.now) (at_end l.kkt.grid.plan.counts l.kkt.grid.plan.wiring.now l.j y)) l.end) l.initial.sink l.sink
    × (l.sink.count ≤ l.initial.sink.count + 3 * l.end) × (l.end ≤ 2 * l.kkt.grid.plan.counts.branches) × (l.end < 2 * l.kkt.grid.plan.counts.branches → end_at l.kkt.grid.plan.counts l.kkt.grid.plan.wiring.now l.end ≡ l.j)

abbrev pub decreases-loop-end : goal.decreases-loop-end
decreases-loop-end l = 2 * l.kkt.grid.plan.counts.branches - l.end
