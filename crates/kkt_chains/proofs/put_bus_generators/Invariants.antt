-- `kkt_chains::put_bus_generators` meets its contract: the generators below j, where they are at the bus. Assumes nothing.
use Prim.Native.Nat.{◌+◌, ◌-◌, ◌≤◌, ◌<◌}
use mathlib.Core.Path.{◌≡◌}
use mathlib.Core.List.{[], ◌∷◌}
use Rattle.sequence.specs.Sinks.{Gains}
use Rattle.sequence.proofs.Links.{scan}
use Rattle.network.specs.declared.Part.TheVariants.{GenBus}
use Rattle.network.specs.Layout.{reading, wire}
use Rattle.solution.specs.Sheet.{solved}
use Rattle.kkt_index.specs.declared.Block.TheVariants.{NuBal, Pg}
use Rattle.kkt_index.specs.Index.{start_in}
use Rattle.snapping.specs.Expr.{less_unit}
use Rattle.kkt.specs.Slots.{slot}
use Rattle.kkt.specs.Matrix.{emitted}
use Rattle.kkt_chains.proofs.put_bus_generators.Given as goal

abbrev pub invariant-loop-j : goal.invariant-loop-j
invariant-loop-j l = Gains (scan (wire l.kkt.grid.plan.counts l.kkt.grid.plan.wiring.now GenBus) l.i (λ y. emitted (start_in l.kkt.index) (reading l.kkt.grid.plan.counts l.kkt.grid.plan.readings.now) (solved l.kkt.grid.plan.counts l.kkt.index.pieces l.kkt.sheet.now) (slot (Pg, y) (NuBal, l.i) less_unit ∷ [])) l.j) l.initial.sink l.sink
    × (l.sink.count ≤ l.initial.sink.count + l.j) × (l.j ≤ l.kkt.grid.plan.counts.generators) × (l.j < l.kkt.grid.plan.counts.generators → wire l.kkt.grid.plan.counts l.kkt.grid.plan.wiring.now GenBus l.j ≡ l.i)

abbrev pub decreases-loop-j : goal.decreases-loop-j
decreases-loop-j l = l.kkt.grid.plan.counts.generators - l.j
