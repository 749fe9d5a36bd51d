-- `sens_snap::sheet::put_generator_duals` meets its contract: a segment more each turn. Assumes nothing.
use Prim.Native.Nat.{◌+◌}
use Rattle.network.specs.Layout.{reading}
use Rattle.solution.specs.Sheet.{solved}
use Rattle.snapping.specs.Expr.{eval}
use Rattle.snapping.specs.Snap.{segment_dual}
use Rattle.sequence.proofs.Fronts.{Fronted}
use Rattle.sens_snap.proofs.sheet.put_generator_duals.Given as goal

abbrev pub invariant-loop-t : goal.invariant-loop-t
invariant-loop-t l = Fronted (λ t. eval (reading l.counted.point.grid.plan.counts l.counted.point.grid.plan.readings.now) (solved l.counted.point.grid.plan.counts l.counted.point.pieces l.counted.point.sheet.now) (segment_dual l.j l.g (l.start + t))) l.t l.initial.out l.out
