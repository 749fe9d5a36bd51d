-- `sens_snap::sheet::put_words` meets its contract: a word more each turn. Assumes nothing.
use Rattle.network.specs.Layout.{reading}
use Rattle.solution.specs.Sheet.{solved}
use Rattle.snapping.specs.Expr.{eval}
use Rattle.snapping.specs.Snap.{snapped_at}
use Rattle.sequence.proofs.Fronts.{Fronted}
use Rattle.sens_snap.proofs.sheet.put_words.Given as goal

abbrev pub invariant-loop-i : goal.invariant-loop-i
invariant-loop-i l = Fronted (λ i. eval (reading l.point.grid.plan.counts l.point.grid.plan.readings.now) (solved l.point.grid.plan.counts l.point.pieces l.point.sheet.now) (snapped_at l.point.grid.plan.counts l.point.grid.plan.wiring.now l.e i)) l.i l.initial.out l.out
