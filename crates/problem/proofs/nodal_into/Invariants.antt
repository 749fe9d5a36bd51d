-- `problem::nodal_into` meets its contract, bus by bus. Assumes nothing.
use Rattle.sequence.proofs.Fronts.{Fronted}
use Rattle.problem.proofs.Nodal.{nodal}
use Rattle.problem.proofs.nodal_into.Given as goal

abbrev pub invariant-loop-i : goal.invariant-loop-i
invariant-loop-i l = Fronted (nodal l.point.grid.plan.counts l.point.pieces l.point.grid.plan.readings.now l.point.sheet.now) l.i l.initial.out l.out
