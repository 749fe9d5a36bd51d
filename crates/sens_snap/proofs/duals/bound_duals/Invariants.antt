-- `sens_snap::duals::bound_duals` meets its contract, branch by branch. Assumes nothing.
use lib.Ieee.{binary64, sub}
use Rattle.sequence.proofs.Fronts.{Fronted}
use Rattle.solution.specs.declared.Entry.TheVariants.{LamUb, LamLb}
use Rattle.solution.specs.Sheet.{solved}
use Rattle.sens_snap.proofs.duals.bound_duals.Given as goal

abbrev pub invariant-loop-e : goal.invariant-loop-e
invariant-loop-e l = Fronted (λ e. sub binary64 (solved l.point.grid.plan.counts l.point.pieces l.point.sheet.now LamUb e) (solved l.point.grid.plan.counts l.point.pieces l.point.sheet.now LamLb e)) l.e l.initial.out l.out
