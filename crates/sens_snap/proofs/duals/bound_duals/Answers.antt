-- `sens_snap::duals::bound_duals` meets its contract, branch by branch. Assumes nothing.
use mathlib.Core.Path.{◌≡◌}
use native.Mathlib.Omega.{arith}
use Rattle.sequence.proofs.Fronts.{none, more}
use Rattle.sens_snap.proofs.Stores.{all_made}
use Rattle.sens_snap.proofs.duals.bound_duals.Goals as goal

pub loop-e-init : goal.loop-e-init
loop-e-init c = none _ _

pub loop-e-preserved : goal.loop-e-preserved
loop-e-preserved c = more _ c.loop-e-test.true c.loop-e.invariant (rw (c.value-in-loop-e.ensures, c.value.ensures))

pub returns : goal.returns
returns c = let l = c.loop-e in
    let e : l.e ≡ c.args.point.now.grid.plan.counts.branches = omega arith in
    all_made (rw e at l.invariant) c.requires
