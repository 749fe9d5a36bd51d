-- `Jacobian::mark_column` meets its contract, parameter by parameter. Assumes nothing.
use lib.Ieee.{of_bits, of_int}
use Rattle.float64.specs.Values.{whole}
use Rattle.parameter_column.specs.Columns.{valued}
use Rattle.parameter_sheet.proofs.Filling.{known, moved_as}
use Rattle.parameter_sheet.proofs.Jacobian.mark_column.Goals as goal

pub returns-in-Demand : goal.returns-in-Demand
returns-in-Demand c = let s = c.args.self.now.site in rw c.in-Demand.is (c.demand_column.ensures s.term_index.now s.term_coefficient.now)

pub returns-in-CostQuadratic : goal.returns-in-CostQuadratic
returns-in-CostQuadratic c = let s = c.args.self.now.site in rw c.in-CostQuadratic.is (moved_as (c.quadratic_column.ensures s.point.grid.plan.wiring.now s.term_index.now s.term_coefficient.now s.point.grid.plan.readings.now) (rw (c.requires.same.0, c.requires.same.1, c.args.self.now.same_pieces)))

pub returns-in-CostLinear : goal.returns-in-CostLinear
unfolding valued whole of_int of_bits
returns-in-CostLinear c = rw c.in-CostLinear.is c.touch.ensures

pub returns-in-LineLimit : goal.returns-in-LineLimit
returns-in-LineLimit c = let s = c.args.self.now.site in rw c.in-LineLimit.is (moved_as (c.limit_column.ensures s.point.grid.plan.wiring.now s.term_index.now s.term_coefficient.now s.point.grid.plan.readings.now) (rw (c.requires.same.0, c.requires.same.1, c.args.self.now.same_pieces)))

pub returns-in-BranchSusceptance : goal.returns-in-BranchSusceptance
returns-in-BranchSusceptance c = let s = c.args.self.now.site in
    let h = known s.point.grid.plan.counts c.args.i c.in-BranchSusceptance.is c.requires.i_bound in
    rw c.in-BranchSusceptance.is (c.susceptance_column.ensures s.term_index.now s.term_coefficient.now (c.args.self.now.flows.at c.args.i h))

pub returns-in-Switching : goal.returns-in-Switching
returns-in-Switching c = let s = c.args.self.now.site in
    let h = known s.point.grid.plan.counts c.args.i c.in-Switching.is c.requires.i_bound in
    rw c.in-Switching.is (c.switching_column.ensures s.term_index.now s.term_coefficient.now (c.args.self.now.flows.at c.args.i h))

pub returns-in-ConstraintLimit : goal.returns-in-ConstraintLimit
returns-in-ConstraintLimit c = rw c.in-ConstraintLimit.is c.constraint_column.ensures
