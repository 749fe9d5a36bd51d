-- `parameter_column::demand_column` meets its contract. Assumes nothing.
use Rattle.solution.specs.Sheet.{solved}
use lib.Ieee.{of_bits, of_int}
use Rattle.float64.specs.Values.{whole}
use Rattle.parameter_column.specs.Columns.{valued}
use Rattle.parameter_column.proofs.Touching.{then}
use Rattle.parameter_column.proofs.demand_column.Goals as goal

pub returns : goal.returns
unfolding valued whole of_int of_bits
returns c = let a = c.args in λ ti tc. then c.touch.ensures (rw (c.mu_ub_of.ensures, c.cap_rate.ensures (solved a.point.now.grid.plan.counts a.point.now.pieces a.point.now.sheet.now)) at c.touch-2.ensures)
