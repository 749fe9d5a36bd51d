-- `parameter_column::gamma_column` meets its contract: two touches. Assumes nothing.
use Rattle.network.specs.Layout.{reading}
use Rattle.parameter_column.specs.Columns.{valued}
use Rattle.parameter_column.proofs.Touching.{then}
use Rattle.parameter_column.proofs.gamma_column.Goals as goal

pub returns : goal.returns
unfolding valued
returns c = let a = c.args in
    let g = a.point.now.grid.plan in
    let R = reading g.counts g.readings.now in
    then (rw (c.gamma_lb_of.ensures, c.reading.ensures, c.angle-dth.ensures R) at c.touch.ensures) (rw (c.gamma_ub_of.ensures, c.reading-2.ensures, c.angle-dth.ensures R) at c.touch-2.ensures)
