-- `parameter_column::switching_column` meets its contract: what its weight moves, then its angle limits. Assumes nothing.
use Rattle.network.specs.Layout.{reading}
use Rattle.parameter_column.specs.Columns.{valued}
use Rattle.parameter_column.proofs.Touching.{then}
use Rattle.parameter_column.proofs.switching_column.Goals as goal

pub returns : goal.returns
unfolding valued
returns c = let a = c.args in
    let g = a.point.now.grid.plan in
    let R = reading g.counts g.readings.now in
    λ ti tc q. then (rw (c.reading-b.ensures, c.reading-offset.ensures, c.gamma_across-g.ensures, c.across-dnu.ensures, c.angle-dth.ensures R, q) at c.weight_column.ensures) c.gamma_column.ensures
