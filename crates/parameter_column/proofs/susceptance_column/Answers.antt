-- `parameter_column::susceptance_column` meets its contract: what its weight moves. Assumes nothing.
use Rattle.network.specs.Layout.{reading}
use Rattle.parameter_column.specs.Columns.{valued}
use Rattle.parameter_column.proofs.susceptance_column.Goals as goal

pub returns : goal.returns
unfolding valued
returns c = let a = c.args in
    let g = a.point.now.grid.plan in
    let R = reading g.counts g.readings.now in
    λ ti tc q. rw (c.reading-sw.ensures, c.reading-shift.ensures, c.across-dnu.ensures, c.angle-dth.ensures R, q) at c.weight_column.ensures
