-- `kkt_short::gamma_lb_column` meets its contract: its branch's ends and its slack. Assumes nothing.
use Rattle.network.specs.Layout.{reading}
use Rattle.kkt_short.proofs.gamma_lb_column.Goals as goal

pub returns : goal.returns
returns c = let a = c.args in
    rw (c.ends_column.ensures, c.reading.ensures, c.angle-across.ensures (reading a.kkt.now.grid.plan.counts a.kkt.now.grid.plan.readings.now), c.reading-sw.ensures)
