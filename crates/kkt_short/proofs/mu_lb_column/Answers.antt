-- `kkt_short::mu_lb_column` meets its contract: the bus is fixed or not. Assumes nothing.
use Rattle.solution.specs.Sheet.{solved}
use Rattle.kkt_short.proofs.mu_lb_column.Goals as goal

pub returns : goal.returns
returns c = let a = c.args in
    rw (c.bound_column.ensures, c.if_fixed.ensures, c.shed_of-shed.ensures, c.is_fixed_zero_shed-fixed.ensures (solved a.kkt.now.grid.plan.counts a.kkt.now.index.pieces a.kkt.now.sheet.now))
