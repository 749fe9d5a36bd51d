-- `kkt_short::mu_ub_column` meets its contract: the bus is fixed or not. Assumes nothing.
use Rattle.solution.specs.Sheet.{solved}
use Rattle.model.specs.Quantities.{shed_cap}
use Rattle.kkt_short.proofs.mu_ub_column.Goals as goal

pub returns : goal.returns
unfolding shed_cap
returns c = let a = c.args in
    rw (c.bound_column.ensures, c.if_fixed.ensures, c.shed_of.ensures, c.shed_cap_at.ensures, c.is_fixed_zero_shed-fixed.ensures (solved a.kkt.now.grid.plan.counts a.kkt.now.index.pieces a.kkt.now.sheet.now))
