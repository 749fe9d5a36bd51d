-- `kkt_short::short_column` meets its contract, block by block: the others have no short columns. Assumes nothing.
use Rattle.kkt.specs.Slots.{columns}
use Rattle.kkt_short.proofs.short_column.Goals as goal

pub returns-in-Flow : goal.returns-in-Flow
unfolding columns
returns-in-Flow c = λ s n w. rw c.in-Flow.is c.flow_column.ensures

pub returns-in-Psh : goal.returns-in-Psh
unfolding columns
returns-in-Psh c = λ s n w. rw (c.in-Psh.is, w) c.psh_column.ensures

pub returns-in-LamLb : goal.returns-in-LamLb
unfolding columns
returns-in-LamLb c = λ s n w. rw (c.in-LamLb.is, c.bound_column.ensures, c.value.ensures, c.reading.ensures)

pub returns-in-LamUb : goal.returns-in-LamUb
unfolding columns
returns-in-LamUb c = λ s n w. rw (c.in-LamUb.is, c.bound_column-in-LamUb.ensures, c.reading-in-LamUb.ensures, c.value-in-LamUb.ensures)

pub returns-in-GammaLb : goal.returns-in-GammaLb
unfolding columns
returns-in-GammaLb c = λ s n w. rw (c.in-GammaLb.is, n, w) c.gamma_lb_column.ensures

pub returns-in-GammaUb : goal.returns-in-GammaUb
unfolding columns
returns-in-GammaUb c = λ s n w. rw (c.in-GammaUb.is, n, w) c.gamma_ub_column.ensures

pub returns-in-RhoLb : goal.returns-in-RhoLb
unfolding columns
returns-in-RhoLb c = λ s n w. rw (c.in-RhoLb.is, c.bound_column-in-RhoLb.ensures, c.value-in-RhoLb.ensures, c.reading-in-RhoLb.ensures)

pub returns-in-RhoUb : goal.returns-in-RhoUb
unfolding columns
returns-in-RhoUb c = λ s n w. rw (c.in-RhoUb.is, c.bound_column-in-RhoUb.ensures, c.reading-in-RhoUb.ensures, c.value-in-RhoUb.ensures)

pub returns-in-MuLb : goal.returns-in-MuLb
unfolding columns
returns-in-MuLb c = λ s n w. rw (c.in-MuLb.is, w) c.mu_lb_column.ensures

pub returns-in-MuUb : goal.returns-in-MuUb
unfolding columns
returns-in-MuUb c = λ s n w. rw (c.in-MuUb.is, w) c.mu_ub_column.ensures

pub returns-in-NuFlow : goal.returns-in-NuFlow
unfolding columns
returns-in-NuFlow c = λ s n w. rw (c.in-NuFlow.is, n, w) c.nu_flow_column.ensures

pub returns-in-Eta : goal.returns-in-Eta
unfolding columns
returns-in-Eta c = λ s n w. rw (c.in-Eta.is, n, w) c.eta_column.ensures
