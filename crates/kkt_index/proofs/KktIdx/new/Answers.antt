-- `kkt_index::KktIdx::new` meets its contract: each start by addition. Assumes nothing.
use mathlib.Core.Path.{refl}
use native.Mathlib.Omega.{arith}
use Rattle.kkt_index.specs.Index.{block_start, dim}
use Rattle.kkt_index.proofs.KktIdx.new.Goals as goal

pub returns : goal.returns
unfolding block_start dim
returns c = record {
  va_start = omega arith;
  pg_start = omega arith;
  flow_start = omega arith;
  psh_start = omega arith;
  cost_start = omega arith;
  lam_lb_start = omega arith;
  lam_ub_start = omega arith;
  gamma_lb_start = omega arith;
  gamma_ub_start = omega arith;
  rho_lb_start = omega arith;
  rho_ub_start = omega arith;
  mu_lb_start = omega arith;
  mu_ub_start = omega arith;
  segments_start = omega arith;
  linear_block_start = omega arith;
  nu_bal_start = omega arith;
  nu_flow_start = omega arith;
  eta_start = omega arith;
  dim_is = omega arith;
  pieces_is = refl;
  linear_rows_is = refl;
}
