-- `opf_layout::OpfLayout::dc` meets its contract: each start by addition. Assumes nothing.
use mathlib.Core.Path.{refl}
use native.Mathlib.Omega.{arith}
use Rattle.opf_layout.specs.Layout.{column_start, nvar, row_start, ncon, cones}
use Rattle.opf_layout.proofs.OpfLayout.dc.Goals as goal

pub returns : goal.returns
unfolding column_start nvar row_start ncon cones
returns c = record {
  va_start = omega arith;
  pg_start = omega arith;
  flow_start = omega arith;
  shed_start = omega arith;
  cost_start = omega arith;
  nvar_is = omega arith;
  balance_start = omega arith;
  flow_def_start = omega arith;
  reference_start = omega arith;
  line_ub_start = omega arith;
  line_lb_start = omega arith;
  gen_ub_start = omega arith;
  gen_lb_start = omega arith;
  shed_ub_start = omega arith;
  shed_lb_start = omega arith;
  phase_ub_start = omega arith;
  phase_lb_start = omega arith;
  segment_block_start = omega arith;
  linear_equal_start = omega arith;
  linear_limit_start = omega arith;
  ncon_is = omega arith;
  n_eq_is = omega arith;
  n_ineq_is = omega arith;
  active_is = refl;
}
