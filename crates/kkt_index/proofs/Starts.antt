-- Where the blocks start, by the index: each start is its block's and far below 2^32, and a block ends within the system.
-- Main results: `few_rows`, `narrow`, `starts`, `below_dim`. Assumes nothing.
use mathlib.Core.Path.{◌≡◌}
use mathlib.Core.List.{List}
use Prim.Native.Nat.{ℕ, ◌+◌, ◌*◌, ◌≤◌, ◌<◌}
use native.Mathlib.Omega.{arith}
use lib.Ieee.{Float}
use Rattle.sequence.proofs.Lists.{before_bound}
use Rattle.sequence.proofs.Blocks.{inside}
use Rattle.network.specs.declared.Counts.{Counts}
use Rattle.network.specs.Layout.{Few}
use Rattle.model.specs.Rows.{row_limits}
use Rattle.kkt_index.specs.declared.Block.{Block}
use Rattle.kkt_index.specs.declared.Block.TheVariants.{Va, Pg, Flow, Psh, Cost, LamLb, LamUb, GammaLb, GammaUb, RhoLb, RhoUb, MuLb, MuUb, Segments, Linear, NuBal, NuFlow, Eta}
use Rattle.kkt_index.specs.declared.KktIdx.{KktIdx}
use Rattle.kkt_index.specs.Index.{rows_at, linear_start, linear_row_count, rank, size, sizes, block_start, dim, start_in, Narrow, Indexed}
use Rattle.kkt_index.proofs.Blocks.{rows_few, block_size}

pub few_rows : (c : Counts) (w : List ℕ) (r : List Float) → linear_row_count c w r ≤ 2 * c.rows
unfolding linear_start
few_rows c w r = omega (arith, before_bound (rows_at c w r) 2 c.rows (λ q h. rows_few (row_limits c w r q)))

module _ {c : Counts} {p l : ℕ} {x : KktIdx} (i : Indexed c p l x) where
  pub narrow : Few c → p ≤ c.generators → l ≤ 2 * c.rows → Narrow x
  unfolding block_start
  narrow few h g Va = omega (arith, i.va_start, few, h, g)
  narrow few h g Pg = omega (arith, i.pg_start, few, h, g)
  narrow few h g Flow = omega (arith, i.flow_start, few, h, g)
  narrow few h g Psh = omega (arith, i.psh_start, few, h, g)
  narrow few h g Cost = omega (arith, i.cost_start, few, h, g)
  narrow few h g LamLb = omega (arith, i.lam_lb_start, few, h, g)
  narrow few h g LamUb = omega (arith, i.lam_ub_start, few, h, g)
  narrow few h g GammaLb = omega (arith, i.gamma_lb_start, few, h, g)
  narrow few h g GammaUb = omega (arith, i.gamma_ub_start, few, h, g)
  narrow few h g RhoLb = omega (arith, i.rho_lb_start, few, h, g)
  narrow few h g RhoUb = omega (arith, i.rho_ub_start, few, h, g)
  narrow few h g MuLb = omega (arith, i.mu_lb_start, few, h, g)
  narrow few h g MuUb = omega (arith, i.mu_ub_start, few, h, g)
  narrow few h g Segments = omega (arith, i.segments_start, few, h, g)
  narrow few h g Linear = omega (arith, i.linear_block_start, few, h, g)
  narrow few h g NuBal = omega (arith, i.nu_bal_start, few, h, g)
  narrow few h g NuFlow = omega (arith, i.nu_flow_start, few, h, g)
  narrow few h g Eta = omega (arith, i.eta_start, few, h, g)

  pub starts : (b : Block) → start_in x b ≡ block_start c p l b
  starts Va = i.va_start
  starts Pg = i.pg_start
  starts Flow = i.flow_start
  starts Psh = i.psh_start
  starts Cost = i.cost_start
  starts LamLb = i.lam_lb_start
  starts LamUb = i.lam_ub_start
  starts GammaLb = i.gamma_lb_start
  starts GammaUb = i.gamma_ub_start
  starts RhoLb = i.rho_lb_start
  starts RhoUb = i.rho_ub_start
  starts MuLb = i.mu_lb_start
  starts MuUb = i.mu_ub_start
  starts Segments = i.segments_start
  starts Linear = i.linear_block_start
  starts NuBal = i.nu_bal_start
  starts NuFlow = i.nu_flow_start
  starts Eta = i.eta_start

  -- a row of a block is one of the system's
  pub below_dim : (b : Block) (k : ℕ) → k < size c p l b → start_in x b + k < dim c p l
  unfolding block_start dim
  below_dim b k h = omega (arith, starts b, inside (sizes c p l) (rank b), block_size c p l b)
