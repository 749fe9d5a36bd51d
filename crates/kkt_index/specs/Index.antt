-- 01's `KktIdx`: the blocks of the matrix's rows and columns, in order, and where each starts.
-- Main definitions: `linear_row_count`, `block_start`, `dim`, `Indexed`, `start_in`. Assumes nothing.
use Rattle.std.specs.Prelude.{ℕ, ◌≤◌, ◌≡◌, List, [], ◌∷◌, map, Float}
use Rattle.sequence.specs.Layout.{total, start}
use Rattle.sequence.specs.Lists.{before}
use Rattle.network.specs.declared.Counts.{Counts}
use Rattle.model.specs.declared.RowLimits.{RowLimits}
use Rattle.model.specs.declared.RowLimits.TheVariants.{None, Upper, Lower, Both, Equal}
use Rattle.model.specs.Rows.{row_limits}
use Rattle.kkt_index.specs.declared.Block.{Block}
use Rattle.kkt_index.specs.declared.Block.TheVariants.{Va, Pg, Flow, Psh, Cost, LamLb, LamUb, GammaLb, GammaUb, RhoLb, RhoUb, MuLb, MuUb, Segments, Linear, NuBal, NuFlow, Eta}
use Rattle.kkt_index.specs.declared.KktIdx.{KktIdx}

-- which limits a row has, without their doubles: all that shapes the matrix
pub data Shape : Type 0 where
  free upper_only lower_only two_sided equality : Shape

abbrev pub shape_of : RowLimits → Shape
shape_of None = free
shape_of (Upper u) = upper_only
shape_of (Lower l) = lower_only
shape_of (Both u l) = two_sided
shape_of (Equal l) = equality

-- "linear rows (upper then lower, or one equality)"
abbrev pub width : Shape → ℕ
width free = 0
width upper_only = 1
width lower_only = 1
width two_sided = 2
width equality = 1

abbrev pub rows_of : RowLimits → ℕ
rows_of l = width (shape_of l)

abbrev pub rows_at : Counts → List ℕ → List Float → ℕ → ℕ
rows_at c w r q = rows_of (row_limits c w r q)

-- where linear row q starts in its block
unfoldable pub linear_start : Counts → List ℕ → List Float → ℕ → ℕ
linear_start c w r q = before (rows_at c w r) q

-- how many rows the block has
abbrev pub linear_row_count : Counts → List ℕ → List Float → ℕ
linear_row_count c w r = linear_start c w r c.rows

-- the blocks in order; p is the number of piecewise generators, l that of the linear block's rows
abbrev pub blocks : List Block
blocks =
    Va ∷ Pg ∷ Flow ∷ Psh ∷ Cost ∷ LamLb ∷ LamUb ∷ GammaLb ∷ GammaUb ∷ RhoLb ∷ RhoUb ∷ MuLb ∷ MuUb ∷ Segments ∷ Linear ∷ NuBal ∷ NuFlow ∷ Eta ∷ []

abbrev pub rank : Block → ℕ
rank Va = 0
rank Pg = 1
rank Flow = 2
rank Psh = 3
rank Cost = 4
rank LamLb = 5
rank LamUb = 6
rank GammaLb = 7
rank GammaUb = 8
rank RhoLb = 9
rank RhoUb = 10
rank MuLb = 11
rank MuUb = 12
rank Segments = 13
rank Linear = 14
rank NuBal = 15
rank NuFlow = 16
rank Eta = 17

abbrev pub size : Counts → ℕ → ℕ → Block → ℕ
size c p l Va = c.buses
size c p l Pg = c.generators
size c p l Flow = c.branches
size c p l Psh = c.buses
size c p l Cost = p
size c p l LamLb = c.branches
size c p l LamUb = c.branches
size c p l GammaLb = c.branches
size c p l GammaUb = c.branches
size c p l RhoLb = c.generators
size c p l RhoUb = c.generators
size c p l MuLb = c.buses
size c p l MuUb = c.buses
size c p l Segments = c.segments
size c p l Linear = l
size c p l NuBal = c.buses
size c p l NuFlow = c.branches
size c p l Eta = c.references

abbrev pub sizes : Counts → ℕ → ℕ → List ℕ
sizes c p l = map (size c p l) blocks

unfoldable pub block_start : Counts → ℕ → ℕ → Block → ℕ
block_start c p l b = start (sizes c p l) (rank b)

unfoldable pub dim : Counts → ℕ → ℕ → ℕ
dim c p l = total (sizes c p l)

-- a block's start, as the index holds it
abbrev pub start_in : KktIdx → Block → ℕ
start_in x Va = x.va
start_in x Pg = x.pg
start_in x Flow = x.flow
start_in x Psh = x.psh
start_in x Cost = x.cost
start_in x LamLb = x.lam_lb
start_in x LamUb = x.lam_ub
start_in x GammaLb = x.gamma_lb
start_in x GammaUb = x.gamma_ub
start_in x RhoLb = x.rho_lb
start_in x RhoUb = x.rho_ub
start_in x MuLb = x.mu_lb
start_in x MuUb = x.mu_ub
start_in x Segments = x.segments
start_in x Linear = x.linear
start_in x NuBal = x.nu_bal
start_in x NuFlow = x.nu_flow
start_in x Eta = x.eta

-- every start is far below 2^32
abbrev pub Narrow : KktIdx → Type 0
Narrow x = (b : Block) → start_in x b ≤ 0x1_0000

-- every start is its block's
pub record Indexed (c : Counts) (p l : ℕ) (x : KktIdx) : Type 0 where
  pub va_start : x.va ≡ block_start c p l Va
  pub pg_start : x.pg ≡ block_start c p l Pg
  pub flow_start : x.flow ≡ block_start c p l Flow
  pub psh_start : x.psh ≡ block_start c p l Psh
  pub cost_start : x.cost ≡ block_start c p l Cost
  pub lam_lb_start : x.lam_lb ≡ block_start c p l LamLb
  pub lam_ub_start : x.lam_ub ≡ block_start c p l LamUb
  pub gamma_lb_start : x.gamma_lb ≡ block_start c p l GammaLb
  pub gamma_ub_start : x.gamma_ub ≡ block_start c p l GammaUb
  pub rho_lb_start : x.rho_lb ≡ block_start c p l RhoLb
  pub rho_ub_start : x.rho_ub ≡ block_start c p l RhoUb
  pub mu_lb_start : x.mu_lb ≡ block_start c p l MuLb
  pub mu_ub_start : x.mu_ub ≡ block_start c p l MuUb
  pub segments_start : x.segments ≡ block_start c p l Segments
  pub linear_block_start : x.linear ≡ block_start c p l Linear
  pub nu_bal_start : x.nu_bal ≡ block_start c p l NuBal
  pub nu_flow_start : x.nu_flow ≡ block_start c p l NuFlow
  pub eta_start : x.eta ≡ block_start c p l Eta
  pub dim_is : x.dim ≡ dim c p l
  pub pieces_is : x.pieces ≡ p
  pub linear_rows_is : x.linear_rows ≡ l
