-- The laws that the counting walks and the layout need: one more passed, the most of each, and a placed layout is narrow.
-- Main results: `from_few`, `rank_more`, `equalities_few`, `inequalities_few`, `columns_of`, `rows_of`, `nvar_few`, `ncon_few`, `narrow`. Assumes nothing.
use mathlib.Core.Path.{◌≡◌, refl}
use mathlib.Core.Bool.{Bool, true, false, cond}
use Prim.Native.Nat.{ℕ, ◌+◌, ◌≤◌}
use native.Mathlib.Omega.{arith}
use Rattle.std.specs.Int.{from_bool}
use Rattle.sequence.proofs.Lists.{before_none, before_more}
use Rattle.sequence.proofs.Blocks.{inside}
use Rattle.network.specs.declared.Counts.{Counts}
use Rattle.model.specs.declared.RowLimits.{RowLimits}
use Rattle.model.specs.declared.RowLimits.TheVariants.{None, Upper, Lower, Both, Equal}
use Rattle.opf_layout.specs.declared.Active.{Active}
use Rattle.opf_layout.specs.declared.OpfColumn.{OpfColumn}
use Rattle.opf_layout.specs.declared.OpfColumn.TheVariants.{Va, Pg, Flow, Shed, Cost}
use Rattle.opf_layout.specs.declared.OpfRow.{OpfRow}
use Rattle.opf_layout.specs.declared.OpfRow.TheVariants.{Balance, FlowRow, Reference, LineUb, LineLb, GenUb, GenLb, ShedUb, ShedLb, PhaseUb, PhaseLb, Segment, LinearEqual, LinearLimit}
use Rattle.opf_layout.specs.declared.OpfLayout.{OpfLayout}
use Rattle.opf_layout.specs.Layout.{active_rank, equalities, inequalities, Bounded, column_rank, column_sizes, column_start, nvar, row_rank, row_sizes, row_start, ncon, column_in, row_in, Narrow, Placed}

pub rank_none : (on : ℕ → Bool) → 0 ≡ active_rank on 0
unfolding active_rank
rank_none on = before_none _

-- a test as a count: 1 where it holds, 0 where it doesn't
from_cond : (b : Bool) → from_bool b ≡ cond b 1 0
from_cond true = refl
from_cond false = refl

pub from_few : (b : Bool) {n : ℕ} → n ≡ from_bool b → n ≤ 1
from_few true e = omega arith
from_few false e = omega arith

-- one more passed, counted where it is active
pub rank_more : (on : ℕ → Bool) (i : ℕ) {b : Bool} {count one : ℕ} → count ≡ active_rank on i → one ≡ from_bool b → b ≡ on i → count + one ≡ active_rank on (i + 1)
unfolding active_rank
rank_more on i e q h = rw (before_more, ← e, q, h, from_cond)

pub equalities_few : (l : RowLimits) → equalities l ≤ 1
equalities_few None = omega arith
equalities_few (Upper u) = omega arith
equalities_few (Lower l) = omega arith
equalities_few (Both u l) = omega arith
equalities_few (Equal l) = omega arith

pub inequalities_few : (l : RowLimits) → inequalities l ≤ 2
inequalities_few None = omega arith
inequalities_few (Upper u) = omega arith
inequalities_few (Lower l) = omega arith
inequalities_few (Both u l) = omega arith
inequalities_few (Equal l) = omega arith

-- a block's start, as the struct holds it, is the block's
pub columns_of : (c : Counts) (a : Active) (x : OpfLayout) → Placed c a x → (b : OpfColumn) → column_in x b ≡ column_start c a b
columns_of c a x p Va = p.va_start
columns_of c a x p Pg = p.pg_start
columns_of c a x p Flow = p.flow_start
columns_of c a x p Shed = p.shed_start
columns_of c a x p Cost = p.cost_start

pub rows_of : (c : Counts) (a : Active) (x : OpfLayout) → Placed c a x → (b : OpfRow) → row_in x b ≡ row_start c a b
rows_of c a x p Balance = p.balance_start
rows_of c a x p FlowRow = p.flow_def_start
rows_of c a x p Reference = p.reference_start
rows_of c a x p LineUb = p.line_ub_start
rows_of c a x p LineLb = p.line_lb_start
rows_of c a x p GenUb = p.gen_ub_start
rows_of c a x p GenLb = p.gen_lb_start
rows_of c a x p ShedUb = p.shed_ub_start
rows_of c a x p ShedLb = p.shed_lb_start
rows_of c a x p PhaseUb = p.phase_ub_start
rows_of c a x p PhaseLb = p.phase_lb_start
rows_of c a x p Segment = p.segment_block_start
rows_of c a x p LinearEqual = p.linear_equal_start
rows_of c a x p LinearLimit = p.linear_limit_start

-- no program has more columns or rows
pub nvar_few : (c : Counts) (a : Active) → Bounded c a → nvar c a ≤ 1536
unfolding nvar
nvar_few c a h = omega (arith, h, h.few)

pub ncon_few : (c : Counts) (a : Active) → Bounded c a → ncon c a ≤ 5072
unfolding ncon
ncon_few c a h = omega (arith, h, h.few)

-- a block starts no later than the program ends
pub columns_few : (c : Counts) (a : Active) (b : OpfColumn) → column_start c a b ≤ nvar c a
unfolding column_start nvar
columns_few c a b = omega (arith, inside (column_sizes c a) (column_rank b))

pub rows_few : (c : Counts) (a : Active) (b : OpfRow) → row_start c a b ≤ ncon c a
unfolding row_start ncon
rows_few c a b = omega (arith, inside (row_sizes c a) (row_rank b))

pub narrow : (c : Counts) (a : Active) (x : OpfLayout) → Bounded c a → Placed c a x → Narrow x
narrow c a x h p =
    record {
      columns_narrow = λ b. omega (arith, columns_of c a x p b, columns_few c a b, nvar_few c a h);
      rows_narrow = λ b. omega (arith, rows_of c a x p b, rows_few c a b, ncon_few c a h);
    }
