-- The columns of the program lie in blocks one after the other, and so do its rows: each below its count lies in exactly one. The cones take the rows in order.
-- Main results: `column_of_lem`, `columns_apart`, `row_of`, `rows_apart`, `limits_start`, `cones_all`, `cone_of`, `cones_apart`. Assumes nothing.
use mathlib.Core.Path.{◌≡◌, refl, sym, ap, ◌∙◌, subst}
use mathlib.Core.Bool.{Bool, true, false, cond}
use mathlib.Core.List.{List, [], ◌∷◌}
use Prim.Native.Nat.{ℕ, ◌+◌, ◌≤◌, ◌<◌}
use native.Mathlib.Omega.{arith}
use lib.Dec.{T, eqb, eqb→eq}
use lib.ListN.{length, get_or}
use Rattle.sequence.specs.Lists.{every}
use Rattle.sequence.proofs.Lists.{every_at}
use Rattle.sequence.specs.Layout.{total, start}
use Rattle.sequence.proofs.Blocks.{one_place, in_block, inside}
use Rattle.network.specs.declared.Counts.{Counts}
use Rattle.opf_layout.specs.declared.Active.{Active}
use Rattle.opf_layout.specs.declared.OpfColumn.{OpfColumn}
use Rattle.opf_layout.specs.declared.OpfColumn.TheVariants.{Va, Pg, Flow, Shed, Cost}
use Rattle.opf_layout.specs.declared.OpfRow.{OpfRow}
use Rattle.opf_layout.specs.declared.OpfRow.TheVariants.{Balance, FlowRow, Reference, LineUb, LineLb, GenUb, GenLb, ShedUb, ShedLb, PhaseUb, PhaseLb, Segment, LinearEqual, LinearLimit}
use Rattle.opf_layout.specs.Layout.{columns, column_rank, column_size, column_sizes, column_start, nvar, rows, row_rank, row_size, row_sizes, row_start, ncon, also_if, cones}

-- ---- the columns

column_size_lem : (c : Counts) (a : Active) (b : OpfColumn) → get_or (column_sizes c a) (column_rank b) 0 ≡ column_size c a b
column_size_lem c a Va = refl
column_size_lem c a Pg = refl
column_size_lem c a Flow = refl
column_size_lem c a Shed = refl
column_size_lem c a Cost = refl

pub column_of_rank : (b : OpfColumn) → get_or columns (column_rank b) Va ≡ b
column_of_rank Va = refl
column_of_rank Pg = refl
column_of_rank Flow = refl
column_of_rank Shed = refl
column_of_rank Cost = refl

pub column_rank_below : (b : OpfColumn) → column_rank b < 5
column_rank_below Va = omega arith
column_rank_below Pg = omega arith
column_rank_below Flow = omega arith
column_rank_below Shed = omega arith
column_rank_below Cost = omega arith

-- a block of columns ends within them
pub column_within : (c : Counts) (a : Active) (b : OpfColumn) → column_start c a b + column_size c a b ≤ nvar c a
unfolding column_start nvar
column_within c a b = omega (arith, inside (column_sizes c a) (column_rank b), column_size_lem c a b)

-- two places that are one column are of one block, at one index
pub columns_apart : (c : Counts) (a : Active) (b d : OpfColumn) (i j : ℕ) → i < column_size c a b → j < column_size c a d → column_start c a b + i ≡ column_start c a d + j → (b ≡ d) × (i ≡ j)
unfolding column_start
columns_apart c a b d i j hi hj q =
    let h = one_place (column_sizes c a) (column_rank b) (column_rank d) i j (omega (arith, column_size_lem c a b)) (omega (arith, column_size_lem c a d)) q in
    (sym (column_of_rank b) ∙ ap (λ (k : ℕ). get_or columns k Va) h.0 ∙ column_of_rank d, h.1)

five : every (λ k. eqb (column_rank (get_or columns k Va)) k) 5 ≡ true
unfolding every
five = refl

-- the block of a rank has that rank
column_rank_of : (k : ℕ) → k < 5 → column_rank (get_or columns k Va) ≡ k
column_rank_of k h = eqb→eq (column_rank (get_or columns k Va)) k (subst T (sym (every_at (λ k. eqb (column_rank (get_or columns k Va)) k) 5 five k h)) tt)

-- column i of the program: of this block, at this place; `columns_apart` says that of no other
pub record ColumnPlace (c : Counts) (a : Active) (i : ℕ) : Type 0 where
  pub block : OpfColumn
  pub at : ℕ
  pub below : at < column_size c a block
  pub is : i ≡ column_start c a block + at

pub column_of_lem : (c : Counts) (a : Active) (i : ℕ) → i < nvar c a → ColumnPlace c a i
unfolding nvar column_start
column_of_lem c a i h =
    let q = in_block (column_sizes c a) i h in
    let b : OpfColumn = get_or columns q.rank Va in
    let e : column_rank b ≡ q.rank = column_rank_of q.rank q.ranked in
    record {
      block = b;
      at = q.at;
      below = omega (arith, q.below, column_size_lem c a b, ap (λ (k : ℕ). get_or (column_sizes c a) k 0) e);
      is = omega (arith, q.place, ap (start (column_sizes c a)) e);
    }

-- ---- the rows

row_size_lem : (c : Counts) (a : Active) (b : OpfRow) → get_or (row_sizes c a) (row_rank b) 0 ≡ row_size c a b
row_size_lem c a Balance = refl
row_size_lem c a FlowRow = refl
row_size_lem c a Reference = refl
row_size_lem c a LineUb = refl
row_size_lem c a LineLb = refl
row_size_lem c a GenUb = refl
row_size_lem c a GenLb = refl
row_size_lem c a ShedUb = refl
row_size_lem c a ShedLb = refl
row_size_lem c a PhaseUb = refl
row_size_lem c a PhaseLb = refl
row_size_lem c a Segment = refl
row_size_lem c a LinearEqual = refl
row_size_lem c a LinearLimit = refl

pub row_of_rank : (b : OpfRow) → get_or rows (row_rank b) Balance ≡ b
row_of_rank Balance = refl
row_of_rank FlowRow = refl
row_of_rank Reference = refl
row_of_rank LineUb = refl
row_of_rank LineLb = refl
row_of_rank GenUb = refl
row_of_rank GenLb = refl
row_of_rank ShedUb = refl
row_of_rank ShedLb = refl
row_of_rank PhaseUb = refl
row_of_rank PhaseLb = refl
row_of_rank Segment = refl
row_of_rank LinearEqual = refl
row_of_rank LinearLimit = refl

pub row_rank_below : (b : OpfRow) → row_rank b < 14
row_rank_below Balance = omega arith
row_rank_below FlowRow = omega arith
row_rank_below Reference = omega arith
row_rank_below LineUb = omega arith
row_rank_below LineLb = omega arith
row_rank_below GenUb = omega arith
row_rank_below GenLb = omega arith
row_rank_below ShedUb = omega arith
row_rank_below ShedLb = omega arith
row_rank_below PhaseUb = omega arith
row_rank_below PhaseLb = omega arith
row_rank_below Segment = omega arith
row_rank_below LinearEqual = omega arith
row_rank_below LinearLimit = omega arith

-- a block of rows ends within them
pub row_within : (c : Counts) (a : Active) (b : OpfRow) → row_start c a b + row_size c a b ≤ ncon c a
unfolding row_start ncon
row_within c a b = omega (arith, inside (row_sizes c a) (row_rank b), row_size_lem c a b)

-- two places that are one row are of one block, at one index
pub rows_apart : (c : Counts) (a : Active) (b d : OpfRow) (i j : ℕ) → i < row_size c a b → j < row_size c a d → row_start c a b + i ≡ row_start c a d + j → (b ≡ d) × (i ≡ j)
unfolding row_start
rows_apart c a b d i j hi hj q =
    let h = one_place (row_sizes c a) (row_rank b) (row_rank d) i j (omega (arith, row_size_lem c a b)) (omega (arith, row_size_lem c a d)) q in
    (sym (row_of_rank b) ∙ ap (λ (k : ℕ). get_or rows k Balance) h.0 ∙ row_of_rank d, h.1)

fourteen : every (λ k. eqb (row_rank (get_or rows k Balance)) k) 14 ≡ true
unfolding every
fourteen = refl

-- the block of a rank has that rank
pub row_rank_of : (k : ℕ) → k < 14 → row_rank (get_or rows k Balance) ≡ k
row_rank_of k h = eqb→eq (row_rank (get_or rows k Balance)) k (subst T (sym (every_at (λ k. eqb (row_rank (get_or rows k Balance)) k) 14 fourteen k h)) tt)

-- row i of the program: of this block, at this place; `rows_apart` says that of no other
pub record RowPlace (c : Counts) (a : Active) (i : ℕ) : Type 0 where
  pub block : OpfRow
  pub at : ℕ
  pub below : at < row_size c a block
  pub is : i ≡ row_start c a block + at

pub row_of : (c : Counts) (a : Active) (i : ℕ) → i < ncon c a → RowPlace c a i
unfolding ncon row_start
row_of c a i h =
    let q = in_block (row_sizes c a) i h in
    let b : OpfRow = get_or rows q.rank Balance in
    let e : row_rank b ≡ q.rank = row_rank_of q.rank q.ranked in
    record {
      block = b;
      at = q.at;
      below = omega (arith, q.below, row_size_lem c a b, ap (λ (k : ℕ). get_or (row_sizes c a) k 0) e);
      is = omega (arith, q.place, ap (start (row_sizes c a)) e);
    }

-- ---- the cones

-- the rows before the limits: n + m + R
pub limits_start : (c : Counts) (a : Active) → row_start c a LineUb ≡ c.buses + c.branches + c.references
unfolding row_start
limits_start c a = omega arith

-- the limits and segments, both halves of each
abbrev pub limit_rows : Counts → Active → ℕ
limit_rows c a = a.lines + a.lines + (a.generators + a.generators) + (a.sheds + a.sheds) + (a.phases + a.phases) + c.segments

pub linear_block_start : (c : Counts) (a : Active) → row_start c a LinearEqual ≡ row_start c a LineUb + limit_rows c a
unfolding row_start
linear_block_start c a = omega arith

pub inequalities_start : (c : Counts) (a : Active) → row_start c a LinearLimit ≡ row_start c a LinearEqual + a.equalities
unfolding row_start
inequalities_start c a = omega arith

pub rows_end : (c : Counts) (a : Active) → ncon c a ≡ row_start c a LinearLimit + a.inequalities
unfolding row_start ncon
rows_end c a = omega arith

-- a cone of size 0 that is left out takes nothing from the sum
also_total : (n : ℕ) (rest : List ℕ) → total (also_if n rest) ≡ n + total rest
also_total n rest = go (eqb n 0) (eqb→eq n 0)
  where
    go : (x : Bool) → (T x → n ≡ 0) → total (cond x rest (n ∷ rest)) ≡ n + total rest
    go true f = omega (arith, f tt)
    go false f = refl

-- all rows are in cones, none in two: their sizes sum to the count
pub cones_all : (c : Counts) (a : Active) → total (cones c a) ≡ ncon c a
unfolding cones
cones_all c a =
    omega (arith, linear_block_start c a, inequalities_start c a, rows_end c a, also_total a.equalities (also_if a.inequalities []), also_total a.inequalities [])

-- row i of the program: in this cone, at this place; `cones_apart` says that in no other
pub record ConePlace (c : Counts) (a : Active) (i : ℕ) : Type 0 where
  pub cone : ℕ
  pub at : ℕ
  pub ranked : cone < length (cones c a)
  pub below : at < get_or (cones c a) cone 0
  pub is : i ≡ start (cones c a) cone + at

pub cone_of : (c : Counts) (a : Active) (i : ℕ) → i < ncon c a → ConePlace c a i
cone_of c a i h =
    let q = in_block (cones c a) i (omega (arith, h, cones_all c a)) in
    record { cone = q.rank; at = q.at; ranked = q.ranked; below = q.below; is = q.place }

-- two places that are one row are of one cone, at one index
pub cones_apart : (c : Counts) (a : Active) (k l i j : ℕ) → i < get_or (cones c a) k 0 → j < get_or (cones c a) l 0 → start (cones c a) k + i ≡ start (cones c a) l + j → (k ≡ l) × (i ≡ j)
cones_apart c a k l i j hi hj e = one_place (cones c a) k l i j hi hj e
