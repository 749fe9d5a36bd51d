-- The blocks of the matrix lie one after the other: each index below dim lies in exactly one. Main results: `block_of`, `blocks_apart`. Assumes nothing.
use mathlib.Core.Path.{◌≡◌, refl, sym, ap, ◌∙◌, subst}
use mathlib.Core.Bool.{true}
use Prim.Native.Nat.{ℕ, ◌+◌, ◌≤◌, ◌<◌}
use native.Mathlib.Omega.{arith}
use lib.Dec.{T, eqb, eqb→eq}
use lib.ListN.{get_or}
use Rattle.sequence.specs.Lists.{every}
use Rattle.sequence.proofs.Lists.{every_at}
use Rattle.sequence.specs.Layout.{start}
use Rattle.sequence.proofs.Blocks.{one_place, in_block}
use Rattle.network.specs.declared.Counts.{Counts}
use Rattle.model.specs.declared.RowLimits.{RowLimits}
use Rattle.model.specs.declared.RowLimits.TheVariants.{None, Upper, Lower, Both, Equal}
use Rattle.kkt_index.specs.declared.Block.{Block}
use Rattle.kkt_index.specs.declared.Block.TheVariants.{Va, Pg, Flow, Psh, Cost, LamLb, LamUb, GammaLb, GammaUb, RhoLb, RhoUb, MuLb, MuUb, Segments, Linear, NuBal, NuFlow, Eta}
use Rattle.kkt_index.specs.Index.{rows_of, blocks, rank, size, sizes, block_start, dim}

pub rows_few : (l : RowLimits) → rows_of l ≤ 2
rows_few None = omega arith
rows_few (Upper u) = omega arith
rows_few (Lower l) = omega arith
rows_few (Both u l) = omega arith
rows_few (Equal l) = omega arith

pub block_size : (c : Counts) (p l : ℕ) (b : Block) → get_or (sizes c p l) (rank b) 0 ≡ size c p l b
block_size c p l Va = refl
block_size c p l Pg = refl
block_size c p l Flow = refl
block_size c p l Psh = refl
block_size c p l Cost = refl
block_size c p l LamLb = refl
block_size c p l LamUb = refl
block_size c p l GammaLb = refl
block_size c p l GammaUb = refl
block_size c p l RhoLb = refl
block_size c p l RhoUb = refl
block_size c p l MuLb = refl
block_size c p l MuUb = refl
block_size c p l Segments = refl
block_size c p l Linear = refl
block_size c p l NuBal = refl
block_size c p l NuFlow = refl
block_size c p l Eta = refl

pub block_of_rank : (b : Block) → get_or blocks (rank b) Va ≡ b
block_of_rank Va = refl
block_of_rank Pg = refl
block_of_rank Flow = refl
block_of_rank Psh = refl
block_of_rank Cost = refl
block_of_rank LamLb = refl
block_of_rank LamUb = refl
block_of_rank GammaLb = refl
block_of_rank GammaUb = refl
block_of_rank RhoLb = refl
block_of_rank RhoUb = refl
block_of_rank MuLb = refl
block_of_rank MuUb = refl
block_of_rank Segments = refl
block_of_rank Linear = refl
block_of_rank NuBal = refl
block_of_rank NuFlow = refl
block_of_rank Eta = refl

pub rank_below : (b : Block) → rank b < 18
rank_below Va = omega arith
rank_below Pg = omega arith
rank_below Flow = omega arith
rank_below Psh = omega arith
rank_below Cost = omega arith
rank_below LamLb = omega arith
rank_below LamUb = omega arith
rank_below GammaLb = omega arith
rank_below GammaUb = omega arith
rank_below RhoLb = omega arith
rank_below RhoUb = omega arith
rank_below MuLb = omega arith
rank_below MuUb = omega arith
rank_below Segments = omega arith
rank_below Linear = omega arith
rank_below NuBal = omega arith
rank_below NuFlow = omega arith
rank_below Eta = omega arith

-- two indexes that are one index are of one block, at one place
pub blocks_apart : (c : Counts) (p l : ℕ) (a b : Block) (i j : ℕ) → i < size c p l a → j < size c p l b → block_start c p l a + i ≡ block_start c p l b + j → (a ≡ b) × (i ≡ j)
unfolding block_start
blocks_apart c p l a b i j hi hj q =
    let h = one_place (sizes c p l) (rank a) (rank b) i j (omega (arith, block_size c p l a)) (omega (arith, block_size c p l b)) q in
    (sym (block_of_rank a) ∙ ap (λ (k : ℕ). get_or blocks k Va) h.0 ∙ block_of_rank b, h.1)

eighteen : every (λ k. eqb (rank (get_or blocks k Va)) k) 18 ≡ true
unfolding every
eighteen = refl

-- the block of a rank has that rank
rank_of : (k : ℕ) → k < 18 → rank (get_or blocks k Va) ≡ k
rank_of k h = eqb→eq (rank (get_or blocks k Va)) k (subst T (sym (every_at (λ k. eqb (rank (get_or blocks k Va)) k) 18 eighteen k h)) tt)

-- "Each index below dim lies in exactly one block": in this one, at this place; `blocks_apart` says that in no other
pub record Place (c : Counts) (p l i : ℕ) : Type 0 where
  pub block : Block
  pub at : ℕ
  pub below : at < size c p l block
  pub is : i ≡ block_start c p l block + at

pub block_of : (c : Counts) (p l i : ℕ) → i < dim c p l → Place c p l i
unfolding dim block_start
block_of c p l i h =
    let q = in_block (sizes c p l) i h in
    let b : Block = get_or blocks q.rank Va in
    let e : rank b ≡ q.rank = rank_of q.rank q.ranked in
    record {
      block = b;
      at = q.at;
      below = omega (arith, q.below, block_size c p l b, ap (λ (k : ℕ). get_or (sizes c p l) k 0) e);
      is = omega (arith, q.place, ap (start (sizes c p l)) e);
    }
