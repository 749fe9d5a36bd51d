-- Every triplet of the list lies in the matrix: each slot's row and column are places of their blocks.
-- Main result: `list_in_lem`. Assumes nothing.
use mathlib.Core.Path.{◌≡◌}
use mathlib.Core.List.{List}
use Prim.Native.Nat.{ℕ, ◌+◌, ◌≤◌, ◌<◌}
use native.Mathlib.Omega.{arith}
use lib.ListN.{length, get_or}
use lib.Ieee.{Float}
use borrow.Author.Tests.{ne_eqb}
use Rattle.sequence.proofs.Lists.{before_within}
use Rattle.sequence.proofs.Blocks.{inside}
use Rattle.sequence.specs.Facts.{All}
use Rattle.sequence.specs.Facts.All.{done, ◌&◌}
use Rattle.sequence.proofs.Facts.{all_append, all_each, all_when, all_map}
use Rattle.network.specs.declared.Counts.{Counts}
use Rattle.network.specs.Layout.{reading, segments_at, segment_start}
use Rattle.network.specs.Numbers.{Wired, Termed}
use Rattle.model.proofs.Runs.{segments_inside}
use Rattle.solution.specs.Sheet.{piece, piece_rank, pieces, solved}
use Rattle.kkt_index.specs.declared.Block.{Block}
use Rattle.kkt_index.specs.declared.Block.TheVariants.{Va, Pg, Flow, Psh, Cost, LamLb, LamUb, GammaLb, GammaUb, RhoLb, RhoUb, MuLb, MuUb, Segments, Linear, NuBal, NuFlow, Eta}
use Rattle.kkt_index.specs.Index.{Shape, width, rank, sizes, linear_start, linear_row_count, block_start, dim}
use Rattle.kkt_index.specs.Index.Shape.{free, upper_only, lower_only, two_sided, equality}
use Rattle.snapping.specs.Expr.{Expr}
use Rattle.kkt.specs.declared.Side.{Side}
use Rattle.kkt.specs.declared.Side.TheVariants.{Above, Below, Level}
use Rattle.kkt.specs.Slots.{Place, Slot, Site, Rule, site_of, start_of, end_slots, reference_slot, side_slots, diagonal, row_slots, columns, turns_of, emission, emission_at, slots}
use Rattle.kkt.specs.Matrix.{kkt_matrix_list}
use Rattle.kkt_laws.specs.Laws.{InRange}
use Rattle.kkt_laws.proofs.Every.{emitted_all}

-- a place of a block lies in the matrix
place_in : (c : Counts) (p l : ℕ) (b : Block) (i : ℕ) → i < get_or (sizes c p l) (rank b) 0 → block_start c p l b + i < dim c p l
unfolding block_start dim
place_in c p l b i h = omega (arith, inside (sizes c p l) (rank b))

-- an epigraph of a generator that has a segment
epigraph_in : (c : Counts) (w : List ℕ) (j t : ℕ) → j < c.generators → t < segments_at c w j → piece_rank c w j < pieces c w
unfolding piece_rank
epigraph_in c w j t l k =
    let one : piece c w j ≡ 1 = rw (ne_eqb (segments_at c w j) 0 (λ z. absurd (omega arith))) in
    omega (arith, before_within (piece c w) j c.generators l)

module _ (s : Site) where
  abbrev Inside : Place → Type 0
  Inside p = p.1 < get_or (sizes s.counts (pieces s.counts s.wiring) (start_of s s.counts.rows)) (rank p.0) 0

  abbrev pub Placed : Slot → Type 0
  Placed x = Inside x.row × Inside x.col

  module _ (h : Wired s.counts s.wiring) (k : Termed s.counts s.wiring s.indexes s.coefficients) where
    ends_in : (j e : ℕ) (x : Expr) → j < s.counts.buses → e < s.counts.branches → All Placed (end_slots s.counts s.wiring j x e)
    ends_in j e x l m = (m, l) & (m, l) & (m, l) & done

    reference_in : (j i : ℕ) → j < s.counts.buses → i < s.counts.references → All Placed (reference_slot s.rule s.counts s.wiring j i)
    unfolding reference_slot
    reference_in j i l m = all_when _ ((m, l) & done)

    segment_in : (j t : ℕ) → j < s.counts.generators → t < segments_at s.counts s.wiring j → segment_start s.counts s.wiring j + t < s.counts.segments
    segment_in j t l m = omega (arith, segments_inside h j l)

    -- ---- the linear rows

    diagonal_in : (d : Side) (q x : ℕ) → Inside (Linear, x) → All Placed (diagonal s.counts s.wiring s.indexes s.coefficients d q x)
    diagonal_in Above q x m = (m, m) & done
    diagonal_in Below q x m = (m, m) & done
    diagonal_in Level q x m = done

    side_in : (d : Side) (q x : ℕ) → q < s.counts.rows → Inside (Linear, x) → All Placed (side_slots s.counts s.wiring s.indexes s.coefficients d q x)
    side_in d q x l m =
        all_append
        (all_append
        (all_each _ (λ t g. let n = k.flow_terms q t l g in (m, n) & (n, m) & done))
        (all_each _ (λ t g. let n = k.generation_terms q t l g in (m, n) & (n, m) & done)))
        (diagonal_in d q x m)

    row_in : (f : Shape) (q x : ℕ) → q < s.counts.rows → x + width f ≤ start_of s s.counts.rows → All Placed (row_slots s.counts s.wiring s.indexes s.coefficients f q x)
    row_in free q x l m = done
    row_in upper_only q x l m = side_in Above q x l (omega arith)
    row_in lower_only q x l m = side_in Below q x l (omega arith)
    row_in two_sided q x l m = all_append (side_in Above q x l (omega arith)) (side_in Below q (x + 1) l (omega arith))
    row_in equality q x l m = side_in Level q x l (omega arith)

    -- ---- the blocks

    block_in : (b : Block) (i : ℕ) → i < turns_of s.counts b → All Placed (columns s b i)
    unfolding columns
    block_in Va i l =
        all_append (all_each _ (λ e m. all_append (all_when _ (ends_in i e _ l m)) (all_when _ (ends_in i e _ l m))))
        (all_append (all_each _ (λ r m. (m, l) & done))
        (all_each _ (λ r m. reference_in i r l m)))
    block_in Pg i l =
        all_append ((l, l) & (l, l) & (l, l) & (h.gen_buses i l, l) & done)
        (all_each _ (λ t m. (segment_in i t l m, l) & done))
    block_in Flow i l = (l, l) & (l, l) & (l, l) & done
    block_in Psh i l = (l, l) & (l, l) & (l, l) & done
    block_in Cost i l = all_each _ (λ t m. (segment_in i t l m, epigraph_in s.counts s.wiring i t l m) & done)
    block_in LamLb i l = (l, l) & (l, l) & done
    block_in LamUb i l = (l, l) & (l, l) & done
    block_in GammaLb i l = (h.froms i l, l) & (h.tos i l, l) & (l, l) & done
    block_in GammaUb i l = (h.froms i l, l) & (h.tos i l, l) & (l, l) & done
    block_in RhoLb i l = (l, l) & (l, l) & done
    block_in RhoUb i l = (l, l) & (l, l) & done
    block_in MuLb i l = (l, l) & (l, l) & done
    block_in MuUb i l = (l, l) & (l, l) & done
    block_in Segments i l =
        all_each _ (λ t m. let n = segment_in i t l m in (l, n) & (epigraph_in s.counts s.wiring i t l m, n) & (n, n) & done)
    block_in Linear i l = row_in (s.shapes i) i (start_of s i) l (before_within (λ q. width (s.shapes q)) i s.counts.rows l)
    block_in NuBal i l =
        all_append (all_each _ (λ r m. (m, l) & done))
        (all_append (all_each _ (λ j m. all_when _ ((m, l) & done))) ((l, l) & done))
    block_in NuFlow i l = (h.froms i l, l) & (h.tos i l, l) & (l, l) & done
    block_in Eta i l = (h.references i l, l) & done

    pub slots_in : All Placed (slots s)
    unfolding slots
    slots_in = all_each (length emission) (λ b m. all_each _ (block_in (emission_at b)))

-- ---- the list

pub list_in_lem : (rule : Rule) (c : Counts) (w : List ℕ) (r : List Float) (ti : List ℕ) (tc s : List Float) → Wired c w → Termed c w ti tc
    → All (InRange (dim c (pieces c w) (linear_row_count c w r))) (kkt_matrix_list rule c w r ti tc s)
unfolding kkt_matrix_list linear_start
list_in_lem rule c w r ti tc s h k =
    emitted_all (block_start c (pieces c w) (linear_row_count c w r)) (reading c r) (solved c (pieces c w) s) (InRange (dim c (pieces c w) (linear_row_count c w r)))
    (all_map (λ x p z. (place_in c (pieces c w) (linear_row_count c w r) x.row.0 x.row.1 p.0, place_in c (pieces c w) (linear_row_count c w r) x.col.0 x.col.1 p.1))
    (slots_in (site_of rule c w r ti tc) h k))
