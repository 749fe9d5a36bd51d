-- The words of the snapped sheet and of the linear rows' multipliers, each by its place: the figure that the port's expression has.
-- Main results: `plain_word`, `segment_word`, `linear_word`. Assumes nothing.
use mathlib.Core.Path.{◌≡◌, refl, sym, ap, ◌∙◌}
use mathlib.Core.List.{List}
use Prim.Native.Nat.{ℕ, ◌+◌, ◌<◌}
use native.Mathlib.Omega.{arith}
use lib.ListN.{length, get_or}
use lib.Ieee.{Float, nan}
use Rattle.sequence.specs.Lists.{before}
use Rattle.sequence.proofs.Lists.{made_at, before_within, each_at, map_at}
use Rattle.sequence.proofs.Blocks.{before_start}
use Rattle.network.specs.declared.Counts.{Counts}
use Rattle.network.specs.Layout.{reading, segments_at, segment_start}
use Rattle.network.specs.Numbers.{Wired}
use Rattle.model.specs.Rows.{row_limits}
use Rattle.solution.specs.declared.Entry.{Entry}
use Rattle.solution.specs.declared.Entry.TheVariants.{Va, SegmentDual}
use Rattle.solution.specs.Sheet.{entries, rank, size, sizes, piece_rank, pieces, solved}
use Rattle.solution.proofs.Entries.{entry_size, entry_of_rank, rank_below}
use Rattle.kkt_index.specs.Index.{Shape, shape_of, width}
use Rattle.kkt_index.specs.Index.Shape.{free, upper_only, lower_only, two_sided, equality}
use Rattle.snapping.specs.declared.LinearDuals.{LinearDuals}
use Rattle.snapping.specs.Expr.{eval}
use Rattle.snapping.specs.Snap.{segment_dual, snapped_at, segment_words, plain_words, entry_words, snap_sheet, duals}
use Rattle.snapping.proofs.Words.{segment_long, entry_long}
use Rattle.books.specs.Matrix.{sides_of, linear_words}

-- ---- the sheet's entries

module _ (c : Counts) (w : List ℕ) (p : ℕ) (r s : List Float) (h : Wired c w) where
  word_at : (e : Entry) (i : ℕ) → i < size c p e → solved c p (snap_sheet c w p r s) e i ≡ get_or (entry_words c w p r s e) i nan
  unfolding solved snap_sheet
  word_at e i l =
      ap (λ (x : ℕ). get_or (snap_sheet c w p r s) (x + i) nan) (sym (before_start (sizes c p) (rank e)))
      ∙ each_at (λ k. entry_words c w p r s (get_or entries k Va)) (λ k. get_or (sizes c p) k 0) 18
      (λ k l. entry_long c w p r s h (get_or entries k Va) ∙ sym (map_at (size c p) entries k Va l))
      (rank e) i nan (rank_below e) (rw (entry_size c p e) l)
      ∙ ap (λ (x : Entry). get_or (entry_words c w p r s x) i nan) (entry_of_rank e)

  -- a word of an entry that is not the segment duals'
  pub plain_word : (e : Entry) → entry_words c w p r s e ≡ plain_words c w p r s e → (i : ℕ) → i < size c p e
      → solved c p (snap_sheet c w p r s) e i ≡ eval (reading c r) (solved c p s) (snapped_at c w e i)
  unfolding plain_words
  plain_word e q i l = word_at e i l ∙ ap (λ (x : List Float). get_or x i nan) q ∙ made_at _ (size c p e) i nan l

  -- segment t of generator j
  pub segment_word : (j t : ℕ) → j < c.generators → t < segments_at c w j
      → solved c p (snap_sheet c w p r s) SegmentDual (segment_start c w j + t)
      ≡ eval (reading c r) (solved c p s) (segment_dual j (piece_rank c w j) (segment_start c w j + t))
  unfolding segment_start segment_words
  segment_word j t l m =
      word_at SegmentDual (segment_start c w j + t) (omega (arith, before_within (segments_at c w) j c.generators l, h.segments_sum))
      ∙ each_at (segment_words c w p r s) (segments_at c w) c.generators (λ j l. segment_long c w p r s j) j t nan l m
      ∙ made_at _ (segments_at c w j) t nan m

-- ---- the linear rows

sides_long : (f : Shape) (d : LinearDuals) → length (sides_of f d) ≡ width f
sides_long free d = refl
sides_long upper_only d = refl
sides_long lower_only d = refl
sides_long two_sided d = refl
sides_long equality d = refl

-- side t of row q
pub linear_word : (c : Counts) (w : List ℕ) (r : List Float) (ti : List ℕ) (tc s : List Float) (q t : ℕ) → q < c.rows → t < width (shape_of (row_limits c w r q))
    → get_or (linear_words c w r ti tc s) (before (λ i. width (shape_of (row_limits c w r i))) q + t) nan
    ≡ get_or (sides_of (shape_of (row_limits c w r q)) (duals c w ti tc (pieces c w) r s q)) t nan
unfolding linear_words
linear_word c w r ti tc s q t l m =
    each_at (λ q. sides_of (shape_of (row_limits c w r q)) (duals c w ti tc (pieces c w) r s q)) (λ i. width (shape_of (row_limits c w r i))) c.rows
    (λ q l. sides_long (shape_of (row_limits c w r q)) (duals c w ti tc (pieces c w) r s q))
    q t nan l m
