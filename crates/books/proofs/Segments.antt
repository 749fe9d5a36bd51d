-- The port's list agrees with the books' at the blocks of the piecewise costs' segments.
-- Main results: one for each pair of blocks, named by them. Assumes nothing.
use mathlib.Core.Path.{◌≡◌, refl}
use mathlib.Core.List.{List}
use Prim.Native.Nat.{ℕ, ◌+◌, ◌<◌}
use native.Mathlib.Omega.{arith}
use lib.Dec.{T}
use lib.Ieee.{Float, binary64, fits}
use lib.Ieee.Bits.{of_bits-fits}
use borrow.Author.Tests.{ne_eqb}
use Rattle.sequence.specs.Lists.{each}
use Rattle.sequence.proofs.Lists.{before_within}
use Rattle.network.specs.Layout.{segments_at, segment_start}
use Rattle.solution.specs.declared.Entry.TheVariants as entries
use Rattle.solution.specs.Sheet.{piece, piece_rank, pieces, solved}
use Rattle.kkt_index.specs.declared.Block.TheVariants.{Pg, Cost, Segments}
use Rattle.snapping.specs.declared.LimitState.{LimitState}
use Rattle.snapping.specs.declared.LimitState.TheVariants.{Slack, NotPositive, Kept}
use Rattle.snapping.specs.States.{limit_state, limit_value}
use Rattle.snapping.specs.Expr.{eval}
use Rattle.snapping.specs.Snap.{snap_sheet, segment_slack, segment_dual}
use Rattle.kkt.specs.Slots.{columns, pg_segment, cost_segment, segment_column}
use Rattle.books.specs.Convex.{Entry, against, constraint_entries}
use Rattle.books.specs.Manual as manual
use Rattle.books.proofs.Cells.{values, values_each}
use Rattle.books.proofs.Words.{segment_word}
use Rattle.books.proofs.Setting.{Setting, R, S, port_site, book_site, port_point, book_point}
use Rattle.books.proofs.Book.{one}
use Rattle.books.proofs.Pairs.{Agree, turns, word, sol_fits, twice}

limit_fits : (b : LimitState) (d : Float) → T (fits binary64 d) → T (fits binary64 (limit_value b d))
limit_fits Slack d h = of_bits-fits binary64 0
limit_fits NotPositive d h = of_bits-fits binary64 0
limit_fits Kept d h = h

module _ (z : Setting) where
  -- which segment is segment t of generator j, and which epigraph is its generator's
  abbrev at : ℕ → ℕ → ℕ
  at j t = segment_start z.counts z.wiring j + t

  abbrev top : ℕ → ℕ
  top j = piece_rank z.counts z.wiring j

  abbrev many : ℕ → ℕ
  many j = segments_at z.counts z.wiring j

  top_in : (j t : ℕ) → j < z.counts.generators → t < many j → top j < pieces z.counts z.wiring
  unfolding piece_rank
  top_in j t l k =
      let one : piece z.counts z.wiring j ≡ 1 = rw (ne_eqb (many j) 0 (λ e. absurd (omega arith))) in
      omega (arith, before_within (piece z.counts z.wiring) j z.counts.generators l)

  -- its multiplier
  dual_is : (j t : ℕ) → j < z.counts.generators → t < many j
      → solved z.counts (pieces z.counts z.wiring) (snap_sheet z.counts z.wiring (pieces z.counts z.wiring) z.readings z.sheet) entries.SegmentDual (at j t)
      ≡ eval (R z) (S z) (segment_dual j (top j) (at j t))
  dual_is j t l k = segment_word z.counts z.wiring (pieces z.counts z.wiring) z.readings z.sheet z.wired j t l k

  dual_fits : (j g s : ℕ) → T (fits binary64 (eval (R z) (S z) (segment_dual j g s)))
  dual_fits j g s =
      limit_fits (limit_state (eval (R z) (S z) (segment_slack j g s)) (S z entries.SegmentDual s)) (S z entries.SegmentDual s) (sol_fits z entries.SegmentDual s)

  abbrev laws : ℕ → List Entry
  laws j = each (many j) (one (manual.segment (book_site z) j))

  pub segments_pg : (i j : ℕ) → Agree z (Segments, i) (Pg, j)
  unfolding values columns constraint_entries against
  segments_pg i j =
      turns z (Segments, i) (Pg, j) z.counts.generators (columns (port_site z) Pg) laws _ _ refl refl
      (λ g l. values_each (port_point z) (book_point z) (Segments, i) (Pg, j) (many g) (λ t. pg_segment g (top g) (at g t)) (one (manual.segment (book_site z) g))
      (λ t k. rw (dual_is g t l k)))

  pub segments_cost : (i j : ℕ) → Agree z (Segments, i) (Cost, j)
  unfolding values columns constraint_entries against
  segments_cost i j =
      turns z (Segments, i) (Cost, j) z.counts.generators (columns (port_site z) Cost) laws _ _ refl refl
      (λ g l. values_each (port_point z) (book_point z) (Segments, i) (Cost, j) (many g) (λ t. cost_segment g (top g) (at g t)) (one (manual.segment (book_site z) g))
      (λ t k. rw (dual_is g t l k, twice (eval (R z) (S z) (segment_dual g (top g) (at g t))) (dual_fits g (top g) (at g t)))))

  pub pg_segments : (i j : ℕ) → Agree z (Pg, i) (Segments, j)
  unfolding values columns constraint_entries against
  pg_segments i j =
      turns z (Pg, i) (Segments, j) z.counts.generators (columns (port_site z) Segments) laws _ _ refl refl
      (λ g l. values_each (port_point z) (book_point z) (Pg, i) (Segments, j) (many g) (λ t. segment_column g (top g) (at g t)) (one (manual.segment (book_site z) g))
      (λ t k. refl))

  pub cost_segments : (i j : ℕ) → Agree z (Cost, i) (Segments, j)
  unfolding values columns constraint_entries against
  cost_segments i j =
      turns z (Cost, i) (Segments, j) z.counts.generators (columns (port_site z) Segments) laws _ _ refl refl
      (λ g l. values_each (port_point z) (book_point z) (Cost, i) (Segments, j) (many g) (λ t. segment_column g (top g) (at g t)) (one (manual.segment (book_site z) g))
      (λ t k. refl))

  pub segments_segments : (i j : ℕ) → Agree z (Segments, i) (Segments, j)
  unfolding values columns constraint_entries against
  segments_segments i j =
      turns z (Segments, i) (Segments, j) z.counts.generators (columns (port_site z) Segments) laws _ _ refl refl
      (λ g l. values_each (port_point z) (book_point z) (Segments, i) (Segments, j) (many g) (λ t. segment_column g (top g) (at g t)) (one (manual.segment (book_site z) g))
      (λ t k. rw (word z entries.Epigraph refl (top g) (top_in g t l k), word z entries.Pg refl g l)))
