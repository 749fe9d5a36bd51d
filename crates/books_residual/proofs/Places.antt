-- A column's word at a place: what the touches of that place leave of +0, in order. Main results: `placed`, `column_at_lem`. Assumes nothing.
use mathlib.Core.Path.{◌≡◌, refl, ap, ◌∙◌}
use mathlib.Core.Bool.{Bool, true, false, cond, ◌&&◌}
use mathlib.Core.List.{List, [], ◌∷◌}
use Prim.Native.Nat.{ℕ, ◌+◌, ◌<◌}
use native.Mathlib.Omega.{arith}
use native.Mathlib.Decide.{ℕ_discrete}
use lib.ListN.{get_or}
use lib.Dec.{eqb}
use lib.Ieee.{Float, nan}
use borrow.Author.Tests.{eq-eqb, ne_eqb, eqb-true}
use Rattle.float64.specs.Values.{nought}
use Rattle.sequence.proofs.Lists.{made_at}
use Rattle.sequence.proofs.Blocks.{inside}
use Rattle.sequence.specs.Facts.{All}
use Rattle.sequence.specs.Facts.All.{done, ◌&◌}
use Rattle.network.specs.declared.Counts.{Counts}
use Rattle.kkt_index.specs.declared.Block.{Block}
use Rattle.kkt_index.specs.Index.{rank, size, sizes, linear_row_count, block_start, dim}
use Rattle.kkt_index.proofs.Blocks.{block_size, blocks_apart}
use Rattle.parameter_column.specs.declared.Served.{Served}
use Rattle.parameter_column.specs.Columns.{Touch, touched, word_of, touches, column_words}
use Rattle.books.specs.Forms.{Place}
use Rattle.books.proofs.Cells.{one_rank}

-- the two blocks first, so that they decide where they are known
abbrev pub at : Place → Touch → Bool
at a t = eqb (rank t.block) (rank a.0) && eqb t.index a.1

unfoldable pub placed : List Touch → Place → Float → Float
placed [] a x = x
placed (t ∷ ts) a x = placed ts a (cond (at a t) (touched t.how x t.value) x)

module _ (c : Counts) (p l : ℕ) where
  abbrev pub Held : Block → ℕ → Type 0
  Held b i = i < size c p l b

  -- two places are one place of the column where their blocks and indexes are equal
  one_test : (a b : Block) (i j : ℕ) → Held a i → Held b j → eqb (block_start c p l a + i) (block_start c p l b + j) ≡ (eqb (rank a) (rank b) && eqb i j)
  one_test a b i j h k = go (ℕ_discrete (block_start c p l a + i) (block_start c p l b + j))
    where
      apart : (s t : Bool) → eqb (rank a) (rank b) ≡ s → eqb i j ≡ t → (block_start c p l a + i ≡ block_start c p l b + j → ⊥) → false ≡ (s && t)
      apart true true e f d =
          absurd (d (ap (λ (x : Block). block_start c p l x + i) (one_rank a b (eqb-true _ _ e)) ∙ ap (λ (x : ℕ). block_start c p l b + x) (eqb-true i j f)))
      apart true false e f d = refl
      apart false t e f d = refl

      go : Dec (block_start c p l a + i ≡ block_start c p l b + j) → eqb (block_start c p l a + i) (block_start c p l b + j) ≡ (eqb (rank a) (rank b) && eqb i j)
      go (yes e) =
          let q = blocks_apart c p l a b i j h k e in
          rw (eq-eqb _ _ e, eq-eqb (rank a) (rank b) (ap (λ (x : Block). rank x) q.0), eq-eqb i j q.1)
      go (no d) = ne_eqb _ _ d ∙ apart (eqb (rank a) (rank b)) (eqb i j) refl refl d

  word_placed : (a : Place) (x : Float) {ts : List Touch} → Held a.0 a.1 → All (λ t. Held t.block t.index) ts
      → word_of (block_start c p l) ts (block_start c p l a.0 + a.1) x ≡ placed ts a x
  unfolding word_of placed
  word_placed a x h done = refl
  word_placed a x h (◌&◌ {x = t} {xs = ts} k ks) =
      rw (one_test t.block a.0 t.index a.1 k h) (word_placed a (cond (eqb (rank t.block) (rank a.0) && eqb t.index a.1) (touched t.how x t.value) x) h ks)

  place_in : (b : Block) (i : ℕ) → Held b i → block_start c p l b + i < dim c p l
  unfolding block_start dim
  place_in b i h = omega (arith, inside (sizes c p l) (rank b), block_size c p l b)

pub column_at_lem : (c : Counts) (w ti : List ℕ) (tc : List Float) (p : ℕ) (r s : List Float) (k : Served) (i : ℕ) (a : Place) → Held c p (linear_row_count c w r) a.0 a.1
    → All (λ (t : Touch). Held c p (linear_row_count c w r) t.block t.index) (touches c w ti tc p r s k i)
    → get_or (column_words c w ti tc p r s k i) (block_start c p (linear_row_count c w r) a.0 + a.1) nan ≡ placed (touches c w ti tc p r s k i) a nought
unfolding column_words
column_at_lem c w ti tc p r s k i a h ts =
    made_at _ (dim c p (linear_row_count c w r)) _ nan (place_in c p (linear_row_count c w r) a.0 a.1 h) ∙ word_placed c p (linear_row_count c w r) a nought h ts
