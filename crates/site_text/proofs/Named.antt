-- The triplets of three sheets that stand in a change's cells, one after the other, and those cells by the index.
-- Main results: `begin`, `named_turn`, `other_turn`, `named_cells_lem`. Assumes nothing.
use mathlib.Core.Path.{◌≡◌, refl, sym, ap, subst}
use mathlib.Core.Bool.{Bool, true, false}
use mathlib.Core.List.{List, [], ◌∷◌, ◌++◌, append-nil, append_assoc}
use Prim.Native.Nat.{ℕ, zero, suc, ◌+◌, ◌<◌}
use native.Mathlib.Numerals.{add-one}
use native.Mathlib.Omega.{arith}
use lib.ListN.{length, get_or, take}
use lib.Ieee.{Float, nan}
use Rattle.sequence.specs.Lists.{when}
use Rattle.sequence.specs.declared.Triplet.{Triplet}
use Rattle.sequence.specs.Sheets.{triplet}
use Rattle.words.specs.Words.{joined}
use Rattle.network.specs.declared.Counts.{Counts}
use Rattle.solution.specs.Sheet.{pieces}
use Rattle.kkt_index.specs.declared.Block.{Block}
use Rattle.kkt_index.specs.declared.KktIdx.{KktIdx}
use Rattle.kkt_index.specs.Index.{linear_row_count, block_start, start_in, Indexed}
use Rattle.kkt_index.proofs.Starts.{starts}
use Rattle.change_table.specs.Table.{Pair, Cell, field_of, cells_of, cells_at, named_cells, among}
use Rattle.job_book.specs.Run.{triplets}
use Rattle.site_text.specs.Text.{triplet_line, triplets_in}
use Rattle.site_text.specs.Writing.{Adds}
use Rattle.site_text.specs.declared.buffer.Buffer.{Buffer}
use Rattle.site_text.proofs.Writing.{none, then, told}

joined_append : {A : Type 0} (g : A → List ℕ) (xs ys : List A) → joined g (xs ++ ys) ≡ joined g xs ++ joined g ys
unfolding joined
joined_append g [] ys = refl
joined_append g (x ∷ xs) ys = rw (joined_append g xs ys, append_assoc)

-- ---- one triplet more

triplets_more : (R C : List ℕ) (X : List Float) (t : ℕ) → t < length R → t < length C → t < length X
    → triplets (take (suc t) R) (take (suc t) C) (take (suc t) X) ≡ triplets (take t R) (take t C) (take t X) ++ triplet (get_or R t 0) (get_or C t 0) (get_or X t nan) ∷ []
unfolding triplets
triplets_more [] C X t a b d = absurd (omega arith)
triplets_more (r ∷ R) [] X t a b d = absurd (omega arith)
triplets_more (r ∷ R) (c ∷ C) [] t a b d = absurd (omega arith)
triplets_more (r ∷ R) (c ∷ C) (x ∷ X) zero a b d = refl
triplets_more (r ∷ R) (c ∷ C) (x ∷ X) (suc t) a b d = ap (λ (ts : List Triplet). triplet r c x ∷ ts) (triplets_more R C X t (omega arith) (omega arith) (omega arith))

in_more : (cells : List Cell) (ts : List Triplet) (t : Triplet) → triplets_in cells (ts ++ t ∷ []) ≡ triplets_in cells ts ++ when (among (t.row, t.col) cells) (t ∷ [])
unfolding triplets_in
in_more cells [] t = append-nil (when (among (t.row, t.col) cells) (t ∷ []))
in_more cells (u ∷ ts) t = rw (in_more cells ts t, append_assoc)

module _ (cells : List Cell) (R C : List ℕ) (X : List Float) where
  abbrev pub lines_of : ℕ → List ℕ
  lines_of t = joined triplet_line (triplets_in cells (triplets (take t R) (take t C) (take t X)))

  pub begin : (b : Buffer) → Adds (lines_of 0) b b
  unfolding joined triplets_in triplets
  begin b = none b

  lines_more : (t : ℕ) → t < length R → t < length C → t < length X
      → lines_of (t + 1) ≡ lines_of t ++ joined triplet_line (when (among (get_or R t 0, get_or C t 0) cells) (triplet (get_or R t 0) (get_or C t 0) (get_or X t nan) ∷ []))
  lines_more t a b d =
      rw (add-one, triplets_more R C X t a b d, in_more cells _ (triplet (get_or R t 0) (get_or C t 0) (get_or X t nan)))
      (joined_append triplet_line (triplets_in cells (triplets (take t R) (take t C) (take t X))) _)

  module _ {a b d : Buffer} (t : ℕ) (f : t < length R) (g : t < length C) (h : t < length X) (p : Adds (lines_of t) a b) where
    turn : {named : Bool} → named ≡ among (get_or R t 0, get_or C t 0) cells → Adds (joined triplet_line (when named (triplet (get_or R t 0) (get_or C t 0) (get_or X t nan) ∷ []))) b d
        → Adds (lines_of (t + 1)) a d
    turn e q =
        told (sym (lines_more t f g h))
        (then p (told (ap (λ (n : Bool). joined triplet_line (when n (triplet (get_or R t 0) (get_or C t 0) (get_or X t nan) ∷ []))) e) q))

    -- a triplet that is in a cell, and one that is not
    pub named_turn : true ≡ among (get_or R t 0, get_or C t 0) cells → Adds (triplet_line (triplet (get_or R t 0) (get_or C t 0) (get_or X t nan))) b d → Adds (lines_of (t + 1)) a d
    unfolding joined when
    named_turn e q = turn e (told (sym (append-nil _)) q)

    pub other_turn : false ≡ among (get_or R t 0, get_or C t 0) cells → b ≡ d → Adds (lines_of (t + 1)) a d
    unfolding joined when
    other_turn e q = turn e (subst (λ (d : Buffer). Adds [] b d) q (none b))

-- ---- the cells by the index

cells_same : (f g : Block → ℕ) → ((b : Block) → f b ≡ g b) → (ps : List Pair) → cells_at f ps ≡ cells_at g ps
cells_same f g h [] = refl
cells_same f g h (p ∷ ps) = rw (h p.0.0, h p.1.0, cells_same f g h ps)

pub named_cells_lem : (c : Counts) (w : List ℕ) (r : List Float) (k i : ℕ) {x : KktIdx} → Indexed c (pieces c w) (linear_row_count c w r) x
    → cells_at (start_in x) (cells_of c w (field_of k) i) ≡ named_cells c w r k i
unfolding named_cells
named_cells_lem c w r k i {x} h = cells_same (start_in x) (block_start c (pieces c w) (linear_row_count c w r)) (starts h) (cells_of c w (field_of k) i)
