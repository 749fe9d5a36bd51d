-- A's entries as they are written: those of one row of the program, and of these the values in one column, zeros left out.
-- Main results: `entry_in_row`, `at_column`, `a_values`. Assumes nothing.
use mathlib.Core.Path.{◌≡◌, refl, sym, ap, ap₂, ◌∙◌}
use mathlib.Core.Bool.{Bool, true, false, not, ◌&&◌}
use mathlib.Core.List.{List, [], ◌∷◌, ◌++◌, append_assoc}
use Prim.Native.Nat.{ℕ, zero, suc, ◌+◌, ◌<◌}
use native.Mathlib.Decide.{ℕ_discrete}
use lib.Dec.{eqb}
use lib.Ieee.{Float, eq}
use lib.ListN.{get_or}
use borrow.Author.Tests.{eq-eqb, ne_eqb, eqb-true}
use Rattle.float64.specs.Values.{nought}
use Rattle.sequence.specs.Lists.{each, when}
use Rattle.sequence.specs.Facts.{All}
use Rattle.sequence.specs.Facts.All.{done, ◌&◌}
use Rattle.network.specs.declared.Counts.{Counts}
use Rattle.network.specs.declared.Field.{Field}
use Rattle.solution.specs.declared.Entry.{Entry}
use Rattle.snapping.specs.Expr.{Expr, eval}
use Rattle.change_table.specs.Table.{values_at}
use Rattle.change_table.proofs.Frame.{at_head}
use Rattle.opf_layout.specs.declared.Active.{Active}
use Rattle.opf_layout.specs.declared.OpfColumn.{OpfColumn}
use Rattle.opf_layout.specs.declared.OpfColumn.TheVariants.{Va}
use Rattle.opf_layout.specs.declared.OpfRow.{OpfRow}
use Rattle.opf_layout.specs.declared.OpfRow.TheVariants.{Balance}
use Rattle.opf_layout.specs.Layout.{columns, column_rank, column_size, column_start, rows, row_rank, row_size, row_start}
use Rattle.opf_layout.proofs.Blocks.{columns_apart, rows_apart, row_of_rank, column_of_rank}
use Rattle.opf_assembly.specs.Assembly.{Coefficient, triplets_by, triplets}

-- a value, unless it is a zero
abbrev pub only : Float → List Float
only x = when (not (eq x nought)) (x ∷ [])

-- ---- the entries of a row, each a column and an expression

abbrev pub Term : Type 0
Term = OpfColumn × ℕ × Expr

module _ (a : OpfRow) (i : ℕ) where
  unfoldable pub entry_in_row : List Coefficient → List Term
  entry_in_row [] = []
  entry_in_row (x ∷ xs) = when (eqb (row_rank x.row.0) (row_rank a) && eqb x.row.1 i) ((x.col.0, x.col.1, x.what) ∷ []) ++ entry_in_row xs

  pub row_append : (l m : List Coefficient) → entry_in_row (l ++ m) ≡ entry_in_row l ++ entry_in_row m
  unfolding entry_in_row
  row_append [] m = refl
  row_append (x ∷ xs) m = rw (row_append xs m) (simp append_assoc)

  pub row_each : (n : ℕ) (f : ℕ → List Coefficient) → entry_in_row (each n f) ≡ each n (λ t. entry_in_row (f t))
  unfolding entry_in_row each
  row_each zero f = refl
  row_each (suc n) f = row_append (each n f) (f n) ∙ rw (row_each n f)

  pub row_when : (b : Bool) (l : List Coefficient) → entry_in_row (when b l) ≡ when b (entry_in_row l)
  unfolding entry_in_row when
  row_when true l = refl
  row_when false l = refl

-- ---- and of these the values in a column

module _ (v : Expr → Float) (k : OpfColumn) (j : ℕ) where
  unfoldable pub at_column : List Term → List Float
  at_column [] = []
  at_column (x ∷ xs) = when (eqb (column_rank x.0) (column_rank k) && eqb x.1 j) (only (v x.2)) ++ at_column xs

  pub column_append : (l m : List Term) → at_column (l ++ m) ≡ at_column l ++ at_column m
  unfolding at_column
  column_append [] m = refl
  column_append (x ∷ xs) m = rw (column_append xs m) (simp append_assoc)

  pub column_each : (n : ℕ) (f : ℕ → List Term) → at_column (each n f) ≡ each n (λ t. at_column (f t))
  unfolding at_column each
  column_each zero f = refl
  column_each (suc n) f = column_append (each n f) (f n) ∙ rw (column_each n f)

-- ---- flat rows and columns

pub one_row_lem : (a b : OpfRow) → row_rank a ≡ row_rank b → a ≡ b
one_row_lem a b e = sym (row_of_rank a) ∙ ap (λ (k : ℕ). get_or rows k Balance) e ∙ row_of_rank b

one_column : (k l : OpfColumn) → column_rank k ≡ column_rank l → k ≡ l
one_column k l e = sym (column_of_rank k) ∙ ap (λ (n : ℕ). get_or columns n Va) e ∙ column_of_rank l

both_false : (s t : Bool) → (s ≡ true → t ≡ true → ⊥) → false ≡ (s && t)
both_false true true h = absurd (h refl refl)
both_false true false h = refl
both_false false t h = refl

module _ (c : Counts) (a : Active) where
  row_same : (p q : OpfRow) (i j : ℕ) → i < row_size c a p → j < row_size c a q → eqb (row_start c a p + i) (row_start c a q + j) ≡ (eqb (row_rank p) (row_rank q) && eqb i j)
  row_same p q i j h k = go (ℕ_discrete (row_start c a p + i) (row_start c a q + j))
    where
      go : Dec (row_start c a p + i ≡ row_start c a q + j) → eqb (row_start c a p + i) (row_start c a q + j) ≡ (eqb (row_rank p) (row_rank q) && eqb i j)
      go (yes e) =
          let z = rows_apart c a p q i j h k e in
          rw (eq-eqb _ _ e, eq-eqb (row_rank p) (row_rank q) (ap row_rank z.0), eq-eqb i j z.1)
      go (no d) =
          ne_eqb _ _ d
          ∙ both_false (eqb (row_rank p) (row_rank q)) (eqb i j)
          (λ e f. d (ap₂ (λ (g : OpfRow) (n : ℕ). row_start c a g + n) (one_row_lem p q (eqb-true _ _ e)) (eqb-true _ _ f)))

  pub column_same : (p q : OpfColumn) (i j : ℕ) → i < column_size c a p → j < column_size c a q
      → eqb (column_start c a p + i) (column_start c a q + j) ≡ (eqb (column_rank p) (column_rank q) && eqb i j)
  column_same p q i j h k = go (ℕ_discrete (column_start c a p + i) (column_start c a q + j))
    where
      go : Dec (column_start c a p + i ≡ column_start c a q + j) → eqb (column_start c a p + i) (column_start c a q + j) ≡ (eqb (column_rank p) (column_rank q) && eqb i j)
      go (yes e) =
          let z = columns_apart c a p q i j h k e in
          rw (eq-eqb _ _ e, eq-eqb (column_rank p) (column_rank q) (ap column_rank z.0), eq-eqb i j z.1)
      go (no d) =
          ne_eqb _ _ d
          ∙ both_false (eqb (column_rank p) (column_rank q)) (eqb i j)
          (λ e f. d (ap₂ (λ (g : OpfColumn) (n : ℕ). column_start c a g + n) (one_column p q (eqb-true _ _ e)) (eqb-true _ _ f)))

  -- ---- the values of a cell of A

  abbrev pub Inside : Coefficient → Type 0
  Inside x = (x.row.1 < row_size c a x.row.0) × (x.col.1 < column_size c a x.col.0)

  module _ (R : Field → ℕ → Float) (S : Entry → ℕ → Float) where
    one_turn : (t p q : Bool) (k : OpfColumn) (j : ℕ) (x : Term) (m : List Term) → (eqb (column_rank x.0) (column_rank k) && eqb x.1 j) ≡ q → not (eq (eval R S x.2) nought) ≡ t
        → when t (when (p && q) (eval R S x.2 ∷ [])) ++ at_column (eval R S) k j m ≡ at_column (eval R S) k j (when p (x ∷ []) ++ m)
    unfolding at_column when
    one_turn t true q k j x m e f = rw (e, f) (go t q)
      where
        go : (t q : Bool) → when t (when q (eval R S x.2 ∷ [])) ++ at_column (eval R S) k j m ≡ when q (when t (eval R S x.2 ∷ [])) ++ at_column (eval R S) k j m
        go true true = refl
        go true false = refl
        go false true = refl
        go false false = refl
    one_turn true false q k j x m e f = refl
    one_turn false false q k j x m e f = refl

    pub a_values : (p : OpfRow) (i : ℕ) (k : OpfColumn) (j : ℕ) → i < row_size c a p → j < column_size c a k → {l : List Coefficient} → All Inside l
        → values_at (triplets c a R S l) (row_start c a p + i, column_start c a k + j) ≡ at_column (eval R S) k j (entry_in_row p i l)
    unfolding triplets_by entry_in_row at_column values_at
    a_values p i k j hi hj done = refl
    a_values p i k j hi hj (◌&◌ {x = x} {xs = xs} h hs) =
        at_head (not (eq (eval R S x.what) nought)) (row_start c a x.row.0 + x.row.1) (column_start c a x.col.0 + x.col.1) (eval R S x.what)
        (triplets c a R S xs) (row_start c a p + i, column_start c a k + j)
        ∙ rw (row_same x.row.0 p x.row.1 i h.0 hi, column_same x.col.0 k x.col.1 j h.1 hj, a_values p i k j hi hj hs)
        (one_turn (not (eq (eval R S x.what) nought)) (eqb (row_rank x.row.0) (row_rank p) && eqb x.row.1 i) (eqb (column_rank x.col.0) (column_rank k) && eqb x.col.1 j)
        k j (x.col.0, x.col.1, x.what) (entry_in_row p i xs) refl refl)
