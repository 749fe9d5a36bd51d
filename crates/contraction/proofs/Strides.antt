-- Words of a sheet with k words to a row, stored column by column: what the first c columns leave is what rows of c words leave.
-- Main results: `rows_none`, `rows_more`, `rows_front`. Assumes nothing.
use mathlib.Core.Path.{◌≡◌, refl, ◌∙◌}
use mathlib.Core.List.{List}
use Prim.Native.Nat.{ℕ, zero, suc, ◌+◌, ◌*◌, ◌≤◌, ◌<◌}
use native.Mathlib.Nat.{zero-mul, suc-mul}
use native.Mathlib.Numerals.{add-one}
use native.Mathlib.Omega.{arith}
use lib.ListN.{length, set}
use lib.Seq.{set_comm}
use Rattle.sequence.specs.Lists.{each, made, turns, front}
use Rattle.sequence.proofs.Lists.{turns_more, made_length}
use Rattle.sens_snap.proofs.Stores.{Stored, none, more, Runs, no_run, run_front, fronted}
use Rattle.contraction.proofs.Columns.{inside}

module _ {A : Type 0} (w : ℕ → ℕ → A) (k : ℕ) where
  -- word c of the first n rows
  abbrev pub down : ℕ → ℕ → List A → List A
  down c n l = turns (λ o l. set l (o * k + c) (w o c)) l n

  -- the first c words of row o
  abbrev pub across : ℕ → ℕ → List A → List A
  across o c l = turns (λ c l. set l (o * k + c) (w o c)) l c

  -- the first c words of each of the first n rows
  abbrev pub rows : ℕ → ℕ → List A → List A
  rows n c l = turns (λ o l. across o c l) l n

  down_set : (c n : ℕ) (l : List A) (i : ℕ) (v : A) → ((o : ℕ) → o < n → i ≡ o * k + c → ⊥) → down c n (set l i v) ≡ set (down c n l) i v
  unfolding turns
  down_set c zero l i v h = refl
  down_set c (suc n) l i v h = rw (down_set c n l i v (λ o q. h o (omega arith))) (set_comm (down c n l) i (n * k + c) v (w n c) (h n (omega arith)))

  -- a column of the rows before row n, and row n
  down_across : (c n j : ℕ) (l : List A) → c < k → down c n (across n j l) ≡ across n j (down c n l)
  unfolding turns
  down_across c n zero l h = refl
  down_across c n (suc j) l h =
      rw (down_set c n (across n j l) (n * k + j) (w n j) (λ o q e. omega (arith, inside k o n (n * k) q (omega arith))), down_across c n j l h)

  pub rows_none : (n : ℕ) (l : List A) → l ≡ rows n 0 l
  unfolding turns
  rows_none zero l = refl
  rows_none (suc n) l = rows_none n l

  -- one column more
  pub rows_more : (c n : ℕ) (l : List A) → c < k → down c n (rows n c l) ≡ rows n (c + 1) l
  unfolding turns
  rows_more c zero l h = refl
  rows_more c (suc n) l h = rw (down_across c n c (rows n c l) h, rows_more c n l h, turns_more)

  across_stored : (o c : ℕ) (l : List A) → Stored (w o) (o * k) c l (across o c l)
  unfolding turns
  across_stored o zero l = none (w o) (o * k) l
  across_stored o (suc c) l = rw add-one at (more (w o c) (across_stored o c l) refl)

  rows_run : (n : ℕ) (l : List A) → Runs (λ o. made (w o) k) 0 n (n * k) l (rows n k l)
  unfolding turns
  rows_run zero l = rw zero-mul (no_run _ 0 l)
  rows_run (suc n) l = rw (suc-mul, ← add-one) (run_front k (rows_run n l) (made_length (w n) k) (across_stored n k (rows n k l)).is)

  pub rows_front : (n : ℕ) (l : List A) → n * k ≤ length l → rows n k l ≡ front (each n (λ o. made (w o) k)) l
  rows_front n l h = let r = rows_run n l in r.is ∙ fronted _ l (rw r.long h)
