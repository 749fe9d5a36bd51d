-- A linear row's value over two parts of a solution sheet, its flows and its dispatch, is the definition's over the sheet.
-- Main results: `part_at`, `flows_length`, `powers_length`, `row_is`. Assumes nothing.
use mathlib.Core.Path.{◌≡◌, refl, ap, ◌∙◌}
use mathlib.Core.List.{List}
use Prim.Native.Nat.{ℕ, zero, suc, ◌+◌, ◌-◌, ◌≤◌, ◌<◌}
use native.Mathlib.Omega.{arith}
use lib.ListN.{length, get_or, take, drop, length-take, length-drop}
use lib.Seq.{get_or-take, get_or-drop}
use lib.Ieee.{Float, nan}
use Rattle.sequence.specs.Lists.{turns}
use Rattle.network.specs.declared.Counts.{Counts}
use Rattle.network.specs.declared.Field.{Field}
use Rattle.network.specs.Numbers.{Termed}
use Rattle.model.specs.Quantities.{term_sum, evaluate}
use Rattle.solution.specs.declared.Entry.{Entry}
use Rattle.solution.specs.declared.Entry.TheVariants.{Pg, Flow}
use Rattle.solution.specs.Sheet.{entry_start, solved, SheetLaid}
use Rattle.snapping.specs.Expr.{eval}
use Rattle.snapping.specs.Snap.{dot, row_value}

-- the words of a list from a place to an end
abbrev pub part : List Float → ℕ → ℕ → List Float
part xs a e = take (e - a) (drop a xs)

pub part_length : (xs : List Float) (a e n : ℕ) → a + n ≡ e → e ≤ length xs → length (part xs a e) ≡ n
part_length xs a e n h l = simp (length-take, length-drop) (omega arith)

-- a word of a part is the list's at the shifted place
pub part_at : (xs : List Float) (a e i : ℕ) → a + i < e → get_or (part xs a e) i nan ≡ get_or xs (a + i) nan
part_at xs a e i h = get_or-take (e - a) (drop a xs) i nan (omega arith) ∙ get_or-drop a xs i nan

-- a sheet's flows, and its dispatch
abbrev pub flows : Counts → List Float → List Float
flows c s = part s (c.buses + c.generators) (c.buses + c.generators + c.branches)

abbrev pub powers : Counts → List Float → List Float
powers c s = part s c.buses (c.buses + c.generators)

module _ {c : Counts} {p : ℕ} {s : List Float} (h : SheetLaid c p s) where
  pub flows_length : length (flows c s) ≡ c.branches
  flows_length = part_length s (c.buses + c.generators) (c.buses + c.generators + c.branches) c.branches refl (omega (arith, h.long))

  pub powers_length : length (powers c s) ≡ c.generators
  powers_length = part_length s c.buses (c.buses + c.generators) c.generators refl (omega (arith, h.long))

module _ (R : Field → ℕ → Float) (c : Counts) (p : ℕ) (s : List Float) where
  -- a sum of terms over words that are an entry's
  sum_is : (ti : List ℕ) (tc xs : List Float) (e : Entry) (size at n : ℕ)
      → ((i : ℕ) → i < size → get_or xs i nan ≡ solved c p s e i) → ((t : ℕ) → t < n → get_or ti (at + t) 0 < size)
      → term_sum ti tc xs at n ≡ eval R (solved c p s) (dot ti tc e at n)
  unfolding term_sum turns dot
  sum_is ti tc xs e size at zero read h = refl
  sum_is ti tc xs e size at (suc n) read h =
      rw (sum_is ti tc xs e size at n read (λ t l. h t (omega arith)), read (get_or ti (at + n) 0) (h n (omega arith)))

  flow_at : (i : ℕ) → i < c.branches → get_or (flows c s) i nan ≡ solved c p s Flow i
  unfolding solved entry_start
  flow_at i h =
      part_at s (c.buses + c.generators) (c.buses + c.generators + c.branches) i (omega arith) ∙ ap (λ (j : ℕ). get_or s j nan) (omega arith)

  power_at : (i : ℕ) → i < c.generators → get_or (powers c s) i nan ≡ solved c p s Pg i
  unfolding solved entry_start
  power_at i h = part_at s c.buses (c.buses + c.generators) i (omega arith) ∙ ap (λ (j : ℕ). get_or s j nan) (omega arith)

  pub row_is : {w ti : List ℕ} {tc : List Float} (q : ℕ) → Termed c w ti tc → q < c.rows
      → evaluate c w ti tc q (flows c s) (powers c s) ≡ eval R (solved c p s) (row_value c w ti tc q)
  unfolding evaluate
  row_is {ti = ti} {tc} q h l =
      rw (sum_is ti tc (flows c s) Flow c.branches _ _ flow_at (λ t k. h.flow_terms q t l k), sum_is ti tc (powers c s) Pg c.generators _ _ power_at (λ t k. h.generation_terms q t l k))
