-- Branches by the buses at their ends, and a row of the susceptance matrix by column, as the code makes it.
-- Main definitions: `end_at`, `Chains`, `RowAt`, `RowHeld`, `cell_at`. Assumes nothing.
use Rattle.std.specs.Prelude.{ℕ, ◌+◌, ◌*◌, ◌/◌, ◌%◌, ◌≤◌, ◌<◌, ◌≡◌, Bool, cond, not, ◌||◌, List, length, get_or, set, eqb, Float}
use Rattle.std.specs.Float.{nan}
use Rattle.float64.specs.Values.{nought, add_at, sub_at}
use Rattle.sequence.specs.Lists.{turns}
use Rattle.sequence.specs.Links.{Links}
use Rattle.sequence.specs.declared.Triplet.{Triplet}
use Rattle.sequence.specs.Sheets.{item, emit}
use Rattle.network.specs.declared.Counts.{Counts}
use Rattle.network.specs.declared.Part.TheVariants.{BrFrom, BrTo}
use Rattle.network.specs.Layout.{wire}
use Rattle.susceptance.specs.Susceptance.{weight, is_cell, cell_turn, susceptance, touches, touched}

-- ---- the ends of the branches: from at 2e, to at 2e + 1

unfoldable pub end_at : Counts → List ℕ → ℕ → ℕ
end_at c w x = cond (eqb (x % 2) 0) (wire c w BrFrom (x / 2)) (wire c w BrTo (x / 2))

-- the chains of the ends by bus, and the room that they have
pub record Chains (c : Counts) (w head next : List ℕ) : Type 0 where
  pub links : Links (end_at c w) c.buses (2 * c.branches) 0 head next
  pub heads_fit : c.buses ≤ length head
  pub nexts_fit : 2 * c.branches ≤ length next

-- whether end x of bus i's chain takes its branch, which is from p: a branch whose ends are both i is taken once
abbrev pub takes : ℕ → ℕ → ℕ → Bool
takes i x p = eqb (x % 2) 0 || not (eqb i p)

module _ {A : Type 0} where
  -- the turn of end x's branch
  unfoldable pub end_turn : Counts → List ℕ → ℕ → (ℕ → A → A) → ℕ → A → A
  end_turn c w i turn x a = cond (takes i x (wire c w BrFrom (x / 2))) (turn (x / 2) a) a

  -- every end, where it is bus i's
  abbrev pub walk_turn : Counts → List ℕ → ℕ → (ℕ → A → A) → ℕ → A → A
  walk_turn c w i turn x a = cond (eqb i (end_at c w x)) (end_turn c w i turn x a) a

-- ---- row i, by column: the sums; and the marks, first of each block of 16 columns, then of each column

-- what a branch from p to q of weight x, other than zero, adds at cell (i, j)
abbrev pub cell_sum : ℕ → ℕ → ℕ → ℕ → Float → Float → Float
cell_sum i j p q x a = sub_at (is_cell i j q p) x (sub_at (is_cell i j p q) x (add_at (is_cell i j q q) x (add_at (is_cell i j p p) x a)))

unfoldable pub cell_mark : ℕ → ℕ → ℕ → ℕ → Float → ℕ → ℕ
cell_mark i j p q x k = cond (touches i j p q x) 1 k

abbrev pub sum_turn : Counts → List ℕ → List Float → ℕ → ℕ → ℕ → Float → Float
sum_turn c w r i j e a = cell_turn i j (wire c w BrFrom e) (wire c w BrTo e) (weight c r e) a

abbrev pub mark_turn : Counts → List ℕ → List Float → ℕ → ℕ → ℕ → ℕ → ℕ
mark_turn c w r i j e k = cell_mark i j (wire c w BrFrom e) (wire c w BrTo e) (weight c r e) k

abbrev pub mark_at : List ℕ → ℕ → ℕ
mark_at hit j = get_or hit (16 + j) 0

-- of n columns, none is marked in a block that is not
abbrev pub Covers : ℕ → List ℕ → Type 0
Covers n hit = (j : ℕ) → j < n → get_or hit (j / 16) 0 ≡ 0 → mark_at hit j ≡ 0

-- columns p and q, and their blocks
unfoldable pub marked : ℕ → ℕ → List ℕ → List ℕ
marked p q hit = set (set (set (set hit (16 + p) 1) (16 + q) 1) (p / 16) 1) (q / 16) 1

-- the room that n columns have
pub record RowRoom (n : ℕ) (acc : List Float) (hit : List ℕ) : Type 0 where
  pub few : n ≤ 256
  pub in_acc : n ≤ length acc
  pub in_hit : 16 + n ≤ length hit

-- a step at every column
pub record Stepped (sum : ℕ → Float → Float) (mark : ℕ → ℕ → ℕ) (acc : List Float) (hit : List ℕ) (acc' : List Float) (hit' : List ℕ) : Type 0 where
  pub sums : (j : ℕ) → get_or acc' j nan ≡ sum j (get_or acc j nan)
  pub marks : (j : ℕ) → mark_at hit' j ≡ mark j (mark_at hit j)
  pub covers : (n : ℕ) → n ≤ 256 → Covers n hit → Covers n hit'

abbrev pub EndStepped : Counts → List ℕ → List Float → ℕ → ℕ → List Float → List ℕ → List Float → List ℕ → Type 0
EndStepped c w r i x acc hit acc' hit' =
    Stepped (λ j. end_turn c w i (sum_turn c w r i j) x) (λ j. end_turn c w i (mark_turn c w r i j) x) acc hit acc' hit'

-- no branch yet
pub record RowBlank (n : ℕ) (acc : List Float) (hit : List ℕ) : Type 0 where
  pub sums : (j : ℕ) → j < n → get_or acc j nan ≡ nought
  pub marks : (j : ℕ) → j < n → mark_at hit j ≡ 0

-- the row after the ends below x
pub record RowAt (c : Counts) (w : List ℕ) (r : List Float) (i x : ℕ) (acc : List Float) (hit : List ℕ) : Type 0 where
  pub sums : (j : ℕ) → j < c.buses → get_or acc j nan ≡ turns (walk_turn c w i (sum_turn c w r i j)) nought x
  pub marks : (j : ℕ) → j < c.buses → mark_at hit j ≡ turns (walk_turn c w i (mark_turn c w r i j)) 0 x
  pub covers : Covers c.buses hit

-- the row as the definition has it
pub record RowHeld (c : Counts) (w : List ℕ) (r : List Float) (i : ℕ) (acc : List Float) (hit : List ℕ) : Type 0 where
  pub sums : (j : ℕ) → j < c.buses → get_or acc j nan ≡ susceptance c w r i j
  pub marks : (j : ℕ) → j < c.buses → mark_at hit j ≡ cond (touched c w r i j) 1 0
  pub covers : Covers c.buses hit

-- cell j of row i, of its sum and its mark
unfoldable pub cell_at : List Float → List ℕ → ℕ → ℕ → List Triplet
cell_at acc hit i j = emit (item (not (eqb (mark_at hit j) 0)) i j (get_or acc j nan))
