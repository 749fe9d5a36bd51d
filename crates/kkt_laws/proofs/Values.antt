-- No triplet of the list is zero; and a bus that is listed twice as reference has one entry in its own va column.
-- Main results: `list_nonzero`, `one_entry`. Assumes nothing.
use mathlib.Core.Path.{◌≡◌, refl, ap, ◌∙◌}
use mathlib.Core.Bool.{Bool, true, false, not, ◌&&◌, ◌||◌}
use mathlib.Core.List.{List, [], ◌∷◌}
use Prim.Native.Nat.{ℕ, zero, suc, ◌+◌, ◌≤◌}
use native.Mathlib.Omega.{arith}
use lib.ListN.{length, length-append}
use lib.Dec.{eqb}
use lib.Ieee.{Float}
use Rattle.sequence.specs.Lists.{some, each, when}
use Rattle.sequence.specs.Facts.{All}
use Rattle.sequence.specs.Facts.All.{done, ◌&◌}
use Rattle.network.specs.declared.Counts.{Counts}
use Rattle.network.specs.declared.Part.TheVariants.{References}
use Rattle.network.specs.Layout.{wire, reading}
use Rattle.solution.specs.Sheet.{pieces, solved}
use Rattle.kkt_index.specs.Index.{linear_row_count, block_start}
use Rattle.kkt.specs.Slots.{Slot, Rule, reference_slot, site_of, slots}
use Rattle.kkt.specs.Slots.Rule.{first_place}
use Rattle.kkt.specs.Matrix.{kkt_matrix_list}
use Rattle.kkt_laws.specs.Laws.{NotZero}
use Rattle.kkt_laws.proofs.Sums.{bit, bit_le}
use Rattle.kkt_laws.proofs.Every.{emitted_all}

module _ {A : Type 0} {P : A → Type 0} (h : (x : A) → P x) where
  always : (l : List A) → All P l
  always [] = done
  always (x ∷ xs) = h x & always xs

pub list_nonzero : (rule : Rule) (c : Counts) (w : List ℕ) (r : List Float) (ti : List ℕ) (tc s : List Float) → All NotZero (kkt_matrix_list rule c w r ti tc s)
unfolding kkt_matrix_list
list_nonzero rule c w r ti tc s =
    emitted_all (block_start c (pieces c w) (linear_row_count c w r)) (reading c r) (solved c (pieces c w) s) NotZero (always (λ x h. h) (slots (site_of rule c w r ti tc)))

-- ---- the places of a reference

module _ (c : Counts) (w : List ℕ) (j : ℕ) where
  abbrev met : ℕ → Bool
  met k = eqb (wire c w References k) j

  -- one entry, where a place has been met
  entries_are : (n : ℕ) → length (each n (reference_slot first_place c w j)) ≡ bit (some met n)
  unfolding each some when reference_slot
  entries_are zero = refl
  entries_are (suc n) =
      length-append (each n (reference_slot first_place c w j)) (reference_slot first_place c w j n) ∙ ap (λ (k : ℕ). k + length (reference_slot first_place c w j n)) (entries_are n) ∙ go (some met n) (met n) _
    where
      go : (a b : Bool) (x : Slot) → bit a + length (when (b && not a) (x ∷ [])) ≡ bit (a || b)
      go true true x = refl
      go true false x = refl
      go false true x = refl
      go false false x = refl

-- "one entry in its own va column, for its first place"
pub one_entry : (c : Counts) (w : List ℕ) (j : ℕ) → length (each c.references (reference_slot first_place c w j)) ≤ 1
one_entry c w j = omega (arith, entries_are c w j c.references, bit_le (some (met c w j) c.references))
