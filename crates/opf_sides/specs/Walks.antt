-- Words that are stored after each other, what one element has in b and in q by value, and the cones by the layout.
-- Main definitions: `Stores`, `Adds`, `listed`, `added_word`, `cones_in`. Assumes nothing.
use Rattle.std.specs.Prelude.{ℕ, ◌+◌, ◌<◌, ◌≡◌, List, [], ◌∷◌, length, Float, Option, Some, None}
use Rattle.std.proofs.lemmas.List.Edits.{sets}
use Rattle.std.specs.Float.{binary64}
use Rattle.std.specs.Float.Ieee.{add}
use Rattle.float64.specs.Values.{nought}
use Rattle.opf_layout.specs.declared.OpfLayout.{OpfLayout}
use Rattle.opf_layout.specs.Layout.{also_if}
use Rattle.opf_sides.specs.declared.Words.{Words}
use Rattle.opf_sides.specs.declared.Sides.{Sides}
use Rattle.opf_sides.specs.declared.Sides.TheVariants.{Nothing, One, Two}

-- new is old with a list stored from a place on, and k is the place after it
pub record Stores {A : Type 0} (l : List A) (at : ℕ) (old new : List A) (k : ℕ) : Type 0 where
  pub is : new ≡ sets old at l
  pub next : k ≡ at + length l
  pub kept : length new ≡ length old

-- a list is written after what stands in a sheet, which is the same lent one
pub record Adds (l : List Float) (old new : Words) : Type 0 where
  pub stores : Stores l old.at old.sheet.now new.sheet.now new.at
  pub same : new.sheet.ghost_name ≡ old.sheet.ghost_name

abbrev pub listed : Sides → List Float
listed Nothing = []
listed (One v) = v ∷ []
listed (Two v u) = v ∷ u ∷ []

-- the word of an element that has a column, which begins at 0
abbrev pub added_word : Option Float → List Float
added_word (Some v) = add binary64 nought v ∷ []
added_word None = []

-- the cones' sizes by the struct
abbrev pub cones_in : OpfLayout → List ℕ
cones_in x = x.n_eq ∷ x.n_ineq ∷ also_if x.active.equalities (also_if x.active.inequalities [])

pub record Narrowed (x : OpfLayout) : Type 0 where
  pub first : x.n_eq < 0x1_0000_0000
  pub second : x.n_ineq < 0x1_0000_0000
  pub third : x.active.equalities < 0x1_0000_0000
  pub fourth : x.active.inequalities < 0x1_0000_0000
