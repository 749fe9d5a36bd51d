-- A test that is made of each cell of a list. Main result: `tested`. Assumes nothing.
use mathlib.Core.Path.{◌≡◌, refl, ap}
use mathlib.Core.Bool.{Bool, ◌||◌}
use mathlib.Core.List.{List, [], ◌∷◌}
use Prim.Native.Nat.{ℕ}
use Rattle.std.specs.List.{list_any}
use Rattle.kkt_index.specs.declared.Block.{Block}
use Rattle.change_table.specs.Table.{Pair, Cell, cell_at, cells_at, same_cell, among}

pub tested : (x : Cell) (f : Block → ℕ) (ps : List Pair) → list_any (λ (p : Pair). same_cell x (cell_at f p)) ps ≡ among x (cells_at f ps)
unfolding among
tested x f [] = refl
tested x f (p ∷ ps) = ap (λ (b : Bool). same_cell x (cell_at f p) || b) (tested x f ps)
