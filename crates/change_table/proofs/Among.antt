-- Whether a cell is in a list of cells: in one cell, and in two lists joined. Main results: `among_app`, `joined`. Assumes nothing.
use mathlib.Core.Path.{◌≡◌, refl, sym, ap, ◌∙◌}
use mathlib.Core.Bool.{Bool, true, false, ◌||◌, or_assoc, or-false}
use mathlib.Core.Logic.{◌⊎◌, inl, inr}
use mathlib.Core.List.{List, [], ◌∷◌, ◌++◌}
use lib.Dec.{eqb}
use borrow.Author.Tests.{eq-eqb, ne_eqb}
use Rattle.change_table.specs.Table.{Cell, same_cell, among}

pub either_true : (a b : Bool) → (a || b) ≡ true → (a ≡ true) ⊎ (b ≡ true)
either_true true b h = inl refl
either_true false b h = inr h

pub among_app : (x : Cell) (us vs : List Cell) → among x (us ++ vs) ≡ (among x us || among x vs)
unfolding among
among_app x [] vs = refl
among_app x (u ∷ us) vs =
    ap (λ (t : Bool). same_cell x u || t) (among_app x us vs) ∙ sym (or_assoc (same_cell x u) (among x us) (among x vs))

-- two tests, of which either may hold
pub joined : {r a b : Bool} (x : Cell) (us vs : List Cell) → r ≡ (a || b) → a ≡ among x us → b ≡ among x vs → r ≡ among x (us ++ vs)
joined x us vs e p q = e ∙ rw (p, q) (sym (among_app x us vs))

-- ---- one cell, whose row is tested first

pub in_row : (x u : Cell) → x.0 ≡ u.0 → eqb x.1 u.1 ≡ among x (u ∷ [])
unfolding among
in_row x u e = rw (eq-eqb x.0 u.0 e) (sym (or-false (eqb x.1 u.1)))

pub off_row : (x u : Cell) → (x.0 ≡ u.0 → ⊥) → eqb x.0 u.0 ≡ among x (u ∷ [])
unfolding among
off_row x u h = rw (ne_eqb x.0 u.0 h)
