-- An expression's value depends on no reading that it does not name.
-- Main results: `agree`, `weaken`. Assumes nothing.
use Prim.Native.Nat.{ℕ}
use mathlib.Core.Path.{◌≡◌, refl}
use lib.Ieee.{Float}
use Rattle.network.specs.declared.Field.{Field}
use Rattle.solution.specs.declared.Entry.{Entry}
use Rattle.snapping.specs.Expr.{Expr, eval}
use Rattle.snapping.specs.Expr.Expr.{num, rd, sol, minus, positive, ◌⊕◌, ◌⊖◌, ◌⊗◌, ◌⊘◌, choice, if_below, if_at_most, snapped, by_bus, gather}

module _ (P : Field → ℕ → Type 0) where
  -- each reading that an expression names has P
  abbrev pub Within : Expr → Type 0
  Within (num x) = Unit {0}
  Within (rd f i) = P f i
  Within (sol e i) = Unit {0}
  Within (minus x) = Within x
  Within (positive x) = Within x
  Within (x ⊕ y) = Within x × Within y
  Within (x ⊖ y) = Within x × Within y
  Within (x ⊗ y) = Within x × Within y
  Within (x ⊘ y) = Within x × Within y
  Within (choice t x y) = Within x × Within y
  Within (if_below a b x y) = Within a × Within b × Within x × Within y
  Within (if_at_most a b x y) = Within a × Within b × Within x × Within y
  Within (snapped s d) = Within s × Within d
  Within (by_bus k s f z c b) = Within k × Within s × Within f × Within z × Within c × Within b
  Within (gather up w a) = Within w × Within a

module _ (R Q : Field → ℕ → Float) (S : Entry → ℕ → Float) where
  pub agree : (x : Expr) → Within (λ f i. R f i ≡ Q f i) x → eval R S x ≡ eval Q S x
  agree (num x) h = refl
  agree (rd f i) h = h
  agree (sol e i) h = refl
  agree (minus x) h = rw (agree x h)
  agree (positive x) h = rw (agree x h)
  agree (x ⊕ y) h = rw (agree x h.0, agree y h.1)
  agree (x ⊖ y) h = rw (agree x h.0, agree y h.1)
  agree (x ⊗ y) h = rw (agree x h.0, agree y h.1)
  agree (x ⊘ y) h = rw (agree x h.0, agree y h.1)
  agree (choice t x y) h = rw (agree x h.0, agree y h.1)
  agree (if_below a b x y) h = rw (agree a h.0, agree b h.1, agree x h.2, agree y h.3)
  agree (if_at_most a b x y) h = rw (agree a h.0, agree b h.1, agree x h.2, agree y h.3)
  agree (snapped s d) h = rw (agree s h.0, agree d h.1)
  agree (by_bus k s f z c b) h =
      rw (agree k h.0, agree s h.1, agree f h.2, agree z h.3, agree c h.4, agree b h.5)
  agree (gather up w a) h = rw (agree w h.0, agree a h.1)

module _ (P Q : Field → ℕ → Type 0) (t : (f : Field) (i : ℕ) → P f i → Q f i) where
  pub weaken : (x : Expr) → Within P x → Within Q x
  weaken (num x) h = tt
  weaken (rd f i) h = t f i h
  weaken (sol e i) h = tt
  weaken (minus x) h = weaken x h
  weaken (positive x) h = weaken x h
  weaken (x ⊕ y) h = (weaken x h.0, weaken y h.1)
  weaken (x ⊖ y) h = (weaken x h.0, weaken y h.1)
  weaken (x ⊗ y) h = (weaken x h.0, weaken y h.1)
  weaken (x ⊘ y) h = (weaken x h.0, weaken y h.1)
  weaken (choice b x y) h = (weaken x h.0, weaken y h.1)
  weaken (if_below a b x y) h = (weaken a h.0, weaken b h.1, weaken x h.2, weaken y h.3)
  weaken (if_at_most a b x y) h = (weaken a h.0, weaken b h.1, weaken x h.2, weaken y h.3)
  weaken (snapped s d) h = (weaken s h.0, weaken d h.1)
  weaken (by_bus k s f z c b) h =
      (weaken k h.0, weaken s h.1, weaken f h.2, weaken z h.3, weaken c h.4, weaken b h.5)
  weaken (gather up w a) h = (weaken w h.0, weaken a h.1)
