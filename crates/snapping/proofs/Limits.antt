-- The doubles that a row's limits carry are the row's readings. Main results: `Slots`, `slots`. Assumes nothing.
use mathlib.Core.Path.{◌≡◌, refl, sym, ◌∙◌, subst}
use mathlib.Core.Bool.{Bool, true, false, cond}
use mathlib.Core.List.{List}
use Prim.Native.Nat.{ℕ}
use lib.Dec.{eqb}
use lib.Ieee.{Float, eq}
use Rattle.network.specs.declared.Counts.{Counts}
use Rattle.network.specs.declared.Part.TheVariants.{Masks}
use Rattle.network.specs.declared.Field.TheVariants.{UpperMw, LowerMw}
use Rattle.network.specs.Layout.{wire, reading}
use Rattle.model.specs.declared.RowLimits.{RowLimits}
use Rattle.model.specs.declared.RowLimits.TheVariants.{None, Upper, Lower, Both, Equal}
use Rattle.model.specs.Rows.{both_of, row_limits}

-- what limits carry, of an upper and a lower slot
abbrev pub Slots : RowLimits → Float → Float → Type 0
Slots None x y = Unit {0}
Slots (Upper u) x y = u ≡ x
Slots (Lower l) x y = l ≡ y
Slots (Both u l) x y = (u ≡ x) × (l ≡ y)
Slots (Equal l) x y = l ≡ y

slots_of : (a b d e : Bool) (x y : Float) → Slots (cond a (Upper x) (cond b (Lower y) (cond d (both_of e x y) None))) x y
slots_of true b d e x y = refl
slots_of false true d e x y = refl
slots_of false false true true x y = refl
slots_of false false true false x y = (refl, refl)
slots_of false false false e x y = tt

-- a row's limits, whatever they are found to be
pub slots : (c : Counts) (w : List ℕ) (r : List Float) (q : ℕ) {l v : RowLimits} → l ≡ row_limits c w r q → l ≡ v → Slots v (reading c r UpperMw q) (reading c r LowerMw q)
unfolding row_limits
slots c w r q e h =
    subst (λ (v : RowLimits). Slots v (reading c r UpperMw q) (reading c r LowerMw q)) (sym e ∙ h)
    (slots_of (eqb (wire c w Masks q) 1) (eqb (wire c w Masks q) 2) (eqb (wire c w Masks q) 3) (eq (reading c r LowerMw q) (reading c r UpperMw q)) (reading c r UpperMw q) (reading c r LowerMw q))
