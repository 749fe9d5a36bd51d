-- A selector's tests beside the network's: one law for each return, what is said where no test holds, and sizes and values that are only asked where the network's sizes hold.
-- Main results: `auto_is`, `selector_stands`, `selector_auto`, `selector_out`, `selector_passes`, `selected`, `dim_in`, `own_sides`. Assumes nothing.
use mathlib.Core.Path.{◌≡◌, refl, sym, ◌∙◌}
use mathlib.Core.Bool.{Bool, true, false, cond, not, ◌&&◌}
use mathlib.Core.List.{[], ◌∷◌}
use Prim.Native.Nat.{ℕ}
use native.Mathlib.Omega.{arith}
use lib.ListN.{length, get_or}
use denote.Enum.Bare.{sameb}
use borrow.Author.Tests.{ltb-true}
use Rattle.sequence.specs.Answers.{test, first_of}
use Rattle.sequence.proofs.Lists.{and_left, and_right, every_at}
use Rattle.sequence.proofs.Answers.{no_test, passed, holding}
use Rattle.network.specs.Layout.{counts_of}
use Rattle.network.specs.Numbers.{Network, sizes_hold, wiring_holds, readings_hold, network_tests}
use Rattle.network.proofs.Tests.{number_size}
use Rattle.model.proofs.Calls.{network_stands, network_passes, own_sizes, both_equal}
use Rattle.network.specs.declared.site.Lent.{Lent}
use Rattle.network.specs.declared.site.Site.{Site}
use Rattle.network.specs.Sites.{network_in, SiteOf}
use Rattle.solution.specs.Sheet.{pieces}
use Rattle.kkt_index.specs.Index.{linear_row_count, dim}
use Rattle.interface.specs.declared.Mode.{Mode}
use Rattle.interface.specs.declared.Mode.TheVariants.{Forward, Adjoint, Auto}
use Rattle.interface.specs.contracts.Mode.{the_type}
use Rattle.contraction.specs.Contraction.{Selector, elements, entry_start, Entered}
use Rattle.selector_check.specs.Tests.{dim_of, selector_long, selector_holds, is_auto, rows_below, selector_tests, Selected}

-- a selector whose sizes hold and whose rows are below dim
pub entered : (S : Selector) (dim : ℕ) → selector_long S ≡ true → rows_below dim S.rows ≡ true → Entered S dim
unfolding selector_long rows_below
entered S dim l b =
    let e = both_equal (length S.rows) (length S.weights) (entry_start S (elements S)) (length S.rows) l in
    record { long = sym e.0; sum = e.1; below = λ t h. ltb-true (get_or S.rows t 0) dim (every_at _ (length S.rows) b t h) }

-- the derived test of the mode
pub auto_is : (mode : Mode) {b : Bool} → b ≡ sameb the_type mode Auto → b ≡ is_auto mode
auto_is Forward e = e
auto_is Adjoint e = e
auto_is Auto e = e

-- the network's tests with the selector's, as the code puts them together
module _ (N : Network) (sizes values : Bool) (mode : Mode) (S : Selector) {i h : Bool} (p : i ≡ selector_long S) (q : h ≡ selector_holds S) {k : ℕ} (e : k ≡ first_of (network_tests N (i && sizes) (h && values))) where
  own : k ≡ first_of (network_tests N (selector_long S && sizes) (selector_holds S && values))
  own = rw (← p, ← q) e

  pub selector_stands : (k ≡ 0 → ⊥) → k ≡ first_of (selector_tests N sizes values mode S)
  selector_stands z = sym (network_stands N (selector_long S && sizes) (selector_holds S && values) _ own z)

  passes : k ≡ 0 → first_of (selector_tests N sizes values mode S) ≡ first_of (test 4 (is_auto mode) ∷ test 5 (not (rows_below (dim_of N) S.rows)) ∷ [])
  passes z = network_passes N (selector_long S && sizes) (selector_holds S && values) _ own z

  pub selector_auto : k ≡ 0 → is_auto mode ≡ true → 4 ≡ first_of (selector_tests N sizes values mode S)
  selector_auto z a = sym (passes z ∙ holding 4 _ _ a)

  sized : k ≡ 0 → sizes_hold N ≡ true
  sized z = go (sizes_hold N) refl
    where
      go : (b : Bool) → sizes_hold N ≡ b → b ≡ true
      go true f = refl
      go false f = let w = number_size N (selector_long S && sizes) (selector_holds S && values) f in absurd (omega (arith, own, w))

  -- the rows below the system's dimension, as the code finds it
  module _ (z : k ≡ 0) (a : is_auto mode ≡ false) {d : ℕ} {b : Bool} (f : d ≡ dim_of N) (g : b ≡ rows_below d S.rows) where
    pub selector_out : b ≡ false → 5 ≡ first_of (selector_tests N sizes values mode S)
    selector_out c =
        let r : not (rows_below (dim_of N) S.rows) ≡ true = rw (← f, ← g, c) in
        sym (passes z ∙ passed 4 _ _ a ∙ holding 5 _ [] r)

    pub selector_passes : b ≡ true → 0 ≡ first_of (selector_tests N sizes values mode S)
    selector_passes c =
        let r : not (rows_below (dim_of N) S.rows) ≡ false = rw (← f, ← g, c) in
        sym (passes z ∙ passed 4 _ _ a ∙ passed 5 _ [] r ∙ no_test)

    pub selected : b ≡ true → Selected N sizes mode S
    selected c =
        let l = own_sizes N (selector_long S && sizes) (selector_holds S && values) own z in
        let r : rows_below (dim_of N) S.rows ≡ true = rw (← f, ← g) c in
        record { sized = sized z; own = and_right (selector_long S) sizes l; resolved = a; entered = entered S (dim_of N) (and_left (selector_long S) sizes l) r }

-- the dimension of a site is its network's
pub dim_in : {l : Lent} {s : Site} {d : ℕ} → SiteOf l s → let p = s.grid.plan in d ≡ dim p.counts (pieces p.counts p.wiring.now) (linear_row_count p.counts p.wiring.now p.readings.now) → d ≡ dim_of (network_in l)
dim_in o e = rw (o.counts, o.wiring, o.readings) at e

-- ---- a call's own sizes and values

five : (h l b w r g v : Bool) (k : ℕ) → ℕ
five h l b w r g v k = cond (not (h && (l && b))) 1 (cond (not w) 2 (cond (not (r && (g && v))) 3 k))

asked : (h l b b' w r g v v' : Bool) (k : ℕ) → (h ≡ true → b ≡ b') → (h ≡ true → b' ≡ true → v ≡ v') → five h l b w r g v k ≡ five h l b' w r g v' k
unfolding five
asked false l b b' w r g v v' k p q = refl
asked true false b b' w r g v v' k p q = refl
asked true true b false w r g v v' k p q = rw (p refl)
asked true true b true w r g v v' k p q = rw (p refl, q refl refl)

-- where the network's sizes do not hold, the call's own sizes say nothing; where these do not, its values don't
pub own_sides : (N : Network) (mode : Mode) (S : Selector) {b b' v v' : Bool} → (sizes_hold N ≡ true → b ≡ b') → (sizes_hold N ≡ true → b' ≡ true → v ≡ v')
    → first_of (selector_tests N b v mode S) ≡ first_of (selector_tests N b' v' mode S)
unfolding five first_of
own_sides N mode S {b} {b'} {v} {v'} p q =
    asked (sizes_hold N) (selector_long S) b b' (wiring_holds (counts_of N.wiring) N.wiring N.indexes) (readings_hold (counts_of N.wiring) N) (selector_holds S) v v'
    (first_of (test 4 (is_auto mode) ∷ test 5 (not (rows_below (dim_of N) S.rows)) ∷ [])) p q
