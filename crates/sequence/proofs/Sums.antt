-- A sum over a range, as an iterator makes it of what a closure gives at each index: its value, and that it fits.
-- Main results: `range_sum`, `range_fits`. Assumes nothing.
use mathlib.Core.Path.{◌≡◌, refl, sym, ap, ◌∙◌}
use mathlib.Core.List.{List, map}
use Prim.Native.Nat.{ℕ, zero, suc, ◌+◌, ◌<◌}
use native.Mathlib.Numerals.{add-one}
use native.Mathlib.Omega.{arith}
use denote.Param.Members.{Mut}
use Rattle.std.specs.Bool.{⊤}
use Rattle.std.specs.Fn.{Called}
use Rattle.std.specs.List.{fold, sum, range_with_len}
use Rattle.std.specs.Iterator.{Drains}
use Rattle.std.specs.Iterator.Runs.{EachRunFrom}
use Rattle.std.specs.Iterator.Adapters.{map_source, map_callee}
use Rattle.std.specs.declared.iter.Map.{Map}
use Rattle.std.specs.declared.ops.Range.{Range}
use Rattle.std.proofs.iter.Yields.{nat_range_steps}
use Rattle.std.proofs.lemmas.Iterator.{YieldsList, YieldsList-from_range, YieldsList-from_map, maps}
use Rattle.std.proofs.lemmas.Iterator.Consumers.{sum_from_yields_List, fits_from_yields_list}
use Rattle.std.proofs.lemmas.List.FromFn.{sum_by-map-range_with_len_more}
use Rattle.sequence.specs.Lists.{before}

before_range : (f : ℕ → ℕ) (n : ℕ) → sum (map f (range_with_len 0 n)) ≡ before f n
unfolding before
before_range f zero = refl
before_range f (suc n) =
    ap (λ (k : ℕ). sum (map f (range_with_len 0 k))) (sym (add-one n))
    ∙ sum_by-map-range_with_len_more (λ x. x) f 0 n n (omega arith)
    ∙ ap (λ (k : ℕ). k + f n) (before_range f n)

-- the closure gives h at each index below n
module _ {F : Type 0} {s : Map (Range ℕ) F} {f : F} (g : Mut F (ℕ × Unit {0}) ℕ) (h : ℕ → ℕ) (n : ℕ) (source : map_source s ≡ record { start = 0; end = n }) (closure : map_callee s ≡ f) (gives : (x r : ℕ) (q : F) → Called g f (x, tt) r q → (q ≡ f) × (r ≡ h x)) where
  road : YieldsList (maps nat_range_steps g) (λ r. r) s (map h (range_with_len 0 n))
  road = YieldsList-from_map g h (YieldsList-from_range 0 n n source (omega arith)) closure gives

  pub range_sum : (r : ℕ) → ((xs : List ℕ) × (⊤ → Drains (maps nat_range_steps g) s xs) × (r ≡ fold (λ a x. a + x) 0 xs)) → r ≡ before h n
  range_sum r ran = sum_from_yields_List s r ran road ∙ before_range h n

  pub range_fits : (top : ℕ) → before h n < top → EachRunFrom (maps nat_range_steps g) s (λ p. fold (λ a x. a + x) 0 p.items < top)
  range_fits top l = fits_from_yields_list s top road (omega (arith, before_range h n))
