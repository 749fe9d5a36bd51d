-- A fact of every element goes over appended lists, loops and tests, and from fact to fact.
-- Main results: `all_append`, `all_each`, `all_when`, `all_map`. Assumes nothing.
use mathlib.Core.Bool.{Bool, true, false}
use mathlib.Core.List.{List, ◌++◌}
use Prim.Native.Nat.{ℕ, zero, suc, ◌<◌}
use native.Mathlib.Omega.{arith}
use Rattle.sequence.specs.Lists.{each, when}
use Rattle.sequence.specs.Facts.{All}
use Rattle.sequence.specs.Facts.All.{done, ◌&◌}

module _ {A : Type 0} {P : A → Type 0} where
  pub all_append : {l r : List A} → All P l → All P r → All P (l ++ r)
  all_append done q = q
  all_append (p & ps) q = p & all_append ps q

  pub all_each : (n : ℕ) {f : ℕ → List A} → ((i : ℕ) → i < n → All P (f i)) → All P (each n f)
  unfolding each
  all_each zero h = done
  all_each (suc n) h = all_append (all_each n (λ i g. h i (omega arith))) (h n (omega arith))

  pub all_when : (b : Bool) {l : List A} → All P l → All P (when b l)
  unfolding when
  all_when true h = h
  all_when false h = done

module _ {A : Type 0} {P Q : A → Type 0} (f : (x : A) → P x → Q x) where
  pub all_map : {l : List A} → All P l → All Q l
  all_map done = done
  all_map (p & ps) = f _ p & all_map ps
