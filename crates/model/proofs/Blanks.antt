-- A sheet whose front was filled with one value. Main result: `blanked`. Assumes nothing.
use mathlib.Core.Path.{◌≡◌, refl}
use mathlib.Core.List.{List, [], ◌∷◌, ◌++◌}
use Prim.Native.Nat.{ℕ, zero, suc, ◌≤◌}
use native.Mathlib.Omega.{arith}
use lib.ListN.{length, take, drop, replicate, length-append, length-drop}
use Rattle.std.proofs.lemmas.List.{length-take, length-replicate}
use Rattle.sequence.specs.Lists.{made, front}
use Rattle.sequence.proofs.Fronts.{Fronted}

module _ {A : Type 0} (v : A) where
  alike_more : (n : ℕ) → replicate n v ++ v ∷ [] ≡ v ∷ replicate n v
  alike_more zero = refl
  alike_more (suc n) = rw (alike_more n)

  alike : (n : ℕ) → made (λ i. v) n ≡ replicate n v
  unfolding made
  alike zero = refl
  alike (suc n) = rw (alike n) (alike_more n)

  pub blanked : (n : ℕ) (xs : List A) {new : List A} → n ≤ length xs → new ≡ replicate (length (take n xs)) v → Fronted (λ i. v) n xs (new ++ drop n xs)
  unfolding front
  blanked n xs h e = let z : length (take n xs) ≡ n = simp length-take (omega arith) in
      record {
        is = rw (e, z, alike n, length-replicate);
        kept = rw (e, z) (simp (length-append, length-replicate, length-drop) (omega arith));
      }
