-- The terms in two arrays: lengths, fronts, and the call on the fronts.
-- Main results: `indexes_length`, `stored_apart`, `refused`, `apart_network`. Assumes nothing.
use Prim.Native.Nat.{ℕ, ◌≤◌, ◌<◌}
use native.Mathlib.Omega.{arith}
use mathlib.Core.Path.{◌≡◌, refl, sym, ap, ◌∙◌}
use mathlib.Core.Bool.{Bool, true, false, ◌&&◌}
use mathlib.Core.List.{List, [], ◌∷◌, map}
use lib.Dec.{eqb}
use lib.Ieee.{Float, nan}
use lib.ListN.{length, get_or, take, length-map}
use lib.Seq.{get_or-take, length-take-le, ext_get_or}
use Rattle.std.proofs.lemmas.List.{get_or-map}
use Rattle.float64.specs.Values.{sheet_limit}
use Rattle.sequence.specs.Answers.{filled}
use Rattle.network.specs.Numbers.{Network, sizes_hold, all_within}
use Rattle.network.proofs.Tests.{sized_few, sized_indexes, number_size}
use Rattle.model.specs.Calls.{counted, evaluate_call}
use Rattle.model.specs.Quantities.{evaluate}
use Rattle.model.proofs.Calls.{element_refused}
use Rattle.terms.specs.declared.Term.{Term}
use Rattle.terms.specs.declared.Columns.{Columns}
use Rattle.terms.specs.Terms.{none, indexes_of, coefficients_of, network_of, Apart}

indexes_mapped : (ts : List Term) → map (λ (t : Term). t.index) ts ≡ indexes_of ts
unfolding indexes_of
indexes_mapped [] = refl
indexes_mapped (t ∷ ts) = ap (λ (is : List ℕ). t.index ∷ is) (indexes_mapped ts)

coefficients_mapped : (ts : List Term) → map (λ (t : Term). t.coefficient) ts ≡ coefficients_of ts
unfolding coefficients_of
coefficients_mapped [] = refl
coefficients_mapped (t ∷ ts) = ap (λ (xs : List Float). t.coefficient ∷ xs) (coefficients_mapped ts)

pub indexes_length : (ts : List Term) → length (indexes_of ts) ≡ length ts
indexes_length ts = rw (← indexes_mapped ts) (length-map ts (λ (t : Term). t.index))

-- an array whose first words are the terms' has them in front
fronted : {A : Type 0} (f : Term → A) (d : A) (xs : List A) (ts : List Term) → length ts ≤ length xs → ((k : ℕ) → k < length ts → get_or xs k d ≡ f (get_or ts k none)) → take (length ts) xs ≡ map f ts
fronted f d xs ts l h =
    let e : length (take (length ts) xs) ≡ length ts = length-take-le (length ts) xs l in
    ext_get_or d (take (length ts) xs) (map f ts) (e ∙ sym (length-map ts f))
    (λ k q. let b : k < length ts = omega (arith, e, q) in get_or-take (length ts) xs k d b ∙ h k b ∙ sym (get_or-map f ts k none d b))

-- arrays in which all terms are stored are the terms apart
pub stored_apart : (ts : List Term) (c : Columns) → length c.indexes ≡ 1024 → length c.coefficients ≡ 1024 → ((k : ℕ) → k < length ts → get_or c.indexes k 0 ≡ (get_or ts k none).index) → ((k : ℕ) → k < length ts → get_or c.coefficients k nan ≡ (get_or ts k none).coefficient)
    → Apart ts c
stored_apart ts c a b p q l = (
  fronted (λ (t : Term). t.index) 0 c.indexes ts (omega (arith, a, l)) p ∙ indexes_mapped ts,
  fronted (λ (t : Term). t.coefficient) nan c.coefficients ts (omega (arith, b, l)) q ∙ coefficients_mapped ts,
)

-- ---- the call

-- more than 1,024 terms are no network's
too_many : (N : Network) → 1024 < length N.indexes → (b : Bool) → sizes_hold N ≡ b → sizes_hold N ≡ false
too_many N l true e = absurd (omega (arith, l, sized_indexes N e, (sized_few N e).terms))
too_many N l false e = e

pub refused : (w : List ℕ) (r : List Float) (ts : List Term) (q : ℕ) (f pg sheet : List Float) → 1024 < length ts → filled 1 0 sheet ≡ evaluate_call (network_of w r ts) q f pg sheet
refused w r ts q f pg sheet l =
    let N : Network = network_of w r ts in
    let m : 1024 < length N.indexes = rw (indexes_length ts) l in
    element_refused N (eqb (length f) (counted N).branches && eqb (length pg) (counted N).generators) (all_within sheet_limit f && all_within sheet_limit pg) q (counted N).rows
    (evaluate (counted N) N.wiring N.indexes N.coefficients q f pg) sheet (number_size N _ _ (too_many N m (sizes_hold N) refl)) (λ z. absurd (omega (arith, z)))
