-- The cones' sizes, one after the other: two, and the linear ones only if above 0.
-- Main results: `also_length`, `cones_list`, `cones_put`, `cones_are`. Assumes nothing.
use mathlib.Core.Path.{◌≡◌, refl, sym, ap, ◌∙◌}
use mathlib.Core.Bool.{Bool, true, false, cond, not}
use mathlib.Core.List.{List, [], ◌∷◌, ◌++◌, append-nil}
use Prim.Native.Nat.{ℕ, ◌+◌, ◌≤◌}
use native.Mathlib.Omega.{arith}
use lib.Dec.{eqb}
use lib.ListN.{length, set}
use borrow.Author.Tests.{eq-eqb, ne_eqb}
use Rattle.sequence.specs.Lists.{when, front}
use Rattle.network.specs.declared.Counts.{Counts}
use Rattle.opf_layout.specs.declared.Active.{Active}
use Rattle.opf_layout.specs.declared.OpfLayout.{OpfLayout}
use Rattle.opf_layout.specs.Layout.{also_if, cones, Bounded, Placed}
use Rattle.opf_layout.proofs.Counting.{ncon_few}
use Rattle.opf_layout.proofs.Blocks.{cones_all}
use Rattle.opf_sides.specs.Walks.{Stores, cones_in, Narrowed}
use Rattle.opf_sides.proofs.Storing.{two, then, whole}

pub also_length : (n : ℕ) (rest : List ℕ) {k : ℕ} → k ≡ cond (not (eqb n 0)) 1 0 → length (also_if n rest) ≡ k + length rest
also_length n rest e = go (eqb n 0) e
  where
    go : (b : Bool) {k : ℕ} → k ≡ cond (not b) 1 0 → length (cond b rest (n ∷ rest)) ≡ k + length rest
    go true q = rw q (omega arith)
    go false q = rw q (omega arith)

also_is : (n : ℕ) (rest : List ℕ) → when (not (eqb n 0)) (n ∷ []) ++ rest ≡ also_if n rest
unfolding when
also_is n rest = go (eqb n 0)
  where
    go : (b : Bool) → when (not b) (n ∷ []) ++ rest ≡ cond b rest (n ∷ rest)
    go true = refl
    go false = refl

-- two, and the linear ones where they are above 0, as they are put
abbrev pub sizes : OpfLayout → List ℕ
sizes x =
    (x.n_eq ∷ x.n_ineq ∷ []) ++ (when (not (eqb x.active.equalities 0)) (x.active.equalities ∷ []) ++ when (not (eqb x.active.inequalities 0)) (x.active.inequalities ∷ []))

pub cones_list : (x : OpfLayout) → sizes x ≡ cones_in x
unfolding when
cones_list x =
    ap (λ (l : List ℕ). x.n_eq ∷ x.n_ineq ∷ l)
    (ap (λ (l : List ℕ). when (not (eqb x.active.equalities 0)) (x.active.equalities ∷ []) ++ l) (sym (append-nil (when (not (eqb x.active.inequalities 0)) (x.active.inequalities ∷ []))) ∙ also_is x.active.inequalities [])
    ∙ also_is x.active.equalities (also_if x.active.inequalities []))

-- a count that is above 0, and one that isn't
pub above : {n : ℕ} → (n ≡ 0 → ⊥) → not (eqb n 0) ≡ true
above {n} h = ap not (ne_eqb n 0 h)

pub at_zero : {n : ℕ} → n ≡ 0 → not (eqb n 0) ≡ false
at_zero {n} h = ap not (eq-eqb n 0 h)

-- the linear ones are put after the first two
pub cones_put : (x : OpfLayout) (s₀ : List ℕ) {s t : List ℕ} {k l : ℕ} → Stores (when (not (eqb x.active.equalities 0)) (x.active.equalities ∷ [])) 2 (set (set s₀ 0 x.n_eq) 1 x.n_ineq) s k
    → Stores (when (not (eqb x.active.inequalities 0)) (x.active.inequalities ∷ [])) k s t l → length (cones_in x) ≤ length s₀ → t ≡ front (cones_in x) s₀
cones_put x s₀ e i h = whole (rw (cones_list x) at (then (two 0 x.n_eq x.n_ineq refl refl) (then e i))) h

-- by the layout they are the program's
pub cones_are : (c : Counts) (a : Active) (x : OpfLayout) → Placed c a x → cones_in x ≡ cones c a
unfolding cones
cones_are c a x h = rw (h.n_eq_is, h.n_ineq_is, h.active_is)

-- and each of them is far below 2^32
pub cones_narrow : (c : Counts) (a : Active) (x : OpfLayout) → Placed c a x → Bounded c a → Narrowed x
unfolding cones
cones_narrow c a x h b =
    record {
      first = omega (arith, h.n_eq_is, ncon_few c a b, cones_all c a);
      second = omega (arith, h.n_ineq_is, b.few);
      third = rw h.active_is (omega (arith, b.few_equalities, b.few.rows));
      fourth = rw h.active_is (omega (arith, b.few_inequalities, b.few.rows));
    }
