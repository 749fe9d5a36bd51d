-- The laws of answers by number: tests that are passed, the one that holds, and what a call leaves. Assumes nothing.
use mathlib.Core.Path.{◌≡◌, refl, sym, subst, ◌∙◌}
use mathlib.Core.Bool.{Bool, true, false, cond, not, ◌&&◌}
use mathlib.Core.List.{List, [], ◌∷◌, ◌++◌}
use Prim.Native.Nat.{ℕ}
use native.Mathlib.Decide.{ℕ_discrete}
use native.Mathlib.Omega.{arith}
use lib.ListN.{length}
use lib.Dec.{T, eqb}
use borrow.Author.Tests.{ne_eqb}
use Rattle.sequence.specs.Lists.{front}
use Rattle.sequence.specs.declared.Refusal.{Refusal}
use Rattle.sequence.specs.declared.Refusal.TheVariants.{Size, Wiring, Reading, Kind, Element, Piecewise, Short}
use Rattle.sequence.specs.Answers.{Test, test, first_of, marked, filled, fills, refusal_number}

pub no_test : first_of [] ≡ 0
unfolding first_of
no_test = refl

-- a test that does not hold is passed
pub passed : (n : ℕ) (b : Bool) (ts : List Test) → b ≡ false → first_of (test n b ∷ ts) ≡ first_of ts
unfolding first_of
passed n b ts e = rw e

-- one that holds gives its number
pub holding : (n : ℕ) (b : Bool) (ts : List Test) → b ≡ true → first_of (test n b ∷ ts) ≡ n
unfolding first_of
holding n b ts e = rw e

first-T : (p q : Bool) → T (p && q) → T p
first-T true q y = tt
first-T false q y = absurd y

rest-T : (p q : Bool) → T (p && q) → T q
rest-T true q y = y
rest-T false q y = absurd y

-- where the first tests give a number, it stands, whatever tests follow
pub first_stands : (a b : List Test) → T (marked a) → (first_of a ≡ 0 → ⊥) → first_of (a ++ b) ≡ first_of a
unfolding first_of marked
first_stands [] b m h = absurd (h refl)
first_stands (t ∷ a) b m h = go t.holds refl (first_stands a b (rest-T (not (eqb t.number 0)) (marked a) m))
  where
    go : (x : Bool) → t.holds ≡ x → ((first_of a ≡ 0 → ⊥) → first_of (a ++ b) ≡ first_of a) → cond t.holds t.number (first_of (a ++ b)) ≡ cond t.holds t.number (first_of a)
    go true e ih = rw e
    go false e ih = rw e (ih (λ z. h (rw e z)))

-- where they give none, the next ones decide
pub first_passes : (a b : List Test) → T (marked a) → first_of a ≡ 0 → first_of (a ++ b) ≡ first_of b
unfolding first_of marked
first_passes [] b m h = refl
first_passes (t ∷ a) b m h = go t.holds refl (first_passes a b (rest-T (not (eqb t.number 0)) (marked a) m))
  where
    zero_marked : (n : ℕ) → n ≡ 0 → T (not (eqb n 0)) → ⊥
    zero_marked n e y = subst (λ (k : ℕ). T (not (eqb k 0))) e y

    go : (x : Bool) → t.holds ≡ x → (first_of a ≡ 0 → first_of (a ++ b) ≡ first_of b) → cond t.holds t.number (first_of (a ++ b)) ≡ first_of b
    go true e ih = absurd (zero_marked t.number (rw e at h) (first-T (not (eqb t.number 0)) (marked a) m))
    go false e ih = rw e (ih (rw e at h))

-- where none holds, none of the first does, and none of the next
pub front_passed : (a b : List Test) → T (marked a) → first_of (a ++ b) ≡ 0 → first_of a ≡ 0
front_passed a b m e = go (ℕ_discrete (first_of a) 0)
  where
    go : Dec (first_of a ≡ 0) → first_of a ≡ 0
    go (yes z) = z
    go (no z) = sym (first_stands a b m z) ∙ e

pub rest_passed : (a b : List Test) → T (marked a) → first_of (a ++ b) ≡ 0 → first_of b ≡ 0
rest_passed a b m e = sym (first_passes a b m (front_passed a b m e)) ∙ e

-- ---- what a call leaves in its sheet

pub fills_refused : {A : Type 0} {number k : ℕ} (result sheet : List A) → number ≡ k → (k ≡ 0 → ⊥) → filled k 0 sheet ≡ fills number result sheet
unfolding fills
fills_refused {k = k} result sheet e h = rw (e, ne_eqb k 0 h)

pub fills_done : {A : Type 0} {number : ℕ} (result sheet : List A) → number ≡ 0 → filled 0 (length result) (front result sheet) ≡ fills number result sheet
unfolding fills
fills_done result sheet e = rw e

-- no refusal has the number 0
pub refused : (e : Refusal) → refusal_number e ≡ 0 → ⊥
refused Size h = absurd (omega (arith, h))
refused Wiring h = absurd (omega (arith, h))
refused Reading h = absurd (omega (arith, h))
refused Kind h = absurd (omega (arith, h))
refused Element h = absurd (omega (arith, h))
refused Piecewise h = absurd (omega (arith, h))
refused Short h = absurd (omega (arith, h))
