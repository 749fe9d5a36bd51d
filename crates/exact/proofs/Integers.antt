-- The integers are a commutative ring, and a system of two rows over them meets what the theorem asks; its word is computed both ways.
-- Main results: `integers`, `forward_word_lem`, `adjoint_word_lem`, `system_agrees`. Assumes nothing.
use mathlib.Core.Path.{◌≡◌, refl, sym, ap, ap₂, ◌∙◌}
use mathlib.Core.Bool.{Bool, true, false}
use mathlib.Core.List.{List, [], ◌∷◌}
use mathlib.Mathlib.Algebra.Group.Defs.{IsAddSemigroup}
use mathlib.Mathlib.Algebra.Group.Basic.{add-add-add_comm}
use mathlib.Mathlib.Algebra.Ring.Defs.{CommRing}
use Prim.Native.Nat.{ℕ, zero, suc, ◌<◌}
use native.Mathlib.Omega.{arith}
use lib.Dec.{lit<}
use lib.ListN.{get_or}
use lib.IntN.{ℤ, pos, negsuc, suc_ℤ, pred_ℤ, neg_ℤ, ◌+ℤ◌, ◌-ℤ◌, ◌*ℤ◌, ℤ_set, one}
use lib.IntN.{+ℤ_idl, +ℤ_idr, +ℤ_assoc, +ℤ_comm, +ℤ_invl, neg_ℤ-+ℤ, neg_ℤ-neg_ℤ, neg_ℤ-suc_ℤ, neg_ℤ-pred_ℤ}
use lib.IntN.{*ℤ-one, *ℤ_comm, zero-*ℤ, *ℤ-zero, suc_ℤ-*ℤ, pred_ℤ-*ℤ}
use Rattle.sequence.specs.Lists.{turns}
use Rattle.sequence.specs.Facts.{All}
use Rattle.sequence.specs.Facts.All.{done, ◌&◌}
use Rattle.exact.specs.Contraction.{Triplet, Entry, triplet, entry, InRange, Below, exchanged, applied, Solves, selected, forward, adjoint}
use Rattle.exact.proofs.Contraction.{contraction_is_adjoint}

-- ---- the ring's laws that the library of integers leaves

-- induction by one up and one down
steps : (P : ℤ → Type 0) → P (pos zero) → ((k : ℤ) → P k → P (suc_ℤ k)) → ((k : ℤ) → P k → P (pred_ℤ k)) → (k : ℤ) → P k
steps P z up down (pos zero) = z
steps P z up down (pos (suc n)) = up (pos n) (steps P z up down (pos n))
steps P z up down (negsuc zero) = down (pos zero) z
steps P z up down (negsuc (suc n)) = down (negsuc n) (steps P z up down (negsuc n))

pub sums : IsAddSemigroup ℤ ◌+ℤ◌
sums = record { is_set = ℤ_set; add_assoc = +ℤ_assoc }

add_add : (a b c d : ℤ) → (a +ℤ b) +ℤ (c +ℤ d) ≡ (a +ℤ c) +ℤ (b +ℤ d)
add_add = add-add-add_comm (record { add = ◌+ℤ◌; is_add_comm_semigroup = record { is_add_semigroup = sums; add_comm = +ℤ_comm } })

pub mul_add : (a b c : ℤ) → a *ℤ (b +ℤ c) ≡ a *ℤ b +ℤ a *ℤ c
mul_add a b c = steps (λ k. k *ℤ (b +ℤ c) ≡ k *ℤ b +ℤ k *ℤ c) (rw (zero-*ℤ (b +ℤ c), zero-*ℤ b, zero-*ℤ c))
    (λ k e. suc_ℤ-*ℤ k (b +ℤ c) ∙ ap (λ v. v +ℤ (b +ℤ c)) e ∙ add_add (k *ℤ b) (k *ℤ c) b c ∙ sym (ap₂ ◌+ℤ◌ (suc_ℤ-*ℤ k b) (suc_ℤ-*ℤ k c)))
    (λ k e. pred_ℤ-*ℤ k (b +ℤ c) ∙ ap₂ ◌+ℤ◌ e (neg_ℤ-+ℤ b c) ∙ add_add (k *ℤ b) (k *ℤ c) (neg_ℤ b) (neg_ℤ c) ∙ sym (ap₂ ◌+ℤ◌ (pred_ℤ-*ℤ k b) (pred_ℤ-*ℤ k c)))
    a

pub add_mul : (a b c : ℤ) → (a +ℤ b) *ℤ c ≡ a *ℤ c +ℤ b *ℤ c
add_mul a b c = *ℤ_comm (a +ℤ b) c ∙ mul_add c a b ∙ ap₂ ◌+ℤ◌ (*ℤ_comm c a) (*ℤ_comm c b)

neg_mul : (a b : ℤ) → neg_ℤ a *ℤ b ≡ neg_ℤ (a *ℤ b)
neg_mul a b = steps (λ k. neg_ℤ k *ℤ b ≡ neg_ℤ (k *ℤ b)) (rw (zero-*ℤ b))
    (λ k e. ap (λ v. v *ℤ b) (neg_ℤ-suc_ℤ k) ∙ pred_ℤ-*ℤ (neg_ℤ k) b ∙ ap (λ v. v -ℤ b) e ∙ sym (ap neg_ℤ (suc_ℤ-*ℤ k b) ∙ neg_ℤ-+ℤ (k *ℤ b) b))
    (λ k e. ap (λ v. v *ℤ b) (neg_ℤ-pred_ℤ k) ∙ suc_ℤ-*ℤ (neg_ℤ k) b
    ∙ ap₂ ◌+ℤ◌ e (sym (neg_ℤ-neg_ℤ b)) ∙ sym (ap neg_ℤ (pred_ℤ-*ℤ k b) ∙ neg_ℤ-+ℤ (k *ℤ b) (neg_ℤ b)))
    a

pub mul_assoc : (a b c : ℤ) → (a *ℤ b) *ℤ c ≡ a *ℤ (b *ℤ c)
mul_assoc a b c = steps (λ k. (k *ℤ b) *ℤ c ≡ k *ℤ (b *ℤ c)) (rw (zero-*ℤ b, zero-*ℤ c, zero-*ℤ (b *ℤ c)))
    (λ k e. ap (λ v. v *ℤ c) (suc_ℤ-*ℤ k b) ∙ add_mul (k *ℤ b) b c ∙ ap (λ v. v +ℤ b *ℤ c) e ∙ sym (suc_ℤ-*ℤ k (b *ℤ c)))
    (λ k e. ap (λ v. v *ℤ c) (pred_ℤ-*ℤ k b) ∙ add_mul (k *ℤ b) (neg_ℤ b) c ∙ ap₂ ◌+ℤ◌ e (neg_mul b c) ∙ sym (pred_ℤ-*ℤ k (b *ℤ c)))
    a

pub mul_one : (a : ℤ) → a *ℤ pos 1 ≡ a
unfolding one
mul_one = *ℤ-one

-- the integers as a commutative ring
abbrev pub integers : CommRing ℤ
integers = record {
  add = ◌+ℤ◌;
  mul = ◌*ℤ◌;
  zero = pos 0;
  neg = neg_ℤ;
  one = pos 1;
  is_comm_ring = record {
    is_ring = record {
      is_semiring = record {
        is_non_unital_semiring = record {
          is_non_unital_non_assoc_semiring = record {
            is_add_comm_monoid = record { is_add_monoid = record { is_add_semigroup = sums; zero-add = +ℤ_idl; add-zero = +ℤ_idr }; add_comm = +ℤ_comm };
            left_distrib = mul_add;
            right_distrib = add_mul;
            zero-mul = zero-*ℤ;
            mul-zero = *ℤ-zero;
          };
          mul_assoc = mul_assoc;
        };
        one-mul = λ a. *ℤ_comm (pos 1) a ∙ mul_one a;
        mul-one = mul_one;
      };
      neg-add_cancel = +ℤ_invl;
    };
    mul_comm = *ℤ_comm;
  };
}

-- the test that the adjoint direction leaves zeros out by
abbrev pub is_zero : ℤ → Bool
is_zero (pos zero) = true
is_zero (pos (suc n)) = false
is_zero (negsuc n) = false

pub is_zero-exact : (v : ℤ) → is_zero v ≡ true → v ≡ pos 0
is_zero-exact (pos zero) e = refl
is_zero-exact (pos (suc n)) e = cc
is_zero-exact (negsuc n) e = cc

-- ---- a system of two rows

-- ((2, 1), (5, 3)), the 2 in two triplets
abbrev K : List (Triplet ℤ)
K = triplet 0 0 (pos 1) ∷ triplet 0 1 (pos 1) ∷ triplet 1 0 (pos 5) ∷ triplet 1 1 (pos 3) ∷ triplet 0 0 (pos 1) ∷ []

-- the functional (2, 4), the 2 in two entries
abbrev entries : List (Entry ℤ)
entries = entry 0 (pos 1) ∷ entry 1 (pos 4) ∷ entry 0 (pos 1) ∷ []

-- (0, 3)
abbrev p : ℕ → ℤ
p r = get_or (pos 0 ∷ pos 3 ∷ []) r (pos 0)

-- (-3, 6), with K x = p
abbrev x : ℕ → ℤ
x r = get_or (negsuc 2 ∷ pos 6 ∷ []) r (pos 0)

-- (-14, 6), with K' y = (2, 4)
abbrev y : ℕ → ℤ
y r = get_or (negsuc 13 ∷ pos 6 ∷ []) r (pos 0)

within : All (InRange 2) K
within = (lit< tt, lit< tt) & (lit< tt, lit< tt) & (lit< tt, lit< tt) & (lit< tt, lit< tt) & (lit< tt, lit< tt) & done

below : All (Below 2) entries
below = lit< tt & lit< tt & lit< tt & done

solved : Solves integers 2 K x p
unfolding applied
solved zero h = refl
solved (suc zero) h = refl
solved (suc (suc i)) h = let z : ⊥ = omega arith in absurd z

solved' : Solves integers 2 (exchanged K) y (selected integers entries)
unfolding applied exchanged selected
solved' zero h = refl
solved' (suc zero) h = refl
solved' (suc (suc i)) h = let z : ⊥ = omega arith in absurd z

-- -(1 * -3 + 4 * 6 + 1 * -3)
pub forward_word_lem : forward integers (negsuc 0) entries x ≡ negsuc 17
unfolding forward
forward_word_lem = refl

-- -(3 * 6): row 0 of p is left out
pub adjoint_word_lem : adjoint integers is_zero 2 (negsuc 0) p y ≡ negsuc 17
unfolding adjoint turns
adjoint_word_lem = refl

-- the system meets what the theorem asks, as a matrix of one element and one column
pub system_agrees : forward integers (negsuc 0) entries x ≡ adjoint integers is_zero 2 (negsuc 0) p y
system_agrees = contraction_is_adjoint integers is_zero is_zero-exact 2 1 K (entries ∷ []) (negsuc 0) (λ c. p) (λ c. x) (λ o. y)
    within (below & done) (λ c h. solved) only_element 0 0 (lit< tt) (lit< tt)
  where
    only_element : (o : ℕ) → o < 1 → Solves integers 2 (exchanged K) y (selected integers (get_or (entries ∷ []) o []))
    only_element zero h = solved'
    only_element (suc o) h = let z : ⊥ = omega arith in absurd z
