-- The two directions of `forward_adjoint` give the same words, whatever the list, the functionals and the columns are.
-- Main results: `exchanged_twice`, `forward_is_adjoint`, `contraction_is_adjoint`. Assumes nothing.
use mathlib.Core.Path.{◌≡◌, refl, sym, ap, ◌∙◌}
use mathlib.Core.Bool.{Bool, true}
use mathlib.Core.List.{List, [], ◌∷◌}
use mathlib.Mathlib.Algebra.Ring.Defs.{CommRing}
use Prim.Native.Nat.{ℕ, zero, suc, ◌<◌}
use native.Mathlib.Omega.{arith}
use lib.Dec.{eqb}
use lib.ListN.{length, get_or}
use Rattle.sequence.specs.Facts.{All}
use Rattle.sequence.specs.Facts.All.{done, ◌&◌}
use Rattle.exact.specs.Ring.{sum, total, only}
use Rattle.exact.specs.Contraction.{Triplet, Entry, InRange, Below, exchanged, applied, Solves, selected, forward, adjoint}
use Rattle.exact.proofs.Sums.{zero_add, zero_mul, mul_assoc, mul_comm, loop, loop_only, loop_skip, total_same, sum_same, sum_map, spread}

pub exchanged_twice : {R : Type 0} (K : List (Triplet R)) → exchanged (exchanged K) ≡ K
unfolding exchanged
exchanged_twice [] = refl
exchanged_twice (t ∷ K) = ap (λ l. t ∷ l) (exchanged_twice K)

-- ---- a fact of every element

module _ {A : Type 0} {P : A → Type 0} where
  all_weaker : {Q : A → Type 0} {l : List A} → ((a : A) → P a → Q a) → All P l → All Q l
  all_weaker f done = done
  all_weaker f (p & ps) = f _ p & all_weaker f ps

  all_at : (d : A) {l : List A} → All P l → (i : ℕ) → i < length l → P (get_or l i d)
  all_at d done i h = let z : ⊥ = omega arith in absurd z
  all_at d (p & ps) zero h = p
  all_at d (p & ps) (suc i) h = all_at d ps i (omega arith)

module _ {R : Type 0} (𝓡 : CommRing R) where
  open 𝓡 use {add as ◌+◌, mul as ◌*◌, zero as 𝟘}

  infixl 65 ◌+◌
  infixl 70 ◌*◌
  -- ---- the loops as sums

  applied_sum : (K : List (Triplet R)) (x : ℕ → R) (i : ℕ) → applied 𝓡 K x i ≡ sum 𝓡 (λ t. only 𝓡 (eqb t.row i) (t.value * x t.col)) K
  unfolding applied
  applied_sum K x i = loop_only 𝓡 _ (λ t. eqb t.row i) 𝟘 K ∙ zero_add 𝓡 _

  exchanged_sum : (K : List (Triplet R)) (y : ℕ → R) (i : ℕ) → applied 𝓡 (exchanged K) y i ≡ sum 𝓡 (λ t. only 𝓡 (eqb t.col i) (t.value * y t.row)) K
  unfolding exchanged
  exchanged_sum K y i = applied_sum (exchanged K) y i ∙ sum_map 𝓡 _ _ K

  selected_sum : (entries : List (Entry R)) (r : ℕ) → selected 𝓡 entries r ≡ sum 𝓡 (λ e. only 𝓡 (eqb e.row r) e.weight) entries
  unfolding selected
  selected_sum entries r = loop_only 𝓡 _ (λ e. eqb e.row r) 𝟘 entries ∙ zero_add 𝓡 _

  -- ---- the two directions

  -- a product of three with the last two exchanged
  mul_mul : (a b c : R) → a * b * c ≡ a * c * b
  mul_mul a b c = mul_assoc 𝓡 a b c ∙ ap (λ (v : R). a * v) (mul_comm 𝓡 b c) ∙ sym (mul_assoc 𝓡 a c b)

  module _ (dim : ℕ) (K : List (Triplet R)) (within : All (InRange dim) K) (x y : ℕ → R) where
    -- y' (K x) = x' (K' y)
    pub applied_exchanged : total 𝓡 (λ r. applied 𝓡 K x r * y r) dim ≡ total 𝓡 (λ r. applied 𝓡 (exchanged K) y r * x r) dim
    applied_exchanged =
        total_same 𝓡 _ _ dim (λ r l. ap (λ (v : R). v * y r) (applied_sum K x r))
        ∙ spread 𝓡 (λ t. t.row) (λ t. t.value * x t.col) y dim (all_weaker (λ t h. h.0) within)
        ∙ sum_same 𝓡 _ _ within (λ t h. mul_mul t.value (x t.col) (y t.row))
        ∙ sym (spread 𝓡 (λ t. t.col) (λ t. t.value * y t.row) x dim (all_weaker (λ t h. h.1) within))
        ∙ sym (total_same 𝓡 _ _ dim (λ r l. ap (λ (v : R). v * x r) (exchanged_sum K y r)))

  -- an element's functional of x, by rows
  functional : (dim : ℕ) (sign : R) {entries : List (Entry R)} → All (Below dim) entries → (x : ℕ → R)
      → forward 𝓡 sign entries x ≡ sign * total 𝓡 (λ r. selected 𝓡 entries r * x r) dim
  unfolding forward
  functional dim sign {entries} below x = ap (λ (v : R). sign * v) (
      loop 𝓡 (λ e. e.weight * x e.row) 𝟘 entries ∙ zero_add 𝓡 _
      ∙ sym (total_same 𝓡 _ _ dim (λ r l. ap (λ (v : R). v * x r) (selected_sum entries r)) ∙ spread 𝓡 (λ e. e.row) (λ e. e.weight) x dim below))

  module _ (zero? : R → Bool) (sound : (v : R) → zero? v ≡ true → v ≡ 𝟘) where
    -- one element and one column: K x = p and K' y = selected entries give one word
    pub forward_is_adjoint : (dim : ℕ) (K : List (Triplet R)) (entries : List (Entry R)) (sign : R) (p x y : ℕ → R)
        → All (InRange dim) K → All (Below dim) entries
        → Solves 𝓡 dim K x p → Solves 𝓡 dim (exchanged K) y (selected 𝓡 entries)
        → forward 𝓡 sign entries x ≡ adjoint 𝓡 zero? dim sign p y
    unfolding adjoint
    forward_is_adjoint dim K entries sign p x y within below solved solved' =
        functional dim sign below x
        ∙ ap (λ (v : R). sign * v) (
        sym (total_same 𝓡 _ _ dim (λ r l. ap (λ (v : R). v * x r) (solved' r l)))
        ∙ sym (applied_exchanged dim K within x y)
        ∙ total_same 𝓡 _ _ dim (λ r l. ap (λ (v : R). v * y r) (solved r l))
        ∙ sym (loop_skip 𝓡 (λ r. p r * y r) (λ r. zero? (p r)) (λ r e. ap (λ (v : R). v * y r) (sound (p r) e) ∙ zero_mul 𝓡 (y r)) dim))

    -- word (o, c), of element o and column c: p c and x c are the column's, y o the element's
    pub contraction_is_adjoint : (dim columns : ℕ) (K : List (Triplet R)) (elements : List (List (Entry R))) (sign : R) (p x y : ℕ → ℕ → R)
        → All (InRange dim) K → All (All (Below dim)) elements
        → ((c : ℕ) → c < columns → Solves 𝓡 dim K (x c) (p c))
        → ((o : ℕ) → o < length elements → Solves 𝓡 dim (exchanged K) (y o) (selected 𝓡 (get_or elements o [])))
        → (o c : ℕ) → o < length elements → c < columns → forward 𝓡 sign (get_or elements o []) (x c) ≡ adjoint 𝓡 zero? dim sign (p c) (y o)
    contraction_is_adjoint dim columns K elements sign p x y within below solved solved' o c h g =
        forward_is_adjoint dim K (get_or elements o []) sign (p c) (x c) (y o) within (all_at [] below o h) (solved c g) (solved' o h)
