-- B_bus is (C_f − C_t)' W (C_f − C_t), exactly: a sum over buses with it is a sum over branches, a branch that joins a bus to itself too.
-- Main definition: `incidence`. Main results: `bbus_exact`, `bbus_row`, `bbus_column`, `sum_to_lem`, `ends_derivative`. Assumes nothing.
use mathlib.Core.Path.{◌≡◌, refl, sym, ap, ap₂, ◌∙◌}
use mathlib.Core.Bool.{Bool, true, false}
use mathlib.Mathlib.Algebra.Ring.Defs.{CommRing}
use Prim.Native.Nat.{ℕ, zero, suc, ◌<◌}
use lib.Dec.{eqb}
use Rattle.network.specs.Numbers.{Wired}
use Rattle.exact.specs.Ring.{total, only}
use Rattle.exact.proofs.Sums.{add_zero, total_same, total_add, total_one}
use Rattle.books.specs.Forms.{Place, Form, none}
use Rattle.books.specs.Manual.{Site, from, to, weight, product, meets, bbus_to, bbus}
use Rattle.books_residual.specs.Residual.{sum_to, given, ends}
use Rattle.books_exact.specs.Exact.{World, Sound, exact_of, along}
use Rattle.books_exact.proofs.Laws.{ring, four}
use Rattle.books_exact.proofs.Sums.{mark, only_mark, mark_both, total_mul, total_neg, total_swap, mul_total}
use Rattle.books_exact.proofs.Slacks.{derivative}

module _ {A : Type 0} (𝓡 : CommRing A) (W : World A) where
  open 𝓡 use {add as ◌+◌, mul as ◌*◌, neg as less, zero as 𝟘, one as 𝟙}

  infixl 65 ◌+◌
  infixl 70 ◌*◌
  -- ---- sums and tests in the residual

  pub sum_to_lem : (v : Place → A) (f : ℕ → Form) (n : ℕ) → derivative 𝓡 W v (sum_to f n) ≡ total 𝓡 (λ i. derivative 𝓡 W v (f i)) n
  unfolding along sum_to total
  sum_to_lem v f zero = refl
  sum_to_lem v f (suc n) = ap (λ (m : A). m + derivative 𝓡 W v (f n)) (sum_to_lem v f n)

  pub given_derivative : (v : Place → A) (b : Bool) (x : Form) → derivative 𝓡 W v (given b x) ≡ only 𝓡 b (derivative 𝓡 W v x)
  unfolding along only
  given_derivative v true x = refl
  given_derivative v false x = refl

  -- ---- B_bus

  module _ (s : Site) where
    -- row e of C_f − C_t, at bus i
    abbrev pub incidence : ℕ → ℕ → A
    incidence e i = mark 𝓡 (eqb (from s e) i) + less (mark 𝓡 (eqb (to s e) i))

    pub ends_ring : (p q : Bool) (m : A) → only 𝓡 p m + only 𝓡 q (less m) ≡ (mark 𝓡 p + less (mark 𝓡 q)) * m
    ends_ring p q m = simp (only_mark, ring)

    pub ends_derivative : (v : Place → A) (x : ℕ → Form) (i e : ℕ) → derivative 𝓡 W v (ends s x i e) ≡ incidence e i * derivative 𝓡 W v (x e)
    unfolding along
    ends_derivative v x i e =
        ap₂ ◌+◌ (given_derivative v (eqb (from s e) i) (x e)) (given_derivative v (eqb (to s e) i) _)
        ∙ ends_ring (eqb (from s e) i) (eqb (to s e) i) (derivative 𝓡 W v (x e))

    none_ring : (x : A) → x ≡ x + less 𝟘
    none_ring x = simp ring

    product_more : (b : Bool) (e : ℕ) (x : Form) → exact_of 𝓡 W (product s b true e x) ≡ exact_of 𝓡 W x + only 𝓡 b (exact_of 𝓡 W (weight s e))
    unfolding exact_of only
    product_more true e x = refl
    product_more false e x = sym (add_zero 𝓡 _)

    product_less : (b : Bool) (e : ℕ) (x : Form) → exact_of 𝓡 W (product s b false e x) ≡ exact_of 𝓡 W x + less (only 𝓡 b (exact_of 𝓡 W (weight s e)))
    unfolding exact_of only
    product_less true e x = refl
    product_less false e x = none_ring _

    module _ (h : Sound 𝓡 W) where
      none_exact : exact_of 𝓡 W none ≡ 𝟘
      unfolding exact_of
      none_exact = h.nought_is

      -- a branch's part of the entry (i, j)
      abbrev pub share : ℕ → ℕ → ℕ → A
      share i j e = incidence e i * (exact_of 𝓡 W (weight s e) * incidence e j)

      pub bbus_exact : (i j n : ℕ) → exact_of 𝓡 W (bbus_to s i j n) ≡ total 𝓡 (share i j) n
      unfolding bbus_to total
      bbus_exact i j zero = none_exact
      bbus_exact i j (suc e) =
          let w = exact_of 𝓡 W (weight s e) in
          let fi = eqb (from s e) i in
          let ti = eqb (to s e) i in
          let fj = eqb (from s e) j in
          let tj = eqb (to s e) j in
          product_less (meets s i j (to s e) (from s e)) e _
          ∙ ap₂ (λ (x y : A). x + less y)
          (product_less (meets s i j (from s e) (to s e)) e _
          ∙ ap₂ (λ (x y : A). x + less y)
          (product_more (meets s i j (to s e) (to s e)) e _
          ∙ ap₂ (λ (x y : A). x + y)
          (product_more (meets s i j (from s e) (from s e)) e _ ∙ ap₂ (λ (x y : A). x + y) (bbus_exact i j e) (mark_both 𝓡 fi fj w)) (mark_both 𝓡 ti tj w))
          (mark_both 𝓡 fi tj w))
          (mark_both 𝓡 ti fj w)
          ∙ four 𝓡 (mark 𝓡 fi) (mark 𝓡 ti) (mark 𝓡 fj) (mark 𝓡 tj) w (total 𝓡 (share i j) e)

      swap_ring : (p w q : A) → p * (w * q) ≡ q * (w * p)
      swap_ring p w q = simp ring

      pub bbus_symmetric : (i j : ℕ) → exact_of 𝓡 W (bbus s i j) ≡ exact_of 𝓡 W (bbus s j i)
      bbus_symmetric i j = bbus_exact i j _ ∙ total_same 𝓡 _ _ _ (λ e l. swap_ring _ _ _) ∙ sym (bbus_exact j i _)

      module _ (g : Wired s.counts s.wiring) where
        point_ring : (p q : Bool) (x : A) → (mark 𝓡 p + less (mark 𝓡 q)) * x ≡ only 𝓡 p x + less (only 𝓡 q x)
        point_ring p q x = simp (only_mark, ring)

        -- (C_f − C_t) x, at a branch
        incident : (x : ℕ → A) (e : ℕ) → e < s.counts.branches → total 𝓡 (λ i. incidence e i * x i) s.counts.buses ≡ x (from s e) + less (x (to s e))
        incident x e l =
            total_same 𝓡 _ _ _ (λ i m. point_ring (eqb (from s e) i) (eqb (to s e) i) (x i))
            ∙ total_add 𝓡 _ _ _
            ∙ ap₂ ◌+◌ (total_one 𝓡 x (from s e) _ (g.froms e l)) (sym (total_neg 𝓡 _ _) ∙ ap less (total_one 𝓡 x (to s e) _ (g.tos e l)))

        move_ring : (p w q x : A) → p * (w * q) * x ≡ p * w * (q * x)
        move_ring p w q x = simp ring

        -- B_bus x, at bus i
        pub bbus_row : (x : ℕ → A) (i : ℕ)
            → total 𝓡 (λ j. exact_of 𝓡 W (bbus s i j) * x j) s.counts.buses
            ≡ total 𝓡 (λ e. incidence e i * exact_of 𝓡 W (weight s e) * (x (from s e) + less (x (to s e)))) s.counts.branches
        bbus_row x i =
            total_same 𝓡 _ _ _ (λ j l. ap (λ (m : A). m * x j) (bbus_exact i j _) ∙ total_mul 𝓡 _ _ _)
            ∙ total_swap 𝓡 _ _ _
            ∙ total_same 𝓡 _ _ _ (λ e l. total_same 𝓡 _ _ _ (λ j m. move_ring _ _ _ _) ∙ sym (mul_total 𝓡 _ _ _) ∙ ap (λ (m : A). incidence e i * exact_of 𝓡 W (weight s e) * m) (incident x e l))

        -- B_bus' x, at bus j
        pub bbus_column : (x : ℕ → A) (j : ℕ)
            → total 𝓡 (λ i. exact_of 𝓡 W (bbus s i j) * x i) s.counts.buses
            ≡ total 𝓡 (λ e. incidence e j * exact_of 𝓡 W (weight s e) * (x (from s e) + less (x (to s e)))) s.counts.branches
        bbus_column x j = total_same 𝓡 _ _ _ (λ i l. ap (λ (m : A). m * x i) (bbus_symmetric i j)) ∙ bbus_row x j
