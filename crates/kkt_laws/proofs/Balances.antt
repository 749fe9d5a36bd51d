-- How many cells of the susceptance sums are listed: one for each bus and two for each branch at most, in each of the two blocks of columns.
-- Main result: `balance_le`. Assumes nothing.
use mathlib.Core.Path.{◌≡◌, refl, sym, subst}
use mathlib.Core.Bool.{Bool, true, false, not, ◌&&◌}
use mathlib.Core.List.{List}
use Prim.Native.Nat.{ℕ, zero, suc, ◌+◌, ◌*◌, ◌≤◌}
use native.Mathlib.Omega.{arith}
use native.Mathlib.Decide.{ℕ_discrete}
use lib.Dec.{T, eqb, eqb→eq}
use lib.Ieee.{Float, eq}
use Rattle.float64.specs.Values.{nought}
use Rattle.sequence.specs.Lists.{before}
use Rattle.network.specs.declared.Counts.{Counts}
use Rattle.network.specs.declared.Part.TheVariants.{BrFrom, BrTo}
use Rattle.network.specs.Layout.{wire}
use Rattle.susceptance.specs.Susceptance.{is_cell}
use Rattle.snapping.specs.Expr.{Expr, none}
use Rattle.kkt.specs.Slots.{gather_at, branch_parts, balance}
use Rattle.kkt_laws.proofs.Sums.{bit, bit_le, sum_mono, sum_add, sum_const, sum_swap, sum_le, sum_point}
use Rattle.kkt_laws.proofs.Counted.{listed}

-- ---- cell (p, q) is one cell

cell_column : (n j p q : ℕ) → before (λ i. bit (is_cell i j p q)) n ≤ bit (eqb j q)
cell_column n j p q = go (eqb j q)
  where
    left : (a b : Bool) → T (a && b) → T a
    left true b t = tt
    left false b t = t

    never : (a : Bool) → bit (a && false) ≤ 0
    never true = omega arith
    never false = omega arith

    go : (b : Bool) → before (λ i. bit (eqb i p && b)) n ≤ bit b
    go true = sum_point p (λ i. eqb i p && true) (λ i t. eqb→eq i p (left (eqb i p) true t)) n
    go false = omega (arith, sum_le n 0 (λ i. bit (eqb i p && false)) (λ i h. never (eqb i p)))

one_cell : (n p q : ℕ) → before (λ j. before (λ i. bit (is_cell i j p q)) n) n ≤ 1
one_cell n p q =
    omega (
      arith,
      sum_mono n (λ j. before (λ i. bit (is_cell i j p q)) n) (λ j. bit (eqb j q)) (λ j h. cell_column n j p q),
      sum_point q (λ j. eqb j q) (λ j t. eqb→eq j q t) n,
    )

-- ---- the cells that branches meet

module _ (c : Counts) (w : List ℕ) where
  -- branch e's two cells off the diagonal
  abbrev across : ℕ → ℕ → ℕ → ℕ
  across i j e = bit (is_cell i j (wire c w BrFrom e) (wire c w BrTo e)) + bit (is_cell i j (wire c w BrTo e) (wire c w BrFrom e))

  on_diagonal_lem : (i j p : ℕ) → T (is_cell i j p p) → T (eqb j i)
  on_diagonal_lem i j p = go (eqb i p) (eqb→eq i p)
    where
      go : (q : Bool) → (T q → i ≡ p) → T (q && eqb j p) → T (eqb j i)
      go true f t = subst (λ x. T (eqb j x)) (sym (f tt)) t
      go false f t = absurd t

  -- a cell off the diagonal that no branch meets is nothing
  unmet : (i j m : ℕ) → bit (eqb j i) + before (across i j) m ≡ 0 → branch_parts c w i j m ≡ none
  unfolding branch_parts before
  unmet i j zero h = refl
  unmet i j (suc e) h =
      go (is_cell i j (wire c w BrFrom e) (wire c w BrFrom e)) (is_cell i j (wire c w BrTo e) (wire c w BrTo e))
      (is_cell i j (wire c w BrFrom e) (wire c w BrTo e)) (is_cell i j (wire c w BrTo e) (wire c w BrFrom e))
      (on_diagonal_lem i j (wire c w BrFrom e)) (on_diagonal_lem i j (wire c w BrTo e)) (unmet i j e) h
    where
      sure : (q : Bool) → T q → 1 ≤ bit q
      sure true t = omega arith
      sure false t = absurd t

      go : (b₁ b₂ b₃ b₄ : Bool) → (T b₁ → T (eqb j i)) → (T b₂ → T (eqb j i))
          → (bit (eqb j i) + before (across i j) e ≡ 0 → branch_parts c w i j e ≡ none)
          → bit (eqb j i) + (before (across i j) e + (bit b₃ + bit b₄)) ≡ 0
          → gather_at b₄ false e (gather_at b₃ false e (gather_at b₂ true e (gather_at b₁ true e (branch_parts c w i j e)))) ≡ none
      go b₁ b₂ b₃ true f g ih z = absurd (omega arith)
      go b₁ b₂ true false f g ih z = absurd (omega arith)
      go b₁ true false false f g ih z = absurd (omega (arith, sure (eqb j i) (g tt)))
      go true false false false f g ih z = absurd (omega (arith, sure (eqb j i) (f tt)))
      go false false false false f g ih z = ih (omega arith)

  -- branch by branch over the whole matrix
  across_two : (n e : ℕ) → before (λ j. before (λ i. across i j e) n) n ≤ 2
  across_two n e =
      omega (
        arith,
        sum_mono n (λ j. before (λ i. across i j e) n)
            (λ j. before (λ i. bit (is_cell i j (wire c w BrFrom e) (wire c w BrTo e))) n + before (λ i. bit (is_cell i j (wire c w BrTo e) (wire c w BrFrom e))) n)
            (λ j h. omega (arith, sum_add n (λ i. bit (is_cell i j (wire c w BrFrom e) (wire c w BrTo e))) (λ i. bit (is_cell i j (wire c w BrTo e) (wire c w BrFrom e))))),
        sum_add n (λ j. before (λ i. bit (is_cell i j (wire c w BrFrom e) (wire c w BrTo e))) n) (λ j. before (λ i. bit (is_cell i j (wire c w BrTo e) (wire c w BrFrom e))) n),
        one_cell n (wire c w BrFrom e) (wire c w BrTo e),
        one_cell n (wire c w BrTo e) (wire c w BrFrom e),
      )

  across_le : before (λ j. before (λ i. before (across i j) c.branches) c.buses) c.buses ≤ 2 * c.branches
  across_le =
      omega (
        arith,
        sum_mono c.buses (λ j. before (λ i. before (across i j) c.branches) c.buses) (λ j. before (λ e. before (λ i. across i j e) c.buses) c.branches)
            (λ j h. omega (arith, sum_swap c.buses c.branches (λ i e. across i j e))),
        sum_swap c.buses c.branches (λ j e. before (λ i. across i j e) c.buses),
        sum_le c.branches 2 (λ e. before (λ j. before (λ i. across i j e) c.buses) c.buses) (λ e h. across_two c.buses e),
      )

  -- a figure that is zero where nothing is met
  module _ (g : Expr → Float) (dead : eq (g none) nought ≡ true) where
    listed_le : (i j : ℕ) → listed (g (balance c w i j)) ≤ bit (eqb j i) + before (across i j) c.branches
    listed_le i j = go (ℕ_discrete (bit (eqb j i) + before (across i j) c.branches) 0)
      where
        go : Dec (bit (eqb j i) + before (across i j) c.branches ≡ 0) → listed (g (balance c w i j)) ≤ bit (eqb j i) + before (across i j) c.branches
        go (yes e) = rw (unmet i j c.branches e, dead) (omega arith)
        go (no e) = omega (arith, bit_le (not (eq (g (balance c w i j)) nought)))

    pub balance_le : before (λ j. before (λ i. listed (g (balance c w i j))) c.buses) c.buses ≤ c.buses + 2 * c.branches
    balance_le =
        omega (
          arith,
          sum_mono c.buses (λ j. before (λ i. listed (g (balance c w i j))) c.buses) (λ j. 1 + before (λ i. before (across i j) c.branches) c.buses)
              (λ j h. omega (
                arith,
                sum_mono c.buses (λ i. listed (g (balance c w i j))) (λ i. bit (eqb j i) + before (across i j) c.branches) (λ i l. listed_le i j),
                sum_add c.buses (λ i. bit (eqb j i)) (λ i. before (across i j) c.branches),
                sum_point j (λ i. eqb j i) (λ i t. sym (eqb→eq j i t)) c.buses,
              )),
          sum_add c.buses (λ j. 1) (λ j. before (λ i. before (across i j) c.branches) c.buses),
          sum_const c.buses 1,
          across_le,
        )
