-- Active limits are numbered 0, 1, 2, .. in order, each number met once; a linear row holds as many places as it has rows, one after the other.
-- Main results: `rank_below`, `rank_apart`, `rank_met`, `rank_few`; `piece_rank_lem`; `equality_few`, `equality_apart`, `equality_met`, `inequality_few`, `inequality_apart`, `inequality_met`. Assumes nothing.
use mathlib.Core.Path.{◌≡◌, refl, sym, subst}
use mathlib.Core.Bool.{Bool, true, false, cond, not}
use mathlib.Core.List.{List}
use Prim.Native.Nat.{ℕ, zero, suc, ◌+◌, ◌*◌, ◌-◌, ◌≤◌, ◌<◌}
use native.Mathlib.Omega.{arith}
use native.Mathlib.Decide.{dec_lt}
use lib.Dec.{T, eqb}
use lib.Ieee.{Float}
use Rattle.sequence.specs.Lists.{before}
use Rattle.sequence.proofs.Lists.{before_within, before_same, before_bound, before_apart}
use Rattle.network.specs.declared.Counts.{Counts}
use Rattle.network.specs.declared.Part.TheVariants.{Segments}
use Rattle.network.specs.Layout.{segments_at}
use Rattle.model.specs.Rows.{row_limits}
use Rattle.solution.specs.Sheet.{piece, piece_rank}
use Rattle.opf_layout.specs.Layout.{active_rank, flagged, equalities, inequalities, equality_rank, inequality_rank}
use Rattle.opf_layout.proofs.Counting.{equalities_few, inequalities_few}

-- ---- widths that lie one after the other

-- a place of one lies below the sum of all
pub width_below : (f : ℕ → ℕ) (i n t : ℕ) → i < n → t < f i → before f i + t < before f n
width_below f i n t h l = omega (arith, before_within f i n h)

-- place k belongs to one of the first n
pub record Held (f : ℕ → ℕ) (n k : ℕ) : Type 0 where
  pub index : ℕ
  pub at : ℕ
  pub below : index < n
  pub inside : at < f index
  pub is : k ≡ before f index + at

-- each place below the sum does
pub width_met : (f : ℕ → ℕ) (n k : ℕ) → k < before f n → Held f n k
unfolding before
width_met f zero k h = absurd (omega arith)
width_met f (suc n) k h = go (dec_lt k (before f n)) (width_met f n k)
  where
    earlier : Held f n k → Held f (suc n) k
    earlier p = record { index = p.index; at = p.at; below = omega (arith, p.below); inside = p.inside; is = p.is }

    go : Dec (k < before f n) → (k < before f n → Held f n k) → Held f (suc n) k
    go (yes l) g = earlier (g l)
    go (no l) g = record { index = n; at = k - before f n; below = omega arith; inside = omega arith; is = omega arith }

-- ---- active limits

-- an active one has a place of its own
own : (x : Bool) → x ≡ true → 0 < cond x 1 0
own true e = omega arith
own false e = absurd (subst T (sym e) tt)

-- and none but an active one
owned : (x : Bool) (t : ℕ) → t < cond x 1 0 → (x ≡ true) × (t ≡ 0)
owned true t h = (refl, omega arith)
owned false t h = absurd (omega arith)

-- its number lies below those of later ones, and below the count of all
pub rank_below : (on : ℕ → Bool) (i n : ℕ) → on i ≡ true → i < n → active_rank on i < active_rank on n
unfolding active_rank
rank_below on i n e h = omega (arith, width_below (λ i. cond (on i) 1 0) i n 0 h (own (on i) e))

-- no other has it
pub rank_apart : (on : ℕ → Bool) (i j : ℕ) → on i ≡ true → on j ≡ true → active_rank on i ≡ active_rank on j → i ≡ j
unfolding active_rank
rank_apart on i j p q e = (before_apart (λ i. cond (on i) 1 0) i j 0 0 (own (on i) p) (own (on j) q) (omega (arith, e))).0

-- k is the number of one of the first n, an active one
pub record Met (on : ℕ → Bool) (n k : ℕ) : Type 0 where
  pub index : ℕ
  pub below : index < n
  pub active : on index ≡ true
  pub is : active_rank on index ≡ k

-- each number below the count is met
pub rank_met : (on : ℕ → Bool) (n k : ℕ) → k < active_rank on n → Met on n k
unfolding active_rank
rank_met on n k h = go (width_met (λ i. cond (on i) 1 0) n k h)
  where
    go : Held (λ i. cond (on i) 1 0) n k → Met on n k
    go p =
        let q = owned (on p.index) p.at p.inside in
        record { index = p.index; below = p.below; active = q.0; is = omega (arith, p.is, q.1) }

-- 1 for an active one, 0 for another
abbrev pub one_of : (ℕ → Bool) → ℕ → ℕ
one_of on i = cond (on i) 1 0

one_few : (b : Bool) → cond b 1 0 ≤ 1
one_few true = omega arith
one_few false = omega arith

-- no more are active than there are
pub rank_few : (on : ℕ → Bool) (n : ℕ) → active_rank on n ≤ n
unfolding active_rank
rank_few on n = omega (arith, before_bound (λ i. cond (on i) 1 0) 1 n (λ i h. one_few (on i)))

-- ---- piecewise generators

flip : (x : Bool) → ◌≡◌ {A = ℕ} (cond x 0 1) (cond (not x) 1 0)
flip true = refl
flip false = refl

-- they are numbered likewise: those whose word of segments is not 0
pub piece_rank_lem : (c : Counts) (w : List ℕ) (j : ℕ) → piece_rank c w j ≡ active_rank (flagged c w Segments) j
unfolding piece_rank active_rank
piece_rank_lem c w j = before_same (piece c w) (λ i. cond (flagged c w Segments i) 1 0) j (λ i l. flip (eqb (segments_at c w i) 0))

-- ---- linear rows

module _ (c : Counts) (w : List ℕ) (r : List Float) where
  -- how many places row q holds among the equalities, and among the inequalities
  abbrev pub equal : ℕ → ℕ
  equal q = equalities (row_limits c w r q)

  abbrev pub limit : ℕ → ℕ
  limit q = inequalities (row_limits c w r q)

  -- no more than the rows have at most
  pub equality_few : (n : ℕ) → equality_rank c w r n ≤ n
  unfolding equality_rank
  equality_few n = omega (arith, before_bound equal 1 n (λ q h. equalities_few (row_limits c w r q)))

  pub inequality_few : (n : ℕ) → inequality_rank c w r n ≤ 2 * n
  unfolding inequality_rank
  inequality_few n = omega (arith, before_bound limit 2 n (λ q h. inequalities_few (row_limits c w r q)))

  -- a place of row q lies before the rows after it, and below the count of all
  pub equality_below : (q n t : ℕ) → q < n → t < equal q → equality_rank c w r q + t < equality_rank c w r n
  unfolding equality_rank
  equality_below q n t h l = width_below equal q n t h l

  pub inequality_below : (q n t : ℕ) → q < n → t < limit q → inequality_rank c w r q + t < inequality_rank c w r n
  unfolding inequality_rank
  inequality_below q n t h l = width_below limit q n t h l

  -- rows do not overlap
  pub equality_apart : (q p t s : ℕ) → t < equal q → s < equal p → equality_rank c w r q + t ≡ equality_rank c w r p + s → (q ≡ p) × (t ≡ s)
  unfolding equality_rank
  equality_apart q p t s ht hs e = before_apart equal q p t s ht hs e

  pub inequality_apart : (q p t s : ℕ) → t < limit q → s < limit p → inequality_rank c w r q + t ≡ inequality_rank c w r p + s → (q ≡ p) × (t ≡ s)
  unfolding inequality_rank
  inequality_apart q p t s ht hs e = before_apart limit q p t s ht hs e

  -- each place below the count belongs to a row
  pub record EqualityMet (n k : ℕ) : Type 0 where
    pub row : ℕ
    pub at : ℕ
    pub below : row < n
    pub inside : at < equal row
    pub is : k ≡ equality_rank c w r row + at

  pub record InequalityMet (n k : ℕ) : Type 0 where
    pub row : ℕ
    pub at : ℕ
    pub below : row < n
    pub inside : at < limit row
    pub is : k ≡ inequality_rank c w r row + at

  pub equality_met : (n k : ℕ) → k < equality_rank c w r n → EqualityMet n k
  unfolding equality_rank
  equality_met n k h =
      let p = width_met equal n k h in
      record { row = p.index; at = p.at; below = p.below; inside = p.inside; is = p.is }

  pub inequality_met : (n k : ℕ) → k < inequality_rank c w r n → InequalityMet n k
  unfolding inequality_rank
  inequality_met n k h =
      let p = width_met limit n k h in
      record { row = p.index; at = p.at; below = p.below; inside = p.inside; is = p.is }
