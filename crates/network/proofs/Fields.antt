-- Every field's readings are within its limits where base_mva, the first reading, is within its own and all later readings are raw readings.
-- Main result: `fields_flat`. Assumes nothing.
use mathlib.Core.Path.{◌≡◌, refl, sym, ap, subst, ◌∙◌}
use mathlib.Core.Bool.{Bool, true, false, ◌&&◌}
use mathlib.Core.List.{List}
use Prim.Native.Nat.{ℕ, zero, suc, ◌+◌, ◌≤◌, ◌<◌}
use native.Mathlib.Omega.{arith}
use lib.Dec.{T, eqb, eqb→eq}
use lib.ListN.{length, get_or, drop, length-drop}
use lib.Seq.{get_or-drop}
use lib.Ieee.{Float, nan}
use borrow.Author.Tests.{ne_eqb}
use Rattle.float64.specs.Values.{within, in_range, raw_limit, base_low, base_high}
use Rattle.sequence.specs.Lists.{every}
use Rattle.sequence.specs.Layout.{total, start}
use Rattle.sequence.proofs.Lists.{and_left, and_right, every_at, every_of, map_at}
use Rattle.sequence.proofs.Blocks.{inside, in_block}
use Rattle.network.specs.declared.Counts.{Counts}
use Rattle.network.specs.declared.Field.TheVariants.{BaseMva}
use Rattle.network.specs.Layout.{fields, rank, size, sizes, field_start, place, reading, ReadingsLaid}
use Rattle.network.specs.Numbers.{in_rank, field_at, field_holds, all_within}

-- two tests that follow from each other
same : (a b : Bool) → (a ≡ true → b ≡ true) → (b ≡ true → a ≡ true) → a ≡ b
same true b f g = sym (f refl)
same false true f g = g refl
same false false f g = refl

both : (a b : Bool) → a ≡ true → b ≡ true → a && b ≡ true
both a b p q = rw (p, q)

ranked : every (λ k. eqb (rank (field_at k)) k) 21 ≡ true
unfolding every
ranked = refl

-- the field of a rank has that rank
rank_of : (k : ℕ) → k < 21 → rank (field_at k) ≡ k
rank_of k h = eqb→eq (rank (field_at k)) k (subst T (sym (every_at (λ k. eqb (rank (field_at k)) k) 21 ranked k h)) tt)

module _ (c : Counts) (r : List Float) where
  abbrev x : ℕ → ℕ → Float
  x k j = get_or r (start (sizes c) k + j) nan

  reading_at : (k j : ℕ) → k < 21 → reading c r (field_at k) j ≡ x k j
  unfolding reading place field_start
  reading_at k j h = ap (λ (q : ℕ). x q j) (rank_of k h)

  size_at : (k : ℕ) → k < 21 → get_or (sizes c) k 0 ≡ size c (field_at k)
  size_at k h = map_at (size c) fields k BaseMva h

  later : (k : ℕ) (v : Float) → in_rank (suc k) v ≡ within raw_limit v
  unfolding in_rank
  later k v = rw (ne_eqb (suc k) 0 (λ e. omega arith))

  first : (v : Float) → in_rank 0 v ≡ in_range base_low base_high v
  unfolding in_rank
  first v = refl

  module _ (laid : ReadingsLaid c r) where
    holds_at : every (field_holds c r) 21 ≡ true → (k j : ℕ) → k < 21 → j < get_or (sizes c) k 0 → in_rank k (x k j) ≡ true
    unfolding field_holds
    holds_at e k j h l =
        sym (ap (in_rank k) (reading_at k j h)) ∙ every_at (λ i. in_rank k (reading c r (field_at k) i)) (size c (field_at k)) (every_at (field_holds c r) 21 e k h) j (omega (arith, size_at k h))

    base_holds : every (field_holds c r) 21 ≡ true → in_range base_low base_high (get_or r 0 nan) ≡ true
    base_holds e = sym (first (get_or r 0 nan)) ∙ holds_at e 0 0 (omega arith) (omega arith)

    rest_holds : every (field_holds c r) 21 ≡ true → all_within raw_limit (drop 1 r) ≡ true
    unfolding all_within
    rest_holds e = every_of _ _ (λ i h. rw (get_or-drop 1 r i nan) (at i (omega (arith, length-drop 1 r, laid.long))))
      where
        go : (i k j : ℕ) → k < 21 → j < get_or (sizes c) k 0 → 1 + i ≡ start (sizes c) k + j → within raw_limit (get_or r (1 + i) nan) ≡ true
        go i zero j h l q = absurd (omega arith)
        go i (suc k) j h l q = ap (λ (p : ℕ). within raw_limit (get_or r p nan)) q ∙ sym (later k (x (suc k) j)) ∙ holds_at e (suc k) j h l

        at : (i : ℕ) → 1 + i < total (sizes c) → within raw_limit (get_or r (1 + i) nan) ≡ true
        at i h = let p = in_block (sizes c) (1 + i) h in go i p.rank p.at p.ranked p.below p.place

    each_holds : in_range base_low base_high (get_or r 0 nan) ≡ true → all_within raw_limit (drop 1 r) ≡ true → (k j : ℕ) → k < 21 → j < get_or (sizes c) k 0 → in_rank k (x k j) ≡ true
    unfolding all_within
    each_holds b e zero zero h l = first (get_or r 0 nan) ∙ b
    each_holds b e zero (suc j) h l = absurd (omega arith)
    each_holds b e (suc k) j h l =
        let t : ℕ = start (sizes c) (suc k) + j in
        let q : t < length r = omega (arith, inside (sizes c) (suc k), laid.long) in
        go t q (omega arith)
      where
        go : (t : ℕ) → t < length r → 1 ≤ t → in_rank (suc k) (get_or r t nan) ≡ true
        go zero q z = absurd (omega arith)
        go (suc i) q z =
            let s : suc i ≡ 1 + i = omega arith in
            later k (get_or r (suc i) nan) ∙ ap (λ (p : ℕ). within raw_limit (get_or r p nan)) s ∙ sym (ap (within raw_limit) (get_or-drop 1 r i nan))
            ∙ every_at (λ i. within raw_limit (get_or (drop 1 r) i nan)) (length (drop 1 r)) e i (omega (arith, length-drop 1 r))

    pub fields_flat : in_range base_low base_high (get_or r 0 nan) && all_within raw_limit (drop 1 r) ≡ every (field_holds c r) 21
    unfolding field_holds
    fields_flat =
        let base : Bool = in_range base_low base_high (get_or r 0 nan) in
        let rest : Bool = all_within raw_limit (drop 1 r) in
        same (base && rest) (every (field_holds c r) 21)
        (λ e. let b = and_left base rest e in let d = and_right base rest e in
        every_of (field_holds c r) 21 (λ k h. every_of _ _ (λ j l. ap (in_rank k) (reading_at k j h) ∙ each_holds b d k j h (omega (arith, size_at k h)))))
        (λ e. both base rest (base_holds e) (rest_holds e))
