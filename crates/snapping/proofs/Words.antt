-- How many words the results have: as many for each entry as the sheet gives it, three for each row.
-- Main results: `segment_long`, `entry_long`, `snap_long`, `dual_long`; `of_segment`, `of_plain`; `entry_inside`, `entry_small`, `entry_next`. Assumes nothing.
use mathlib.Core.Path.{◌≡◌, refl, sym, ◌∙◌, subst}
use mathlib.Core.Bool.{true, false}
use mathlib.Core.List.{List}
use mathlib.Core.Logic.{◌⊎◌, inl, inr, ⊎_elim}
use Prim.Native.Nat.{ℕ, zero, suc, ◌+◌, ◌*◌, ◌≤◌, ◌<◌, suc-le-suc}
use native.Mathlib.Nat.{le_trans}
use native.Mathlib.Numerals.{add-one}
use native.Mathlib.Omega.{arith}
use mir.Syntax.{w64}
use mir.Val.{Fits}
use lib.Dec.{T, eqb}
use lib.ListN.{length, get_or}
use lib.Ieee.{Float}
use Rattle.sequence.specs.Layout.{start}
use Rattle.sequence.specs.Lists.{before}
use Rattle.sequence.proofs.Blocks.{inside, start_suc, before_start}
use Rattle.sequence.proofs.Lists.{made_length, each_long, map_at}
use Rattle.network.specs.declared.Counts.{Counts}
use Rattle.network.specs.Layout.{segments_at, Few}
use Rattle.network.specs.Numbers.{Wired}
use Rattle.solution.specs.declared.Entry.{Entry}
use Rattle.solution.specs.declared.Entry.TheVariants.{Va, Pg, Flow, Psh, NuBal, LamUb, LamLb, RhoUb, RhoLb, MuUb, MuLb, GammaUb, GammaLb, Epigraph, SegmentDual, LinearDual, LinearValue, Objective}
use Rattle.solution.specs.Sheet.{entries, rank, size, sizes, sheet_length}
use Rattle.snapping.specs.Snap.{segment_words, plain_words, entry_words, snap_sheet, dual_words, dual_sheet}

before_threes : (n : ℕ) → before (λ i. 3) n ≡ 3 * n
unfolding before
before_threes zero = refl
before_threes (suc n) = rw (before_threes n) (omega arith)

-- ---- where the next entry starts

pub entry_size : (c : Counts) (p k : ℕ) → k < 18 → get_or (sizes c p) k 0 ≡ size c p (get_or entries k Va)
entry_size c p k h = map_at (size c p) entries k Va h

start_next : (c : Counts) (p k : ℕ) → k < 18 → start (sizes c p) (k + 1) ≡ start (sizes c p) k + size c p (get_or entries k Va)
start_next c p k h = rw (add-one, start_suc (sizes c p) k, entry_size c p k h)

module _ (c : Counts) (w : List ℕ) (p : ℕ) (r s : List Float) where
  pub segment_long : (j : ℕ) → length (segment_words c w p r s j) ≡ segments_at c w j
  unfolding segment_words
  segment_long j = made_length _ (segments_at c w j)

  plain_long : (e : Entry) → length (plain_words c w p r s e) ≡ size c p e
  unfolding plain_words
  plain_long e = made_length _ (size c p e)

  -- the segment duals' entry, and each other one
  abbrev Kind : Entry → Type 0
  Kind e = (e ≡ SegmentDual) ⊎ ((eqb (rank e) 14 ≡ false) × (entry_words c w p r s e ≡ plain_words c w p r s e))

  kind : (e : Entry) → Kind e
  kind Va = inr (refl, refl)
  kind Pg = inr (refl, refl)
  kind Flow = inr (refl, refl)
  kind Psh = inr (refl, refl)
  kind NuBal = inr (refl, refl)
  kind LamUb = inr (refl, refl)
  kind LamLb = inr (refl, refl)
  kind RhoUb = inr (refl, refl)
  kind RhoLb = inr (refl, refl)
  kind MuUb = inr (refl, refl)
  kind MuLb = inr (refl, refl)
  kind GammaUb = inr (refl, refl)
  kind GammaLb = inr (refl, refl)
  kind Epigraph = inr (refl, refl)
  kind SegmentDual = inl refl
  kind LinearDual = inr (refl, refl)
  kind LinearValue = inr (refl, refl)
  kind Objective = inr (refl, refl)

  pub of_segment : (e : Entry) → eqb (rank e) 14 ≡ true → e ≡ SegmentDual
  of_segment e h = ⊎_elim (λ z. z) (λ z. absurd (subst T (sym h ∙ z.0) tt)) (kind e)

  pub of_plain : (e : Entry) → eqb (rank e) 14 ≡ false → entry_words c w p r s e ≡ plain_words c w p r s e
  of_plain e h = ⊎_elim (λ z. absurd (subst T (rw z at h) tt)) (λ z. z.1) (kind e)

  pub entry_long : Wired c w → (e : Entry) → length (entry_words c w p r s e) ≡ size c p e
  entry_long h e =
      ⊎_elim
      (λ z. rw z (each_long (segment_words c w p r s) (segments_at c w) c.generators (λ j l. segment_long j) ∙ h.segments_sum))
      (λ z. rw z.1 (plain_long e))
      (kind e)

  pub snap_long : Wired c w → length (snap_sheet c w p r s) ≡ sheet_length c p
  unfolding snap_sheet
  snap_long h =
      each_long (λ k. entry_words c w p r s (get_or entries k Va)) (λ k. get_or (sizes c p) k 0) 18
      (λ k l. entry_long h (get_or entries k Va) ∙ sym (entry_size c p k l))
      ∙ before_start (sizes c p) 18

pub dual_long : (c : Counts) (w ti : List ℕ) (tc : List Float) (p : ℕ) (r s : List Float) → length (dual_sheet c w ti tc p r s) ≡ 3 * c.rows
unfolding dual_words
dual_long c w ti tc p r s = each_long (dual_words c w ti tc p r s) (λ q. 3) c.rows (λ q l. refl) ∙ before_threes c.rows

small : (at n : ℕ) → at + n < 0x1_0000 → (at < 0x1_0000) × Fits w64 (at + n)
small at n h = (omega arith, omega arith)

-- an entry ends within the sheet, which is no longer than the limits allow
module _ (c : Counts) (p k : ℕ) {at : ℕ} (h : k < 18) (e : at ≡ start (sizes c p) k) where
  pub entry_inside : at + size c p (get_or entries k Va) ≤ sheet_length c p
  entry_inside = rw (e, ← (entry_size c p k h)) (inside (sizes c p) k)

  pub entry_small : Few c → p ≤ c.generators → (at < 0x1_0000) × Fits w64 (at + size c p (get_or entries k Va))
  entry_small f l =
      let b : sheet_length c p < 0x1_0000 = omega (arith, f) in
      small at (size c p (get_or entries k Va)) (le_trans (suc-le-suc entry_inside) b)

  pub entry_next : {n : ℕ} → n ≡ size c p (get_or entries k Va) → at + n ≡ start (sizes c p) (k + 1)
  entry_next q = rw (start_next c p k h, e, q)
