-- A walk's word is the definition's where its running ranks are; a linear row's places lie among all of them.
-- Main results: `equal_room`, `limit_room`, `equal_more`, `limit_more`, `flag_met`, `whole`. Assumes nothing.
use mathlib.Core.Path.{◌≡◌, refl, sym, ap, ◌∙◌}
use mathlib.Core.Bool.{Bool, true, false, not}
use mathlib.Core.List.{List}
use Prim.Native.Nat.{ℕ, ◌+◌, ◌-◌, ◌≤◌, ◌<◌}
use native.Mathlib.Nat.{add-zero}
use native.Mathlib.Omega.{arith}
use lib.Dec.{eqb}
use lib.ListN.{length, get_or, take, drop, length-drop}
use Rattle.std.proofs.lemmas.List.{take_all}
use lib.Ieee.{Float, nan}
use Rattle.sequence.specs.Lists.{made}
use Rattle.sequence.proofs.Lists.{before_none, before_more, before_within}
use Rattle.sequence.proofs.Fronts.{Fronted}
use Rattle.network.specs.declared.Counts.{Counts}
use Rattle.network.specs.declared.Part.{Part}
use Rattle.network.specs.Layout.{wire}
use Rattle.model.specs.declared.RowLimits.{RowLimits}
use Rattle.model.specs.Rows.{row_limits}
use Rattle.sens_snap.proofs.Stores.{all_made}
use Rattle.opf_layout.specs.Layout.{active_rank, flagged, equalities, inequalities, equality_rank, inequality_rank}
use Rattle.opf_layout.proofs.Counting.{rank_more}
use Rattle.opf_readback.specs.Walks.{picked_at}

-- a flag is set where its word is not 0
pub flag_met : (c : Counts) (w : List ℕ) (part : Part) (i : ℕ) {x : ℕ} → x ≡ wire c w part i → not (eqb x 0) ≡ flagged c w part i
flag_met c w part i e = rw e

module _ (c : Counts) (w : List ℕ) (r : List Float) where
  -- a row's places end within all of them
  pub equal_room : (q : ℕ) {k : ℕ} {limits : RowLimits} → q < c.rows → limits ≡ row_limits c w r q → k ≡ equality_rank c w r q
      → k + equalities limits ≤ equality_rank c w r c.rows
  unfolding equality_rank
  equal_room q h e g = rw (e, g) (before_within (λ i. equalities (row_limits c w r i)) q c.rows h)

  pub limit_room : (q : ℕ) {l : ℕ} {limits : RowLimits} → q < c.rows → limits ≡ row_limits c w r q → l ≡ inequality_rank c w r q
      → l + inequalities limits ≤ inequality_rank c w r c.rows
  unfolding inequality_rank
  limit_room q h e g = rw (e, g) (before_within (λ i. inequalities (row_limits c w r i)) q c.rows h)

  -- numbering begins at 0, and goes on by a row's own
  pub equal_none : 0 ≡ equality_rank c w r 0
  unfolding equality_rank
  equal_none = before_none _

  pub limit_none : 0 ≡ inequality_rank c w r 0
  unfolding inequality_rank
  limit_none = before_none _

  pub equal_more : (q : ℕ) {k n : ℕ} {limits : RowLimits} → k ≡ equality_rank c w r q → n ≡ equalities limits → limits ≡ row_limits c w r q
      → k + n ≡ equality_rank c w r (q + 1)
  unfolding equality_rank
  equal_more q e h g = rw (before_more, ← e, h, g)

  pub limit_more : (q : ℕ) {l n : ℕ} {limits : RowLimits} → l ≡ inequality_rank c w r q → n ≡ inequalities limits → limits ≡ row_limits c w r q
      → l + n ≡ inequality_rank c w r (q + 1)
  unfolding inequality_rank
  limit_more q e h g = rw (before_more, ← e, h, g)

-- a front as long as its sheet is the whole of it
pub whole : (f : ℕ → Float) (old : List Float) {i : ℕ} {new : List Float} → Fronted f i old new → i ≡ length old → new ≡ made f (length old)
whole f old p e = all_made p (sym e) ∙ ap (λ (n : ℕ). made f n) e

-- the rest of a list from a place on
pub rest_is : (xs : List Float) (k : ℕ) → take (length xs - k) (drop k xs) ≡ drop k xs
rest_is xs k = take_all (length xs - k) (drop k xs) (rw length-drop (omega arith))

pub rest_long : (xs : List Float) (k n : ℕ) {m : ℕ} → k + n ≤ m → m ≤ length xs → n ≤ length (take (length xs - k) (drop k xs))
rest_long xs k n h l = rw (rest_is xs k, length-drop) (omega arith)

-- ---- words by rank

module _ (on : ℕ → Bool) (block : List Float) (other : ℕ → Float) (i : ℕ) {met : Bool} (q : met ≡ on i) where
  pub picked_word : {k : ℕ} → met ≡ true → k ≡ active_rank on i → get_or block k nan ≡ picked_at on block other i
  picked_word e h = rw (← q, e, h)

  pub other_word : {v : Float} → met ≡ false → v ≡ other i → v ≡ picked_at on block other i
  other_word e h = rw (← q, e, h)

  pub rank_next : {k : ℕ} → met ≡ true → k ≡ active_rank on i → k + 1 ≡ active_rank on (i + 1)
  rank_next e h = rank_more on i h refl (sym e ∙ q)

  pub rank_same : {k : ℕ} → met ≡ false → k ≡ active_rank on i → k ≡ active_rank on (i + 1)
  rank_same {k} e h = sym (add-zero k) ∙ rank_more on i h refl (sym e ∙ q)
