-- Runs of words, one after the other: a word by its run and its place in it, and by the block that it stands in.
-- Main results: `block_at`, `one_at`, `rank_at`. Assumes nothing.
use mathlib.Core.Path.{◌≡◌, refl, sym, ap, ◌∙◌, subst}
use mathlib.Core.Bool.{Bool, true, false, cond}
use mathlib.Core.List.{List, [], ◌∷◌}
use Prim.Native.Nat.{ℕ, ◌+◌, ◌<◌}
use native.Mathlib.Omega.{arith}
use lib.Dec.{T}
use lib.ListN.{length, get_or}
use Rattle.sequence.specs.Layout.{start}
use Rattle.sequence.specs.Lists.{each, when}
use Rattle.sequence.proofs.Lists.{each_at}
use Rattle.sequence.proofs.Blocks.{before_start}
use Rattle.opf_layout.specs.Layout.{active_rank}
use Rattle.opf_assembly.proofs.Lengths.{one_before, when_long}

active_one : (b : Bool) → b ≡ true → 0 < cond b 1 0
active_one true e = omega arith
active_one false e = absurd (subst T (sym e) tt)

module _ {A : Type 0} where
  -- word t of the block of rank k
  pub block_at : (f : ℕ → List A) (sizes : List ℕ) (n : ℕ) → ((k : ℕ) → k < n → length (f k) ≡ get_or sizes k 0) → (k t : ℕ) (d : A) → k < n → t < get_or sizes k 0
      → get_or (each n f) (start sizes k + t) d ≡ get_or (f k) t d
  block_at f sizes n h k t d l m =
      ap (λ (x : ℕ). get_or (each n f) (x + t) d) (sym (before_start sizes k)) ∙ each_at f (λ i. get_or sizes i 0) n h k t d l m

  -- of words that stand alone
  pub one_at : (f : ℕ → A) (n k : ℕ) (d : A) → k < n → get_or (each n (λ i. f i ∷ [])) k d ≡ f k
  one_at f n k d l =
      ap (λ (x : ℕ). get_or (each n (λ i. f i ∷ [])) x d) (omega (arith, one_before k))
      ∙ each_at (λ i. f i ∷ []) (λ i. 1) n (λ i h. refl) k 0 d l (omega arith)

  -- and of those that only active ones have
  when_at : (b : Bool) (x d : A) → b ≡ true → get_or (when b (x ∷ [])) 0 d ≡ x
  unfolding when
  when_at true x d e = refl
  when_at false x d e = absurd (subst T (sym e) tt)

  pub rank_at : (on : ℕ → Bool) (f : ℕ → A) (n k : ℕ) (d : A) → k < n → on k ≡ true → get_or (each n (λ i. when (on i) (f i ∷ []))) (active_rank on k) d ≡ f k
  unfolding active_rank
  rank_at on f n k d l e =
      ap (λ (x : ℕ). get_or (each n (λ i. when (on i) (f i ∷ []))) x d) (omega arith)
      ∙ each_at (λ i. when (on i) (f i ∷ [])) (λ i. cond (on i) 1 0) n (λ i h. when_long (on i) (f i)) k 0 d l (active_one (on k) e)
      ∙ when_at (on k) (f k) d e
