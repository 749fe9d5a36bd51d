-- The laws of chains: how they are linked, and that a walk along one is the plain scan over every index.
-- Main results: `links_none`, `links_more`, `scan_skip`, `scan_hit`, `walk_more`. Assumes nothing.
use mathlib.Core.Path.{◌≡◌, refl, sym, ◌∙◌}
use mathlib.Core.List.{List, ◌++◌}
use Prim.Native.Nat.{ℕ, ◌+◌, ◌≤◌, ◌<◌}
use native.Mathlib.Omega.{arith}
use native.Mathlib.Decide.{ℕ_discrete}
use lib.ListN.{length, get_or, set}
use lib.Dec.{eqb}
use borrow.Author.Tests.{eq-eqb, ne_eqb}
use Rattle.sequence.specs.Lists.{each, when}
use Rattle.sequence.specs.Links.{First, Links}
use Rattle.sequence.specs.declared.Triplet.{Triplet}
use Rattle.sequence.specs.declared.Sink.{Sink}
use Rattle.sequence.specs.Sinks.{Gains}
use Rattle.sequence.proofs.Lists.{each_skip, each_more, stored_at}
use Rattle.sequence.proofs.Sinks.{none, then}

-- one word more is filled
pub filled_more : {A : Type 0} (l : List A) (v : A) (j : ℕ) (d : A) → j < length l → ((x : ℕ) → x < j → get_or l x d ≡ v) → (x : ℕ) → x < j + 1 → get_or (set l j v) x d ≡ v
filled_more l v j d h f x k = stored_at (λ y. y ≡ v) l j v x d h (λ e. refl) (λ n. f x (omega (arith, n)))

-- no index yet: every chain is empty
pub links_none : {key : ℕ → ℕ} {b c : ℕ} {head next : List ℕ} → ((j : ℕ) → j < b → get_or head j 0 ≡ c) → Links key b c c head next
links_none h = record {
  heads = λ j k. rw (h j k) (record { low = omega arith; high = omega arith; none = λ x p q e. omega arith; hit = λ p. absurd (omega arith) });
  nexts = λ x p q. absurd (omega arith);
}

-- index i goes before the chain of its key
pub links_more : {key : ℕ → ℕ} {b c i : ℕ} {head next : List ℕ} → key i < b → b ≤ length head → i < length next → i < c
    → Links key b c (i + 1) head next → Links key b c i (set head (key i) i) (set next i (get_or head (key i) 0))
links_more {key} {b} {c} {i} {head} {next} kb bh inx ic l = record {
  heads = λ j k. stored_at (First key c j i) head (key i) i j 0 (omega arith)
      (λ e. record { low = omega arith; high = omega arith; none = λ x p q. absurd (omega arith); hit = λ _. sym e })
      (λ d. let f : First key c j (i + 1) (get_or head j 0) = l.heads j k in
      record { low = omega arith; high = f.high; none = λ x p q e. go x j d f p q e (ℕ_discrete x i); hit = f.hit });
  nexts = λ x p q. stored_at (First key c (key x) (x + 1)) next i (get_or head (key i) 0) x 0 inx
      (λ e. rw e (l.heads (key i) kb))
      (λ d. l.nexts x (omega (arith, d)) q);
}
  where
    go : (x j : ℕ) → (j ≡ key i → ⊥) → First key c j (i + 1) (get_or head j 0) → i ≤ x → x < get_or head j 0 → key x ≡ j → Dec (x ≡ i) → ⊥
    go x j d f p q e (yes z) = d (sym (rw z at e))
    go x j d f p q e (no t) = f.none x (omega (arith, t)) q e

-- what a chain's head and its next are, read into a variable z
pub head_of : {key : ℕ → ℕ} {b c : ℕ} {head next : List ℕ} (j z : ℕ) → Links key b c 0 head next → j < b → z ≡ get_or head j 0 → First key c j 0 z
head_of j z l h e = rw e (l.heads j h)

pub next_of : {key : ℕ → ℕ} {b c : ℕ} {head next : List ℕ} (j x z : ℕ) → Links key b c 0 head next → x < c → key x ≡ j → z ≡ get_or next x 0 → First key c j (x + 1) z
next_of j x z l h k e = rw (e, ← k) (l.nexts x (omega arith) h)

-- ---- a chain and the scan of every index, for what turns append

module _ {A : Type 0} (key : ℕ → ℕ) (j : ℕ) (g : ℕ → List A) where
  -- every index, kept where its key is j
  abbrev pub scan : ℕ → List A
  scan c = each c (λ x. when (eqb (key x) j) (g x))

  -- the indices before the first one of the chain append nothing
  pub scan_skip : {c a z : ℕ} → First key c j a z → scan z ≡ scan a
  unfolding when
  scan_skip {a = a} {z} f = each_skip _ a z f.low (λ x p q. rw (ne_eqb (key x) j (f.none x p q)))

  -- and one of the chain appends its own
  pub scan_hit : {x : ℕ} → key x ≡ j → scan (x + 1) ≡ scan x ++ g x
  unfolding when
  scan_hit {x} e = each_more _ x ∙ rw (eq-eqb (key x) j e)

-- a walk of a chain begins at its head, and goes on by next
module _ (key : ℕ → ℕ) (j : ℕ) (g : ℕ → List Triplet) {S₀ : Sink} where
  pub walk_begin : {c z : ℕ} → First key c j 0 z → Gains (scan key j g z) S₀ S₀
  unfolding each
  walk_begin f = rw (scan_skip key j g f) none

  pub walk_more : {c x z : ℕ} {S₁ S₂ : Sink} → key x ≡ j → First key c j (x + 1) z
      → Gains (scan key j g x) S₀ S₁ → Gains (g x) S₁ S₂ → Gains (scan key j g z) S₀ S₂
  walk_more e f p q = rw (scan_skip key j g f, scan_hit key j g e) (then p q)
