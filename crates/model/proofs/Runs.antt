-- A generator's segments and a row's terms stand in a run, and each run ends within the whole.
-- Main results: `segments_inside`, `terms_inside`, `flow_run`, `generation_run`. Assumes nothing.
use mathlib.Core.Path.{◌≡◌, refl}
use mathlib.Core.List.{List}
use Prim.Native.Nat.{ℕ, ◌+◌, ◌≤◌, ◌<◌}
use native.Mathlib.Omega.{arith}
use lib.ListN.{length, get_or}
use lib.Ieee.{Float}
use Rattle.sequence.specs.Lists.{before}
use Rattle.sequence.proofs.Lists.{before_more, before_le, before_within}
use Rattle.network.specs.declared.Counts.{Counts}
use Rattle.network.specs.declared.Part.TheVariants.{FlowTerms, GenerationTerms}
use Rattle.network.specs.Layout.{wire, segments_at, segment_start, row_terms, term_start}
use Rattle.network.specs.Numbers.{Wired, Termed}

pub segments_none : (c : Counts) (w : List ℕ) → 0 ≡ segment_start c w 0
unfolding segment_start before
segments_none c w = refl

pub segments_more : (c : Counts) (w : List ℕ) (j : ℕ) → segment_start c w (j + 1) ≡ segment_start c w j + segments_at c w j
unfolding segment_start
segments_more c w j = before_more (segments_at c w) j

pub terms_none : (c : Counts) (w : List ℕ) → 0 ≡ term_start c w 0
unfolding term_start before
terms_none c w = refl

pub terms_more : (c : Counts) (w : List ℕ) (q : ℕ) → term_start c w (q + 1) ≡ term_start c w q + row_terms c w q
unfolding term_start
terms_more c w q = before_more (row_terms c w) q

module _ {c : Counts} {w : List ℕ} (h : Wired c w) where
  pub segments_within : (j : ℕ) → j ≤ c.generators → segment_start c w j ≤ c.segments
  unfolding segment_start
  segments_within j l = omega (arith, before_le (segments_at c w) j c.generators l, h.segments_sum)

  pub segments_inside : (j : ℕ) → j < c.generators → segment_start c w j + segments_at c w j ≤ c.segments
  unfolding segment_start
  segments_inside j l = omega (arith, before_within (segments_at c w) j c.generators l, h.segments_sum)

  pub terms_within : (q : ℕ) → q ≤ c.rows → term_start c w q ≤ c.terms
  unfolding term_start
  terms_within q l = omega (arith, before_le (row_terms c w) q c.rows l, h.terms_sum)

  pub terms_inside : (q : ℕ) → q < c.rows → term_start c w q + row_terms c w q ≤ c.terms
  unfolding term_start
  terms_inside q l = omega (arith, before_within (row_terms c w) q c.rows l, h.terms_sum)

-- a row's flow terms lie in the slices and name branches, and so its generation terms and generators
module _ {c : Counts} {w ti : List ℕ} {tc : List Float} (h : Wired c w) (k : Termed c w ti tc) (q : ℕ) (l : q < c.rows) {at n size : ℕ} where
  pub flow_run : at ≡ term_start c w q → n ≡ wire c w FlowTerms q → size ≡ c.branches
      → (at + n ≤ length ti) × ((at + n ≤ length tc) × ((t : ℕ) → t < n → get_or ti (at + t) 0 < size))
  flow_run p e b =
      let i : at + n ≤ c.terms = omega (arith, terms_inside h q l) in
      (omega (arith, k.indexes_long), (omega (arith, k.coefficients_long), λ t s. rw (p, b) (k.flow_terms q t l (rw e at s))))

  pub generation_run : at ≡ term_start c w q + wire c w FlowTerms q → n ≡ wire c w GenerationTerms q → size ≡ c.generators
      → (at + n ≤ length ti) × ((at + n ≤ length tc) × ((t : ℕ) → t < n → get_or ti (at + t) 0 < size))
  generation_run p e b =
      let i : at + n ≤ c.terms = omega (arith, terms_inside h q l) in
      (omega (arith, k.indexes_long), (omega (arith, k.coefficients_long), λ t s. rw (p, b) (k.generation_terms q t l (rw e at s))))
