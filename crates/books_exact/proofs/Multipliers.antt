-- Of all constraints one only has a given multiplier, family by family: a sum over those that have it is that constraint's own term.
-- Main results: `at_flow_floor` and its like, one for each block of multipliers. Assumes nothing.
use mathlib.Core.Path.{◌≡◌, ◌∙◌}
use mathlib.Mathlib.Algebra.Ring.Defs.{CommRing}
use Prim.Native.Nat.{ℕ, ◌+◌ as ◌plus◌, ◌<◌}
use Rattle.network.specs.Layout.{segments_at, segment_start}
use Rattle.kkt_index.specs.declared.Block.TheVariants.{LamLb, LamUb, GammaLb, GammaUb, RhoLb, RhoUb, MuLb, MuUb, Segments, Linear, NuBal, NuFlow, Eta}
use Rattle.kkt_index.specs.Index.{width}
use Rattle.exact.specs.Ring.{sum, only}
use Rattle.books.specs.Forms.{Place}
use Rattle.books.specs.Convex.{Constraint}
use Rattle.books.specs.Manual.{Site, constraints, balance, flow_law, reference, flow_floor, flow_ceiling, generator_floor, generator_ceiling, shed_lower, shed_upper, angle_floor, angle_ceiling, segment, row_start}
use Rattle.books_exact.proofs.Laws.{units}
use Rattle.books_exact.proofs.Sums.{total_point, total_flat}
use Rattle.books_exact.proofs.Families.{side, Own, multipliers}

module _ {A : Type 0} (𝓡 : CommRing A) (s : Site) (F : Constraint → A) where
  -- F of the constraints whose multiplier is a
  abbrev At : Place → A
  At a = sum 𝓡 (Own 𝓡 s F a) (constraints s)

  pub at_balance : (i : ℕ) → i < s.counts.buses → At (NuBal, i) ≡ F (balance s i)
  unfolding only
  at_balance i l = multipliers 𝓡 s F (NuBal, i) ∙ simp units (total_point 𝓡 (λ i. F (balance s i)) i _ l)

  pub at_flow_law : (e : ℕ) → e < s.counts.branches → At (NuFlow, e) ≡ F (flow_law s e)
  unfolding only
  at_flow_law e l = multipliers 𝓡 s F (NuFlow, e) ∙ simp units (total_point 𝓡 (λ i. F (flow_law s i)) e _ l)

  pub at_reference : (k : ℕ) → k < s.counts.references → At (Eta, k) ≡ F (reference s k)
  unfolding only
  at_reference k l = multipliers 𝓡 s F (Eta, k) ∙ simp units (total_point 𝓡 (λ i. F (reference s i)) k _ l)

  pub at_flow_floor : (e : ℕ) → e < s.counts.branches → At (LamLb, e) ≡ F (flow_floor s e)
  unfolding only
  at_flow_floor e l = multipliers 𝓡 s F (LamLb, e) ∙ simp units (total_point 𝓡 (λ i. F (flow_floor s i)) e _ l)

  pub at_flow_ceiling : (e : ℕ) → e < s.counts.branches → At (LamUb, e) ≡ F (flow_ceiling s e)
  unfolding only
  at_flow_ceiling e l = multipliers 𝓡 s F (LamUb, e) ∙ simp units (total_point 𝓡 (λ i. F (flow_ceiling s i)) e _ l)

  pub at_generator_floor : (j : ℕ) → j < s.counts.generators → At (RhoLb, j) ≡ F (generator_floor s j)
  unfolding only
  at_generator_floor j l = multipliers 𝓡 s F (RhoLb, j) ∙ simp units (total_point 𝓡 (λ i. F (generator_floor s i)) j _ l)

  pub at_generator_ceiling : (j : ℕ) → j < s.counts.generators → At (RhoUb, j) ≡ F (generator_ceiling s j)
  unfolding only
  at_generator_ceiling j l = multipliers 𝓡 s F (RhoUb, j) ∙ simp units (total_point 𝓡 (λ i. F (generator_ceiling s i)) j _ l)

  pub at_shed_lower : (i : ℕ) → i < s.counts.buses → At (MuLb, i) ≡ F (shed_lower s i)
  unfolding only
  at_shed_lower i l = multipliers 𝓡 s F (MuLb, i) ∙ simp units (total_point 𝓡 (λ i. F (shed_lower s i)) i _ l)

  pub at_shed_upper : (i : ℕ) → i < s.counts.buses → At (MuUb, i) ≡ F (shed_upper s i)
  unfolding only
  at_shed_upper i l = multipliers 𝓡 s F (MuUb, i) ∙ simp units (total_point 𝓡 (λ i. F (shed_upper s i)) i _ l)

  pub at_angle_floor : (e : ℕ) → e < s.counts.branches → At (GammaLb, e) ≡ F (angle_floor s e)
  unfolding only
  at_angle_floor e l = multipliers 𝓡 s F (GammaLb, e) ∙ simp units (total_point 𝓡 (λ i. F (angle_floor s i)) e _ l)

  pub at_angle_ceiling : (e : ℕ) → e < s.counts.branches → At (GammaUb, e) ≡ F (angle_ceiling s e)
  unfolding only
  at_angle_ceiling e l = multipliers 𝓡 s F (GammaUb, e) ∙ simp units (total_point 𝓡 (λ i. F (angle_ceiling s i)) e _ l)

  pub at_segment : (j t : ℕ) → j < s.counts.generators → t < segments_at s.counts s.wiring j
      → At (Segments, segment_start s.counts s.wiring j plus t) ≡ F (segment s j t)
  unfolding only segment_start
  at_segment j t l m =
      multipliers 𝓡 s F (Segments, segment_start s.counts s.wiring j plus t)
      ∙ simp units (total_flat 𝓡 (segments_at s.counts s.wiring) (λ i u. F (segment s i u)) j t _ l m)

  pub at_row : (q t : ℕ) → q < s.counts.rows → t < width (s.shapes q)
      → At (Linear, row_start s q plus t) ≡ F (side s (s.shapes q) q (row_start s q) t)
  unfolding only
  at_row q t l m =
      multipliers 𝓡 s F (Linear, row_start s q plus t)
      ∙ simp units (total_flat 𝓡 (λ i. width (s.shapes i)) (λ i u. F (side s (s.shapes i) i (row_start s i) u)) q t _ l m)
