-- How long the list can be: block by block, then the eighteen blocks together.
-- Main result: `list_length`. Assumes nothing.
use mathlib.Core.Path.{◌≡◌, refl}
use mathlib.Core.List.{List}
use Prim.Native.Nat.{ℕ, ◌+◌, ◌*◌, ◌≤◌}
use native.Mathlib.Omega.{arith}
use lib.ListN.{length}
use lib.Ieee.{Float}
use Rattle.sequence.specs.Lists.{before}
use Rattle.network.specs.declared.Counts.{Counts}
use Rattle.network.specs.declared.Field.{Field}
use Rattle.network.specs.Layout.{reading}
use Rattle.network.specs.Numbers.{Wired}
use Rattle.solution.specs.declared.Entry.{Entry}
use Rattle.solution.specs.Sheet.{pieces, solved}
use Rattle.kkt_index.specs.declared.Block.{Block}
use Rattle.kkt_index.specs.declared.Block.TheVariants.{Va, Pg, Flow, Psh, Cost, LamLb, LamUb, GammaLb, GammaUb, RhoLb, RhoUb, MuLb, MuUb, Segments, Linear, NuBal, NuFlow, Eta}
use Rattle.kkt_index.specs.Index.{linear_row_count, block_start}
use Rattle.kkt.specs.Slots.{Site, Rule, site_of, start_of, columns, emission, emission_at, block_slots, slots, flow_column, psh_column, lam_lb_column, lam_ub_column, gamma_lb_column, gamma_ub_column, rho_lb_column, rho_ub_column, mu_lb_column, mu_ub_column, nu_flow_column, eta_column, cost_segment, segment_column}
use Rattle.kkt.specs.Matrix.{kkt_matrix_list, most}
use Rattle.kkt_laws.proofs.Counted.{count, each_le, turns_le}
use Rattle.kkt_laws.proofs.Columns.{va_le, nu_bal_le, pg_le, segments_le, rows_le}

-- what a block's columns, or the linear rows with theirs, give at most
abbrev pub most_of : Counts → Block → ℕ
most_of c Va = 8 * c.branches + c.buses + c.references
most_of c Pg = 4 * c.generators + c.segments
most_of c Flow = 3 * c.branches
most_of c Psh = 3 * c.buses
most_of c Cost = 1 * c.segments
most_of c LamLb = 2 * c.branches
most_of c LamUb = 2 * c.branches
most_of c GammaLb = 3 * c.branches
most_of c GammaUb = 3 * c.branches
most_of c RhoLb = 2 * c.generators
most_of c RhoUb = 2 * c.generators
most_of c MuLb = 2 * c.buses
most_of c MuUb = 2 * c.buses
most_of c Segments = 3 * c.segments
most_of c Linear = 4 * c.terms + 2 * c.rows
most_of c NuBal = 2 * c.buses + 2 * c.branches + c.generators
most_of c NuFlow = 3 * c.branches
most_of c Eta = 1 * c.references

blocks_most : (c : Counts) → before (λ k. most_of c (emission_at k)) (length emission) ≡ most c
unfolding before
blocks_most c = omega arith

module _ (start : Block → ℕ) (R : Field → ℕ → Float) (S : Entry → ℕ → Float) (s : Site) (h : Wired s.counts s.wiring) where
  pub block_le : (b : Block) → count start R S (block_slots s b) ≤ most_of s.counts b
  unfolding columns
  block_le Va = va_le start R S s.counts s.wiring s.rule
  block_le Pg = rw h.segments_sum at (pg_le start R S s.counts s.wiring)
  block_le Flow = turns_le start R S s.counts.branches 3 flow_column (λ i. refl)
  block_le Psh = turns_le start R S s.counts.buses 3 (psh_column s.wiring) (λ i. refl)
  block_le Cost = rw h.segments_sum at (segments_le start R S s.counts s.wiring 1 cost_segment (λ j g t. refl))
  block_le LamLb = turns_le start R S s.counts.branches 2 lam_lb_column (λ i. refl)
  block_le LamUb = turns_le start R S s.counts.branches 2 lam_ub_column (λ i. refl)
  block_le GammaLb = turns_le start R S s.counts.branches 3 (gamma_lb_column s.counts s.wiring) (λ i. refl)
  block_le GammaUb = turns_le start R S s.counts.branches 3 (gamma_ub_column s.counts s.wiring) (λ i. refl)
  block_le RhoLb = turns_le start R S s.counts.generators 2 rho_lb_column (λ i. refl)
  block_le RhoUb = turns_le start R S s.counts.generators 2 rho_ub_column (λ i. refl)
  block_le MuLb = turns_le start R S s.counts.buses 2 (mu_lb_column s.wiring) (λ i. refl)
  block_le MuUb = turns_le start R S s.counts.buses 2 (mu_ub_column s.wiring) (λ i. refl)
  block_le Segments = rw h.segments_sum at (segments_le start R S s.counts s.wiring 3 segment_column (λ j g t. refl))
  block_le Linear = rw h.terms_sum at (rows_le start R S s.counts s.wiring s.indexes s.coefficients s.shapes (start_of s))
  block_le NuBal = nu_bal_le start R S s.counts s.wiring
  block_le NuFlow = turns_le start R S s.counts.branches 3 (nu_flow_column s.counts s.wiring) (λ i. refl)
  block_le Eta = turns_le start R S s.counts.references 1 (eta_column s.counts s.wiring) (λ i. refl)

  pub slots_le : count start R S (slots s) ≤ most s.counts
  unfolding slots
  slots_le =
      omega (
        arith,
        each_le start R S (length emission) (λ k. block_slots s (emission_at k)) (λ k. most_of s.counts (emission_at k)) (λ k l. block_le (emission_at k)),
        blocks_most s.counts,
      )

-- "at most 26m + 10n + 9k + 5S + 2R + 4T + 2q", by either rule
pub list_length : (rule : Rule) (c : Counts) (w : List ℕ) (r : List Float) (ti : List ℕ) (tc s : List Float) → Wired c w → length (kkt_matrix_list rule c w r ti tc s) ≤ most c
unfolding kkt_matrix_list
list_length rule c w r ti tc s h = slots_le (block_start c (pieces c w) (linear_row_count c w r)) (reading c r) (solved c (pieces c w) s) (site_of rule c w r ti tc) h
