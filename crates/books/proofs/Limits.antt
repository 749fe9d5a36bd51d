-- The port's list agrees with the books' at the blocks of the limits on flows, angles and dispatch, of the flow law, of the references' columns and of the cost's second derivative.
-- Main results: one for each pair of blocks, named by them. Assumes nothing.
use mathlib.Core.Path.{◌≡◌, refl}
use mathlib.Core.List.{[]}
use Prim.Native.Nat.{ℕ, ◌+◌}
use lib.Ieee.{binary64, mul, neg}
use Rattle.float64.proofs.Signs.{neg_neg, mul_neg_left}
use Rattle.network.specs.declared.Part.TheVariants.{BrFrom, BrTo}
use Rattle.network.specs.declared.Field.TheVariants.{Susceptance, Sw}
use Rattle.network.specs.Layout.{wire, segments_at, segment_start}
use Rattle.solution.specs.declared.Entry.TheVariants as entries
use Rattle.solution.specs.Sheet.{piece_rank}
use Rattle.kkt_index.specs.declared.Block.TheVariants.{Va, Pg, Flow, LamLb, LamUb, GammaLb, GammaUb, RhoLb, RhoUb, NuFlow, Eta}
use Rattle.kkt.specs.Slots.{columns, pg_segment, segments_of}
use Rattle.books.specs.Convex.{against, constraint_entries, hessian_entries}
use Rattle.books.specs.Manual as manual
use Rattle.books.specs.Forms.{Place}
use Rattle.books.proofs.Cells.{values, values_none}
use Rattle.books.proofs.Setting.{Setting, R, S, port_site, book_site, port_point}
use Rattle.books.proofs.Book.{one}
use Rattle.books.proofs.Pairs.{Agree, turns, word, sol_fits, once, twice}

module _ (z : Setting) where
  -- ---- flow limits

  pub lam_lb-flow : (i j : ℕ) → Agree z (LamLb, i) (Flow, j)
  unfolding values columns constraint_entries against
  lam_lb-flow i j =
      turns z (LamLb, i) (Flow, j) z.counts.branches (columns (port_site z) Flow) (one (manual.flow_floor (book_site z))) _ _ refl refl
      (λ e l. rw (word z entries.LamLb refl e l, twice (S z entries.LamLb e) (sol_fits z entries.LamLb e)))

  pub lam_ub-flow : (i j : ℕ) → Agree z (LamUb, i) (Flow, j)
  unfolding values columns constraint_entries against
  lam_ub-flow i j =
      turns z (LamUb, i) (Flow, j) z.counts.branches (columns (port_site z) Flow) (one (manual.flow_ceiling (book_site z))) _ _ refl refl
      (λ e l. rw (word z entries.LamUb refl e l, once (S z entries.LamUb e) (sol_fits z entries.LamUb e)))

  pub flow-lam_lb : (i j : ℕ) → Agree z (Flow, i) (LamLb, j)
  unfolding values columns constraint_entries against
  flow-lam_lb i j =
      turns z (Flow, i) (LamLb, j) z.counts.branches (columns (port_site z) LamLb) (one (manual.flow_floor (book_site z))) _ _ refl refl
      (λ e l. refl)

  pub flow-lam_ub : (i j : ℕ) → Agree z (Flow, i) (LamUb, j)
  unfolding values columns constraint_entries against
  flow-lam_ub i j =
      turns z (Flow, i) (LamUb, j) z.counts.branches (columns (port_site z) LamUb) (one (manual.flow_ceiling (book_site z))) _ _ refl refl
      (λ e l. refl)

  pub lam_lb-lam_lb : (i j : ℕ) → Agree z (LamLb, i) (LamLb, j)
  unfolding values columns constraint_entries against
  lam_lb-lam_lb i j =
      turns z (LamLb, i) (LamLb, j) z.counts.branches (columns (port_site z) LamLb) (one (manual.flow_floor (book_site z))) _ _ refl refl
      (λ e l. rw (word z entries.Flow refl e l))

  pub lam_ub-lam_ub : (i j : ℕ) → Agree z (LamUb, i) (LamUb, j)
  unfolding values columns constraint_entries against
  lam_ub-lam_ub i j =
      turns z (LamUb, i) (LamUb, j) z.counts.branches (columns (port_site z) LamUb) (one (manual.flow_ceiling (book_site z))) _ _ refl refl
      (λ e l. rw (word z entries.Flow refl e l))

  -- ---- the flow law, and the reference's column

  pub nu_flow-flow : (i j : ℕ) → Agree z (NuFlow, i) (Flow, j)
  unfolding values columns constraint_entries against
  nu_flow-flow i j =
      turns z (NuFlow, i) (Flow, j) z.counts.branches (columns (port_site z) Flow) (one (manual.flow_law (book_site z))) _ _ refl refl
      (λ e l. refl)

  pub flow-nu_flow : (i j : ℕ) → Agree z (Flow, i) (NuFlow, j)
  unfolding values columns constraint_entries against
  flow-nu_flow i j =
      turns z (Flow, i) (NuFlow, j) z.counts.branches (columns (port_site z) NuFlow) (one (manual.flow_law (book_site z))) _ _ refl refl
      (λ e l. refl)

  pub va-nu_flow : (i j : ℕ) → Agree z (Va, i) (NuFlow, j)
  unfolding values columns constraint_entries against
  va-nu_flow i j =
      turns z (Va, i) (NuFlow, j) z.counts.branches (columns (port_site z) NuFlow) (one (manual.flow_law (book_site z))) _ _ refl refl
      (λ e l.
      rw (neg_neg (mul binary64 (neg (R z Susceptance e)) (R z Sw e)), mul_neg_left (R z Susceptance e) (R z Sw e), neg_neg (mul binary64 (R z Susceptance e) (R z Sw e))))

  pub va_eta : (i j : ℕ) → Agree z (Va, i) (Eta, j)
  unfolding values columns constraint_entries against
  va_eta i j =
      turns z (Va, i) (Eta, j) z.counts.references (columns (port_site z) Eta) (one (manual.reference (book_site z))) _ _ refl refl
      (λ k l. refl)

  -- ---- angle limits

  pub va-gamma_lb : (i j : ℕ) → Agree z (Va, i) (GammaLb, j)
  unfolding values columns constraint_entries against
  va-gamma_lb i j =
      turns z (Va, i) (GammaLb, j) z.counts.branches (columns (port_site z) GammaLb) (one (manual.angle_floor (book_site z))) _ _ refl refl
      (λ e l. refl)

  pub va-gamma_ub : (i j : ℕ) → Agree z (Va, i) (GammaUb, j)
  unfolding values columns constraint_entries against
  va-gamma_ub i j =
      turns z (Va, i) (GammaUb, j) z.counts.branches (columns (port_site z) GammaUb) (one (manual.angle_ceiling (book_site z))) _ _ refl refl
      (λ e l. refl)

  pub gamma_lb-gamma_lb : (i j : ℕ) → Agree z (GammaLb, i) (GammaLb, j)
  unfolding values columns constraint_entries against
  gamma_lb-gamma_lb i j =
      turns z (GammaLb, i) (GammaLb, j) z.counts.branches (columns (port_site z) GammaLb) (one (manual.angle_floor (book_site z))) _ _ refl refl
      (λ e l. rw (word z entries.Va refl (wire z.counts z.wiring BrFrom e) (z.wired.froms e l), word z entries.Va refl (wire z.counts z.wiring BrTo e) (z.wired.tos e l)))

  pub gamma_ub-gamma_ub : (i j : ℕ) → Agree z (GammaUb, i) (GammaUb, j)
  unfolding values columns constraint_entries against
  gamma_ub-gamma_ub i j =
      turns z (GammaUb, i) (GammaUb, j) z.counts.branches (columns (port_site z) GammaUb) (one (manual.angle_ceiling (book_site z))) _ _ refl refl
      (λ e l. rw (word z entries.Va refl (wire z.counts z.wiring BrFrom e) (z.wired.froms e l), word z entries.Va refl (wire z.counts z.wiring BrTo e) (z.wired.tos e l)))

  -- ---- dispatch limits and the cost

  pub pg-rho_lb : (i j : ℕ) → Agree z (Pg, i) (RhoLb, j)
  unfolding values columns constraint_entries against
  pg-rho_lb i j =
      turns z (Pg, i) (RhoLb, j) z.counts.generators (columns (port_site z) RhoLb) (one (manual.generator_floor (book_site z))) _ _ refl refl
      (λ j l. refl)

  pub pg-rho_ub : (i j : ℕ) → Agree z (Pg, i) (RhoUb, j)
  unfolding values columns constraint_entries against
  pg-rho_ub i j =
      turns z (Pg, i) (RhoUb, j) z.counts.generators (columns (port_site z) RhoUb) (one (manual.generator_ceiling (book_site z))) _ _ refl refl
      (λ j l. refl)

  pub rho_lb-rho_lb : (i j : ℕ) → Agree z (RhoLb, i) (RhoLb, j)
  unfolding values columns constraint_entries against
  rho_lb-rho_lb i j =
      turns z (RhoLb, i) (RhoLb, j) z.counts.generators (columns (port_site z) RhoLb) (one (manual.generator_floor (book_site z))) _ _ refl refl
      (λ j l. rw (word z entries.Pg refl j l))

  pub rho_ub-rho_ub : (i j : ℕ) → Agree z (RhoUb, i) (RhoUb, j)
  unfolding values columns constraint_entries against
  rho_ub-rho_ub i j =
      turns z (RhoUb, i) (RhoUb, j) z.counts.generators (columns (port_site z) RhoUb) (one (manual.generator_ceiling (book_site z))) _ _ refl refl
      (λ j l. rw (word z entries.Pg refl j l))

  -- a generator's segments have nothing at its own cells
  no_segments : (a b : Place) (j : ℕ) → ((t : ℕ) → values (port_point z) a b (pg_segment j (piece_rank z.counts z.wiring j) (segment_start z.counts z.wiring j + t)) ≡ [])
      → values (port_point z) a b (segments_of z.counts z.wiring pg_segment j) ≡ []
  no_segments a b j h = values_none (port_point z) a b (segments_at z.counts z.wiring j) _ (λ t l. h t)

  pub rho_lb-pg : (i j : ℕ) → Agree z (RhoLb, i) (Pg, j)
  unfolding values columns constraint_entries against
  rho_lb-pg i j =
      turns z (RhoLb, i) (Pg, j) z.counts.generators (columns (port_site z) Pg) (one (manual.generator_floor (book_site z))) _ _ refl refl
      (λ k l. rw (no_segments (RhoLb, i) (Pg, j) k (λ t. refl), word z entries.RhoLb refl k l, twice (S z entries.RhoLb k) (sol_fits z entries.RhoLb k)))

  pub rho_ub-pg : (i j : ℕ) → Agree z (RhoUb, i) (Pg, j)
  unfolding values columns constraint_entries against
  rho_ub-pg i j =
      turns z (RhoUb, i) (Pg, j) z.counts.generators (columns (port_site z) Pg) (one (manual.generator_ceiling (book_site z))) _ _ refl refl
      (λ k l. rw (no_segments (RhoUb, i) (Pg, j) k (λ t. refl), word z entries.RhoUb refl k l, once (S z entries.RhoUb k) (sol_fits z entries.RhoUb k)))

  pub pg_pg : (i j : ℕ) → Agree z (Pg, i) (Pg, j)
  unfolding values columns hessian_entries
  pg_pg i j =
      turns z (Pg, i) (Pg, j) z.counts.generators (columns (port_site z) Pg) (λ k. hessian_entries (manual.hessian (book_site z) k)) _ _ refl refl
      (λ k l. rw (no_segments (Pg, i) (Pg, j) k (λ t. refl)))
