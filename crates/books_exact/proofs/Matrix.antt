-- The books' matrix is the derivative of the books' residual: each cell's exact sum is the derivative of its row in its column's unknown, over any commutative ring.
-- Main results: `matrix_along`, along any vector of unknowns, and `matrix_is_derivative`. Assumes nothing.
use mathlib.Core.Path.{◌≡◌, sym, ◌∙◌}
use mathlib.Core.List.{List, [], ◌∷◌}
use mathlib.Mathlib.Algebra.Ring.Defs.{CommRing}
use Rattle.sequence.specs.Facts.{All}
use Rattle.sequence.specs.Facts.All.{done, ◌&◌}
use Rattle.network.specs.Numbers.{Wired}
use Rattle.exact.specs.Ring.{only}
use Rattle.books.specs.Forms.{Place}
use Rattle.books.specs.Convex.{matrix_of}
use Rattle.books.specs.Manual.{Site, program}
use Rattle.books.specs.Matrix.{same_place}
use Rattle.books_residual.specs.Residual.{Row, residual}
use Rattle.books_exact.specs.Exact.{World, Sound}
use Rattle.books_exact.specs.Derivatives.{MatrixIsDerivative}
use Rattle.books_exact.proofs.Applied.{applied, row_of, cell_applied}
use Rattle.books_exact.proofs.Families.{matrix_at_multiplier}
use Rattle.books_exact.proofs.Slacks.{derivative, flow_floor_lem, flow_ceiling_lem, generator_floor_lem, generator_ceiling_lem, angle_floor_lem, angle_ceiling_lem, shed_lower_lem, shed_upper_lem, segment_row, flow_law_lem, reference_row_lem, row_ceiling_lem, row_floor_lem, row_level_lem}
use Rattle.books_exact.proofs.Stationarity.{angle_row_lem, dispatch_row_lem, flow_row_lem, shed_row_lem, cost_row_lem, balance_row_lem}
use Rattle.books_exact.proofs.Rows.{Agreement, all_rows}

module _ {A : Type 0} where
  all_head : {P : A → Type 0} {x : A} {xs : List A} → All P (x ∷ xs) → P x
  all_head (p & ps) = p

  all_tail : {P : A → Type 0} {x : A} {xs : List A} → All P (x ∷ xs) → All P xs
  all_tail (p & ps) = ps

  -- for each b of every element is of every element for each b
  all_for : {B : Type 0} (P : B → A → Type 0) (l : List A) → ((b : B) → All (P b) l) → All (λ a. (b : B) → P b a) l
  all_for P [] f = done
  all_for P (a ∷ l) f = (λ b. all_head (f b)) & all_for P l (λ b. all_tail (f b))

  all_weaker : {P Q : A → Type 0} {l : List A} → ((a : A) → P a → Q a) → All P l → All Q l
  all_weaker f done = done
  all_weaker f (p & ps) = f _ p & all_weaker f ps

module _ {A : Type 0} (𝓡 : CommRing A) (W : World A) where
  open 𝓡 use {one as 𝟙}

  -- a row's derivative along v is the matrix's row times v
  abbrev pub Along : Site → (Place → A) → Row → Type 0
  Along s v x = derivative 𝓡 W v x.1 ≡ applied 𝓡 W v (matrix_of (program s)) x.0

  module _ (h : Sound 𝓡 W) (s : Site) (g : Wired s.counts s.wiring) where
    module _ (v : Place → A) where
      agreement : Agreement 𝓡 s (derivative 𝓡 W v) (applied 𝓡 W v (matrix_of (program s))) (row_of 𝓡 W v)
      agreement = record {
        own = matrix_at_multiplier 𝓡 W v h s;
        angles = angle_row_lem 𝓡 W h v s g;
        dispatches = dispatch_row_lem 𝓡 W h v s g;
        flows = flow_row_lem 𝓡 W h v s;
        sheds = shed_row_lem 𝓡 W h v s;
        costs = cost_row_lem 𝓡 W h v s;
        flow_floors = flow_floor_lem 𝓡 W h v s;
        flow_ceilings = flow_ceiling_lem 𝓡 W h v s;
        angle_floors = angle_floor_lem 𝓡 W h v s;
        angle_ceilings = angle_ceiling_lem 𝓡 W h v s;
        generator_floors = generator_floor_lem 𝓡 W h v s;
        generator_ceilings = generator_ceiling_lem 𝓡 W h v s;
        shed_lowers = shed_lower_lem 𝓡 W h v s;
        shed_uppers = shed_upper_lem 𝓡 W h v s;
        segment_rows = segment_row 𝓡 W h v s;
        row_ceilings = row_ceiling_lem 𝓡 W h v s;
        row_floors = row_floor_lem 𝓡 W h v s;
        row_levels = row_level_lem 𝓡 W h v s;
        balances = balance_row_lem 𝓡 W h v s g;
        flow_laws = flow_law_lem 𝓡 W h v s;
        references = reference_row_lem 𝓡 W h v s;
      }

      pub matrix_along : All (Along s v) (residual s)
      matrix_along = all_rows 𝓡 s (derivative 𝓡 W v) (applied 𝓡 W v (matrix_of (program s))) (row_of 𝓡 W v) agreement

  pub matrix_is_derivative : Sound 𝓡 W → (s : Site) → Wired s.counts s.wiring → MatrixIsDerivative 𝓡 W s
  matrix_is_derivative h s g =
      all_weaker (λ x f b l. f b ∙ sym (cell_applied 𝓡 W (matrix_of (program s)) x.0 b))
      (all_for (λ b. Along s (λ p. only 𝓡 (same_place p b) 𝟙)) (residual s) (λ b. matrix_along h s g (λ p. only 𝓡 (same_place p b) 𝟙)))
