-- The constraints that are rowed are the manual's, in its order.
-- Main result: `constraints_are`. Assumes nothing.
use Prim.Native.Nat.{ℕ, zero, suc, ◌+◌}
use mathlib.Core.Path.{◌≡◌, refl, ap₂, ◌∙◌}
use mathlib.Core.Bool.{Bool, true}
use mathlib.Core.List.{List, [], ◌∷◌, ◌++◌, map, map-append}
use lib.Ieee.{Float}
use Rattle.sequence.specs.Lists.{each}
use Rattle.network.specs.declared.Counts.{Counts}
use Rattle.network.specs.Layout.{segments_at, segment_start}
use Rattle.model.specs.Rows.{row_limits}
use Rattle.kkt_index.specs.Index.{Shape, shape_of}
use Rattle.kkt_index.specs.Index.Shape.{free, upper_only, lower_only, two_sided, equality}
use Rattle.books.specs.Convex.{Constraint}
use Rattle.opf_layout.specs.declared.OpfRow.{OpfRow}
use Rattle.opf_layout.specs.declared.OpfRow.TheVariants.{Segment}
use Rattle.books.specs.Manual.{Site, program, constraints, segment, segments, row_constraints, row_start}
use Rattle.books_program.specs.Rows.{Rowed, as_row, site, linear_rowed, rowed}

unfoldable constraints_of : List Rowed → List Constraint
constraints_of xs = map (λ (x : Rowed). x.constraint) xs

-- a loop's list, turn by turn
of_each : (n : ℕ) (f : ℕ → List Rowed) (g : ℕ → List Constraint) → ((i : ℕ) → constraints_of (f i) ≡ g i) → constraints_of (each n f) ≡ each n g
unfolding each constraints_of
of_each zero f g h = refl
of_each (suc n) f g h = map-append (λ (x : Rowed). x.constraint) (each n f) (f n) ∙ ap₂ ◌++◌ (of_each n f g h) (h n)

-- one loop after another
then : (l m : List Rowed) {k j : List Constraint} → constraints_of l ≡ k → constraints_of m ≡ j → constraints_of (l ++ m) ≡ k ++ j
unfolding constraints_of
then l m p q = map-append (λ (x : Rowed). x.constraint) l m ∙ ap₂ ◌++◌ p q

linear_are : (c : Counts) (w : List ℕ) (r : List Float) (ti : List ℕ) (tc : List Float) (s : Shape) (q x : ℕ) → constraints_of (linear_rowed c w r ti tc s q x) ≡ row_constraints (site c w r ti tc) s q x
unfolding constraints_of
linear_are c w r ti tc free q x = refl
linear_are c w r ti tc upper_only q x = refl
linear_are c w r ti tc lower_only q x = refl
linear_are c w r ti tc two_sided q x = refl
linear_are c w r ti tc equality q x = refl

module _ (c : Counts) (w : List ℕ) (r : List Float) (ti : List ℕ) (tc : List Float) where
  abbrev own : Site
  own = site c w r ti tc

  -- a loop of one constraint a turn
  singles : (n : ℕ) (on : ℕ → Bool) (x : ℕ → Constraint) (a : OpfRow) (at : ℕ → ℕ) → constraints_of (each n (λ i. as_row (x i) (on i) a (at i) ∷ [])) ≡ each n (λ i. x i ∷ [])
  unfolding constraints_of
  singles n on x a at = of_each n _ _ (λ i. refl)

  all_are : constraints_of (rowed c w r ti tc) ≡ constraints own
  unfolding rowed constraints
  all_are =
      then _ _ (singles _ _ _ _ _)
      (then _ _ (singles _ _ _ _ _)
      (then _ _ (singles _ _ _ _ _)
      (then _ _ (singles _ _ _ _ _)
      (then _ _ (singles _ _ _ _ _)
      (then _ _ (singles _ _ _ _ _)
      (then _ _ (singles _ _ _ _ _)
      (then _ _ (singles _ _ _ _ _)
      (then _ _ (singles _ _ _ _ _)
      (then _ _ (singles _ _ _ _ _)
      (then _ _ (singles _ _ _ _ _)
      (then _ _ (of_each c.generators _ (segments own) (λ j. singles (segments_at c w j) (λ t. true) (segment own j) Segment (λ t. segment_start c w j + t)))
      (of_each c.rows _ (λ q. row_constraints own (shape_of (row_limits c w r q)) q (row_start own q)) (λ q. linear_are c w r ti tc (shape_of (row_limits c w r q)) q (row_start own q))))))))))))))

  pub constraints_are : map (λ (x : Rowed). x.constraint) (rowed c w r ti tc) ≡ (program own).constraints
  unfolding constraints_of program
  constraints_are = all_are
