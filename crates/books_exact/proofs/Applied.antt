-- A row of the books' matrix times a vector of unknowns: of each constraint its part in its multiplier's row, and its part in the multiplier's column.
-- Main definitions: `applied`, `slope`, `coefficient`, `row_part`, `column_part`. Main results: `cell_applied`, `entries_applied`, `matrix_applied`. Assumes nothing.
use mathlib.Core.Path.{◌≡◌, refl, sym, ap, ap₂, ◌∙◌}
use mathlib.Core.Bool.{Bool, true, false}
use mathlib.Core.List.{List, [], ◌∷◌}
use mathlib.Mathlib.Algebra.Ring.Defs.{CommRing}
use Rattle.exact.specs.Ring.{sum, only}
use Rattle.exact.proofs.Sums.{add_assoc, add_comm, add_zero}
use Rattle.float64.specs.Values.{nought, one}
use Rattle.books.specs.Forms.{Place, Form}
use Rattle.books.specs.Convex.{Gradient, Kind, Constraint, Program, Entry, entries_of, against, on_diagonal, constraint_entries, hessian_entries, matrix_of}
use Rattle.books.specs.Convex.Kind.{at_most, equal, vacant}
use Rattle.books.specs.Convex.Convention.{straight, turned}
use Rattle.books.specs.Matrix.{same_place}
use Rattle.books_exact.specs.Exact.{World, Sound, exact_of}
use Rattle.books_exact.specs.Derivatives.{cell_sum}
use Rattle.books_exact.proofs.Laws.{mul_zero, mul_one, ring}
use Rattle.books_exact.proofs.Sums.{sum_append, sum_alike, only_mark, only_both}

module _ {A : Type 0} (𝓡 : CommRing A) (W : World A) where
  open 𝓡 use {add as ◌+◌, mul as ◌*◌, neg as less, zero as 𝟘, one as 𝟙}

  infixl 65 ◌+◌
  infixl 70 ◌*◌
  -- the value where a test passes, as a product
  only_times : (b : Bool) (x : A) → only 𝓡 b x ≡ x * only 𝓡 b 𝟙
  unfolding only
  only_times true x = sym (mul_one 𝓡 x)
  only_times false x = sym (mul_zero 𝓡 x)

  module _ (v : Place → A) where
    -- row a of the entries, times v
    abbrev pub applied : List Entry → Place → A
    applied xs a = sum 𝓡 (λ (x : Entry). only 𝓡 (same_place x.row a) (exact_of 𝓡 W x.what * v x.col)) xs

    -- a gradient times v
    abbrev pub slope : Gradient → A
    slope g = sum 𝓡 (λ (x : Place × Form). exact_of 𝓡 W x.1 * v x.0) g

    -- −λ Df v, or A v
    abbrev pub scaled : Kind → Place → A → A
    scaled (at_most s) p m = less (W.unknown p) * m
    scaled (equal c) p m = m
    scaled vacant p m = 𝟘

    -- and −f v, or the multiplier itself
    abbrev pub row_part : Kind → Place → A → A
    row_part (at_most s) p m = less (W.unknown p) * m + exact_of 𝓡 W s * v p
    row_part (equal c) p m = m
    row_part vacant p m = v p

    -- the multiplier's row times v
    abbrev pub row_of : Constraint → A
    row_of c = row_part c.kind c.multiplier (slope c.gradient)

  -- a gradient's coefficients at a place, summed
  abbrev pub coefficient : Gradient → Place → A
  coefficient g a = sum 𝓡 (λ (x : Place × Form). only 𝓡 (same_place x.0 a) (exact_of 𝓡 W x.1)) g

  -- Df', or A' by the convention
  abbrev pub column_part : Kind → A → A
  column_part (at_most s) m = m
  column_part (equal straight) m = m
  column_part (equal turned) m = less m
  column_part vacant m = m

  -- the multiplier's column at row a
  abbrev pub column_of : Constraint → Place → A
  column_of c a = column_part c.kind (coefficient c.gradient a)

  -- a cell's sum is the row times the vector that is 1 at the column's unknown and 0 elsewhere
  pub cell_applied : (xs : List Entry) (a b : Place) → cell_sum 𝓡 W xs a b ≡ applied (λ p. only 𝓡 (same_place p b) 𝟙) xs a
  cell_applied xs a b =
      sum_alike 𝓡 _ _
      (λ (x : Entry). only_both 𝓡 (same_place x.row a) (same_place x.col b) (exact_of 𝓡 W x.what)
      ∙ ap (only 𝓡 (same_place x.row a)) (only_times (same_place x.col b) (exact_of 𝓡 W x.what))) xs

  module _ (h : Sound 𝓡 W) (v : Place → A) where
    -- one term more, in the multiplier's row and in its column
    more : (P X : Bool) (r b w z m n : A) → only 𝓡 P (r * b * w) + (only 𝓡 X (b * z) + (only 𝓡 P (r * m) + n * z)) ≡ only 𝓡 P (r * (b * w + m)) + (only 𝓡 X b + n) * z
    more P X r b w z m n = simp (only_mark, ring)

    more_straight : (P X : Bool) (b w z m n : A) → only 𝓡 P (b * w) + (only 𝓡 X (b * z) + (only 𝓡 P m + n * z)) ≡ only 𝓡 P (b * w + m) + (only 𝓡 X b + n) * z
    more_straight P X b w z m n = simp (only_mark, ring)

    more_turned : (P X : Bool) (b w z m n : A) → only 𝓡 P (b * w) + (only 𝓡 X (less b * z) + (only 𝓡 P m + less n * z)) ≡ only 𝓡 P (b * w + m) + less (only 𝓡 X b + n) * z
    more_turned P X b w z m n = simp (only_mark, ring)

    more_vacant : (P X : Bool) (b c w z n : A) → c ≡ 𝟘 → only 𝓡 P (c * w) + (only 𝓡 X (b * z) + (only 𝓡 P 𝟘 + n * z)) ≡ only 𝓡 P 𝟘 + (only 𝓡 X b + n) * z
    more_vacant P X b c w z n e = simp (only_mark, e, ring)

    none_yet : (P : Bool) (r z : A) → 𝟘 ≡ only 𝓡 P (r * 𝟘) + 𝟘 * z
    none_yet P r z = simp (only_mark, ring)

    none_plain : (P : Bool) (z : A) → 𝟘 ≡ only 𝓡 P 𝟘 + 𝟘 * z
    none_plain P z = simp (only_mark, ring)

    none_turned : (P : Bool) (z : A) → 𝟘 ≡ only 𝓡 P 𝟘 + less 𝟘 * z
    none_turned P z = simp (only_mark, ring)

    against_applied : (k : Kind) (p : Place) (g : Gradient) (a : Place)
        → applied v (against k p g) a ≡ only 𝓡 (same_place p a) (scaled v k p (slope v g)) + column_part k (coefficient g a) * v p
    unfolding sum against exact_of
    against_applied (at_most s) p [] a = none_yet (same_place p a) (less (W.unknown p)) (v p)
    against_applied (equal straight) p [] a = none_plain (same_place p a) (v p)
    against_applied (equal turned) p [] a = none_turned (same_place p a) (v p)
    against_applied vacant p [] a = none_plain (same_place p a) (v p)
    against_applied (at_most s) p (x ∷ g) a =
        ap₂ ◌+◌ refl (ap₂ ◌+◌ refl (against_applied (at_most s) p g a)) ∙ more (same_place p a) (same_place x.0 a) (less (W.unknown p)) (exact_of 𝓡 W x.1) (v x.0) (v p) _ _
    against_applied (equal straight) p (x ∷ g) a =
        ap₂ ◌+◌ refl (ap₂ ◌+◌ refl (against_applied (equal straight) p g a)) ∙ more_straight (same_place p a) (same_place x.0 a) (exact_of 𝓡 W x.1) (v x.0) (v p) _ _
    against_applied (equal turned) p (x ∷ g) a =
        ap₂ ◌+◌ refl (ap₂ ◌+◌ refl (against_applied (equal turned) p g a)) ∙ more_turned (same_place p a) (same_place x.0 a) (exact_of 𝓡 W x.1) (v x.0) (v p) _ _
    against_applied vacant p (x ∷ g) a =
        ap₂ ◌+◌ refl (ap₂ ◌+◌ refl (against_applied vacant p g a)) ∙ more_vacant (same_place p a) (same_place x.0 a) (exact_of 𝓡 W x.1) (W.number nought) (v x.0) (v p) _ h.nought_is

    with_diagonal : (P : Bool) (m s z : A) → only 𝓡 P m + (only 𝓡 P (s * z) + 𝟘) ≡ only 𝓡 P (m + s * z)
    with_diagonal P m s z = simp (only_mark, ring)

    with_unit : (P : Bool) (s z : A) → s ≡ 𝟙 → only 𝓡 P 𝟘 + (only 𝓡 P (s * z) + 𝟘) ≡ only 𝓡 P z
    with_unit P s z e = simp (only_mark, e, ring)

    diagonal_applied : (k : Kind) (p a : Place) (m : A)
        → only 𝓡 (same_place p a) (scaled v k p m) + applied v (on_diagonal k p) a ≡ only 𝓡 (same_place p a) (row_part v k p m)
    unfolding sum exact_of
    diagonal_applied (at_most s) p a m = with_diagonal (same_place p a) (less (W.unknown p) * m) (exact_of 𝓡 W s) (v p)
    diagonal_applied (equal c) p a m = add_zero 𝓡 _
    diagonal_applied vacant p a m = with_unit (same_place p a) (W.number one) (v p) h.one_is

    -- one constraint
    pub entries_applied : (c : Constraint) (a : Place)
        → applied v (entries_of c) a ≡ only 𝓡 (same_place c.multiplier a) (row_of v c) + column_of c a * v c.multiplier
    entries_applied c a =
        sum_append 𝓡 _ (against c.kind c.multiplier c.gradient) (on_diagonal c.kind c.multiplier)
        ∙ ap (λ (m : A). m + applied v (on_diagonal c.kind c.multiplier) a) (against_applied c.kind c.multiplier c.gradient a)
        ∙ add_assoc 𝓡 _ _ _
        ∙ ap (λ (m : A). only 𝓡 (same_place c.multiplier a) (scaled v c.kind c.multiplier (slope v c.gradient)) + m) (add_comm 𝓡 _ _)
        ∙ sym (add_assoc 𝓡 _ _ _)
        ∙ ap (λ (m : A). m + column_of c a * v c.multiplier) (diagonal_applied c.kind c.multiplier a (slope v c.gradient))

    constraints_applied : (cs : List Constraint) (a : Place)
        → applied v (constraint_entries cs) a ≡ sum 𝓡 (λ (c : Constraint). only 𝓡 (same_place c.multiplier a) (row_of v c) + column_of c a * v c.multiplier) cs
    unfolding sum constraint_entries
    constraints_applied [] a = refl
    constraints_applied (c ∷ cs) a = sum_append 𝓡 _ (entries_of c) (constraint_entries cs) ∙ ap₂ ◌+◌ (entries_applied c a) (constraints_applied cs a)

    hessian_applied : (xs : List (Place × Place × Form)) (a : Place)
        → applied v (hessian_entries xs) a ≡ sum 𝓡 (λ (x : Place × Place × Form). only 𝓡 (same_place x.0 a) (exact_of 𝓡 W x.2 * v x.1)) xs
    unfolding sum hessian_entries
    hessian_applied [] a = refl
    hessian_applied (x ∷ xs) a = ap₂ ◌+◌ refl (hessian_applied xs a)

    -- the whole matrix
    pub matrix_applied : (P : Program) (a : Place)
        → applied v (matrix_of P) a
        ≡ sum 𝓡 (λ (x : Place × Place × Form). only 𝓡 (same_place x.0 a) (exact_of 𝓡 W x.2 * v x.1)) P.hessian
        + sum 𝓡 (λ (c : Constraint). only 𝓡 (same_place c.multiplier a) (row_of v c) + column_of c a * v c.multiplier) P.constraints
    matrix_applied P a =
        sum_append 𝓡 _ (hessian_entries P.hessian) (constraint_entries P.constraints)
        ∙ ap₂ ◌+◌ (hessian_applied P.hessian a) (constraints_applied P.constraints a)
