-- The rows that a constraint limit moves: its own linear row's, by the limits that the row has. Main result: `limit_rows_lem`. Assumes nothing.
use mathlib.Core.Path.{◌≡◌, refl, sym, ap, ◌∙◌, subst}
use mathlib.Core.Logic.{inl, inr}
use mathlib.Core.List.{List, []}
use Prim.Native.Nat.{ℕ, ◌+◌, ◌<◌}
use native.Mathlib.Omega.{arith}
use native.Mathlib.Decide.{ℕ_discrete, dec_lt}
use lib.ListN.{get_or}
use lib.Dec.{T}
use lib.Ieee.{Float, nan, binary64, mul, div, neg, lt, le, fits}
use lib.Ieee.Fits.{cond-fits, neg-fits}
use borrow.Author.Tests.{eq-eqb, ne_eqb}
use Rattle.float64.specs.Values.{nought, tolerance, max_zero}
use Rattle.sequence.specs.Lists.{before}
use Rattle.sequence.proofs.Lists.{before_within}
use Rattle.network.specs.declared.Field.TheVariants.{BaseMva}
use Rattle.model.specs.Rows.{row_limits}
use Rattle.solution.specs.declared.Entry.{Entry}
use Rattle.solution.specs.declared.Entry.TheVariants as entries
use Rattle.solution.specs.Sheet.{pieces, solved, entry_start}
use Rattle.kkt_index.specs.declared.Block.TheVariants.{Linear}
use Rattle.kkt_index.specs.Index.{Shape, shape_of, width, rows_at, linear_start}
use Rattle.kkt_index.specs.Index.Shape.{free, upper_only, lower_only, two_sided, equality}
use Rattle.snapping.specs.Expr.{eval}
use Rattle.snapping.specs.Snap.{upper_slack, lower_slack, upper_dual, lower_dual, linear_duals, duals}
use Rattle.parameter_column.specs.declared.Served.TheVariants as served
use Rattle.parameter_column.specs.Columns.{Touch, valued, limit_marks}
use Rattle.books.specs.Forms.{Form, plain, Alike}
use Rattle.books.specs.Manual.{row_start, row_value}
use Rattle.books.specs.Matrix.{sides_of, unknown}
use Rattle.books.proofs.Words.{linear_word}
use Rattle.books.proofs.Doubles.{nought_fits}
use Rattle.books.proofs.Pairs.{by_one, by_less}
use Rattle.books_residual.specs.Rates.{Rate, rate, form_of}
use Rattle.books_residual.specs.Rates.Rate.{still}
use Rattle.books_residual.specs.Columns.{direction}
use Rattle.books_residual.proofs.Doubles.{over_itself}
use Rattle.books_residual.proofs.Places.{placed}
use Rattle.books_residual.proofs.Rows.{LinearAt}
use Rattle.books_residual.proofs.Still.{names_value}
use Rattle.books_residual.proofs.Setting.{Given, R, S, site, worth, changes}
use Rattle.books_residual.proofs.Quiet.{steady}
use Rattle.books_residual.proofs.Limits.{At}

-- two rows' own rows lie apart
rows_apart : (f : ℕ → ℕ) (q i t u : ℕ) → t < f q → u < f i → before f q + t ≡ before f i + u → q ≡ i
rows_apart f q i t u h k e = go (dec_lt q i) (dec_lt i q)
  where
    go : Dec (q < i) → Dec (i < q) → q ≡ i
    go (yes l) d = absurd (omega (arith, before_within f q i l))
    go (no l) (yes d) = absurd (omega (arith, before_within f i q d))
    go (no l) (no d) = omega arith

max_fits : (x : Float) → T (fits binary64 x) → T (fits binary64 (max_zero x))
unfolding max_zero
max_fits x h = cond-fits binary64 (lt nought x) x nought h nought_fits

-- where a row's own row stands
record Offset (a x n : ℕ) : Type 0 where
  by : ℕ
  below : by < n
  is : x ≡ a + by

module _ (z : Given) where
  abbrev start : ℕ → ℕ
  start q = row_start (site z) q

  abbrev shape : ℕ → Shape
  shape q = shape_of (row_limits z.counts z.wiring z.readings q)

  abbrev moves : Shape → ℕ → List Touch
  moves g q =
      valued (R z) (S z) (limit_marks z.counts z.wiring z.indexes z.coefficients (pieces z.counts z.wiring) z.readings z.sheet g q)

  offset : (g : Shape) (q a x : ℕ) (f : Form) → LinearAt (site z) g q a x f → Offset a x (width g)
  offset free q a x f h = absurd h
  offset upper_only q a x f h = record { by = 0; below = omega arith; is = omega (arith, h.0) }
  offset lower_only q a x f h = record { by = 0; below = omega arith; is = omega (arith, h.0) }
  offset two_sided q a x f (inl h) = record { by = 0; below = omega arith; is = omega (arith, h.0) }
  offset two_sided q a x f (inr h) = record { by = 1; below = omega arith; is = h.0 }
  offset equality q a x f h = record { by = 0; below = omega arith; is = omega (arith, h.0) }

  -- ---- another row

  other_word : (g : Shape) (i x : ℕ) → ((t : ℕ) → t < width g → x ≡ linear_start z.counts z.wiring z.readings i + t → ⊥) → placed (moves g i) (Linear, x) nought ≡ nought
  unfolding placed valued
  other_word free i x h = refl
  other_word upper_only i x h = rw (ne_eqb (linear_start z.counts z.wiring z.readings i) x (λ e. h 0 (omega arith) (omega arith)))
  other_word lower_only i x h = rw (ne_eqb (linear_start z.counts z.wiring z.readings i) x (λ e. h 0 (omega arith) (omega arith)))
  other_word two_sided i x h =
      rw (ne_eqb (linear_start z.counts z.wiring z.readings i) x (λ e. h 0 (omega arith) (omega arith)), ne_eqb (linear_start z.counts z.wiring z.readings i + 1) x (λ e. h 1 (omega arith) (sym e)))
  other_word equality i x h = rw (ne_eqb (linear_start z.counts z.wiring z.readings i) x (λ e. h 0 (omega arith) (omega arith)))

  value_still : (i q : ℕ) → rate (direction served.ConstraintLimit i) (row_value (site z) q) ≡ still
  value_still i q = steady served.ConstraintLimit i [] (row_value (site z) q) refl (names_value [] (site z) q)

  other_rate : (g : Shape) (q a x : ℕ) (f : Form) (i : ℕ) → (q ≡ i → ⊥) → LinearAt (site z) g q a x f → rate (direction served.ConstraintLimit i) f ≡ still
  unfolding rate
  other_rate free q a x f i d h = absurd h
  other_rate upper_only q a x f i d h = rw (h.1, value_still i q, ne_eqb q i d)
  other_rate lower_only q a x f i d h = rw (h.1, value_still i q, ne_eqb q i d)
  other_rate two_sided q a x f i d (inl h) = rw (h.1, value_still i q, ne_eqb q i d)
  other_rate two_sided q a x f i d (inr h) = rw (h.1, value_still i q, ne_eqb q i d)
  other_rate equality q a x f i d h = rw (h.1, value_still i q, ne_eqb q i d)

  -- ---- the row itself

  sol_fits : (e : Entry) (i : ℕ) → T (fits binary64 (S z e i))
  unfolding solved
  sol_fits e i = z.sheet_fits (entry_start z.counts (pieces z.counts z.wiring) e + i)

  abbrev upper_at : ℕ → Float
  upper_at q = eval (R z) (S z) (upper_dual z.counts z.wiring z.indexes z.coefficients q)

  abbrev lower_at : ℕ → Float
  lower_at q = eval (R z) (S z) (lower_dual z.counts z.wiring z.indexes z.coefficients q)

  upper_fits : (q : ℕ) → T (fits binary64 (upper_at q))
  upper_fits q = cond-fits binary64 (le (eval (R z) (S z) (upper_slack z.counts z.wiring z.indexes z.coefficients q)) tolerance) (max_zero (S z entries.LinearDual q)) nought (max_fits (S z entries.LinearDual q) (sol_fits entries.LinearDual q)) nought_fits

  lower_fits : (q : ℕ) → T (fits binary64 (lower_at q))
  lower_fits q = cond-fits binary64 (le (eval (R z) (S z) (lower_slack z.counts z.wiring z.indexes z.coefficients q)) tolerance) (max_zero (neg (S z entries.LinearDual q))) nought (max_fits (neg (S z entries.LinearDual q)) (neg-fits binary64 (S z entries.LinearDual q) (sol_fits entries.LinearDual q))) nought_fits

  abbrev unknown_at : ℕ → Float
  unknown_at x = unknown z.counts z.wiring z.readings z.indexes z.coefficients z.sheet z.eta Linear x

  -- a row's multipliers
  side_word : (q : ℕ) → q < z.counts.rows → (g : Shape) → shape q ≡ g → (t : ℕ) → t < width g
      → unknown_at (start q + t) ≡ get_or (sides_of g (linear_duals z.counts z.wiring z.indexes z.coefficients (R z) (S z) g q)) t nan
  unfolding duals
  side_word q l g e t k =
      linear_word z.counts z.wiring z.readings z.indexes z.coefficients z.sheet q t l (rw e k)
      ∙ ap (λ (g : Shape). get_or (sides_of g (linear_duals z.counts z.wiring z.indexes z.coefficients (R z) (S z) g q)) t nan) e

  first_word : (q : ℕ) → q < z.counts.rows → (g : Shape) → shape q ≡ g → 0 < width g
      → unknown_at (start q) ≡ get_or (sides_of g (linear_duals z.counts z.wiring z.indexes z.coefficients (R z) (S z) g q)) 0 nan
  first_word q l g e k = let o : start q + 0 ≡ start q = omega arith in rw o at (side_word q l g e 0 k)

  -- a multiplier times base over base
  upper_worth : (q x : ℕ) → unknown_at x ≡ upper_at q → upper_at q ≡ mul binary64 (unknown_at x) (div binary64 (R z BaseMva 0) (R z BaseMva 0))
  upper_worth q x e = rw (e, over_itself (R z BaseMva 0) z.base) (sym (by_one (upper_at q) (upper_fits q)))

  lower_worth : (q x : ℕ) → unknown_at x ≡ lower_at q → neg (lower_at q) ≡ mul binary64 (unknown_at x) (neg (div binary64 (R z BaseMva 0) (R z BaseMva 0)))
  lower_worth q x e = rw (e, over_itself (R z BaseMva 0) z.base) (sym (by_less (lower_at q) (lower_fits q)))

  own_row : (q : ℕ) → q < z.counts.rows → (g : Shape) → shape q ≡ g → (x : ℕ) (f : Form) → LinearAt (site z) g q (start q) x f
      → Alike (placed (moves g q) (Linear, x) nought) (worth z (form_of (rate (direction served.ConstraintLimit q) f)))
  unfolding placed valued rate linear_start
  own_row q l free e x f h = absurd h
  own_row q l upper_only e x f h =
      rw (h.1, h.0, value_still q q, eq-eqb q q refl, eq-eqb (start q) (start q) refl) (ap plain (upper_worth q (start q) (first_word q l upper_only e (omega arith))))
  own_row q l lower_only e x f h =
      rw (h.1, h.0, value_still q q, eq-eqb q q refl, eq-eqb (start q) (start q) refl) (ap plain (lower_worth q (start q) (first_word q l lower_only e (omega arith))))
  own_row q l two_sided e x f (inl h) =
      rw (h.1, h.0, value_still q q, eq-eqb q q refl, eq-eqb (start q) (start q) refl, ne_eqb (start q + 1) (start q) (λ o. absurd (omega arith)))
      (ap plain (upper_worth q (start q) (first_word q l two_sided e (omega arith))))
  own_row q l two_sided e x f (inr h) =
      rw (h.1, h.0, value_still q q, eq-eqb q q refl, ne_eqb (start q) (start q + 1) (λ o. absurd (omega arith)), eq-eqb (start q + 1) (start q + 1) refl)
      (ap plain (lower_worth q (start q + 1) (side_word q l two_sided e 1 (omega arith))))
  own_row q l equality e x f h =
      rw (h.1, h.0, value_still q q, eq-eqb q q refl, eq-eqb (start q) (start q) refl, over_itself (R z BaseMva 0) z.base)

  pub limit_rows_lem : (i : ℕ) → i < z.counts.rows → At z served.ConstraintLimit i Linear
  unfolding linear_start
  limit_rows_lem i l x f held row = go row.0 row.1.0 row.1.1 (ℕ_discrete row.0 i)
    where
      go : (q : ℕ) → q < z.counts.rows → LinearAt (site z) (shape q) q (start q) x f → Dec (q ≡ i)
          → Alike (placed (changes z served.ConstraintLimit i) (Linear, x) nought) (worth z (form_of (rate (direction served.ConstraintLimit i) f)))
      go q k h (yes e) =
          subst (λ (y : ℕ). Alike (placed (changes z served.ConstraintLimit y) (Linear, x) nought) (worth z (form_of (rate (direction served.ConstraintLimit y) f)))) e
          (own_row q k (shape q) refl x f h)
      go q k h (no d) =
          let o = offset (shape q) q (start q) x f h in
          ap plain
          (other_word (shape i) i x (λ t m e. d (rows_apart (rows_at z.counts z.wiring z.readings) q i o.by t o.below m (sym o.is ∙ e)))
          ∙ sym (ap (λ (y : Rate). worth z (form_of y)) (other_rate (shape q) q (start q) x f i d h)))
