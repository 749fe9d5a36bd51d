-- The port's susceptance sums and the manual's B_bus are alike: the port skips a weight that is zero, the manual adds it.
-- Main results: `sums_alike`, `turned_alike`. Assumes nothing.
use mathlib.Core.Path.{◌≡◌, refl, sym, ap, ◌∙◌}
use mathlib.Core.Bool.{Bool, true, false, cond, ◌&&◌}
use Prim.Native.Nat.{ℕ, zero, suc}
use native.Mathlib.Decide.{ℕ_discrete}
use lib.Dec.{T, eqb}
use lib.Ieee.{Float, binary64, add, sub, mul, neg, eq, fits}
use lib.Ieee.Bits.{of_bits-fits}
use lib.Ieee.Fits.{add-fits, sub-fits, mul-fits}
use borrow.Author.Tests.{eq-eqb, ne_eqb}
use Rattle.float64.specs.Values.{nought}
use Rattle.network.specs.declared.Part.TheVariants.{BrFrom, BrTo}
use Rattle.network.specs.declared.Field.TheVariants.{Susceptance, Sw}
use Rattle.network.specs.Layout.{wire}
use Rattle.susceptance.specs.Susceptance.{is_cell}
use Rattle.snapping.specs.Expr.{Expr, eval}
use Rattle.kkt.specs.Slots.{gather_at, branch_part, branch_parts}
use Rattle.books.specs.Forms.{Form}
use Rattle.books.specs.Manual as manual
use Rattle.books.proofs.Zeros.{SameOrZeros, alike_add, alike_sub, alike_skip_add, alike_skip_sub}
use Rattle.books.proofs.Zeros.SameOrZeros.{same}
use Rattle.books.proofs.Setting.{Setting, R, S, book_site, worth}

turned : (a b : ℕ) → eqb a b ≡ eqb b a
turned a b = go (ℕ_discrete a b)
  where
    go : Dec (a ≡ b) → eqb a b ≡ eqb b a
    go (yes e) = rw (eq-eqb a b e, eq-eqb b a (sym e))
    go (no d) = rw (ne_eqb a b d, ne_eqb b a (λ e. d (sym e)))

module _ (z : Setting) where
  abbrev from : ℕ → ℕ
  from e = wire z.counts z.wiring BrFrom e

  abbrev to : ℕ → ℕ
  to e = wire z.counts z.wiring BrTo e

  abbrev weight : ℕ → Float
  weight e = mul binary64 (neg (R z Susceptance e)) (R z Sw e)

  cell_is : (i j u v : ℕ) → is_cell i j u v ≡ manual.meets (book_site z) i j u v
  cell_is i j u v = rw (turned i u, turned j v) (go (eqb u i) (eqb v j))
    where
      go : (a b : Bool) → (a && b) ≡ cond a b false
      go true b = refl
      go false b = refl

  -- ---- one product

  up_alike : (b : Bool) (x y w : Float) → eq w nought ≡ b → T (fits binary64 w) → T (fits binary64 y) → SameOrZeros x y → SameOrZeros (cond b x (add binary64 x w)) (add binary64 y w)
  up_alike true x y w e h k a = alike_skip_add x y w k e a
  up_alike false x y w e h k a = alike_add x y w h a

  down_alike : (b : Bool) (x y w : Float) → eq w nought ≡ b → T (fits binary64 w) → T (fits binary64 y) → SameOrZeros x y → SameOrZeros (cond b x (sub binary64 x w)) (sub binary64 y w)
  down_alike true x y w e h k a = alike_skip_sub x y w k e a
  down_alike false x y w e h k a = alike_sub x y w h a

  -- the two sums are alike, and the manual's is a double
  abbrev Goes : Expr → Form → Type 0
  Goes x y = T (fits binary64 (worth z y)) × SameOrZeros (eval (R z) (S z) x) (worth z y)

  product_goes : (b up : Bool) (e : ℕ) (x : Expr) (y : Form) → Goes x y → Goes (gather_at b up e x) (manual.product (book_site z) b up e y)
  product_goes false up e x y h = h
  product_goes true true e x y h =
      (add-fits binary64 _ _, up_alike (eq (weight e) nought) (eval (R z) (S z) x) (worth z y) (weight e) refl (mul-fits binary64 _ _) h.0 h.1)
  product_goes true false e x y h =
      (sub-fits binary64 _ _, down_alike (eq (weight e) nought) (eval (R z) (S z) x) (worth z y) (weight e) refl (mul-fits binary64 _ _) h.0 h.1)

  -- ---- the sums

  module _ (i j : ℕ) where
    abbrev m : ℕ → ℕ → Bool
    m u v = manual.meets (book_site z) i j u v

    sums_go : (t : ℕ) → Goes (branch_parts z.counts z.wiring i j t) (manual.bbus_to (book_site z) i j t)
    unfolding manual.bbus_to branch_parts
    sums_go zero = (of_bits-fits binary64 0, same)
    sums_go (suc e) =
        rw (cell_is i j (to e) (from e), cell_is i j (from e) (to e), cell_is i j (to e) (to e), cell_is i j (from e) (from e))
        (product_goes (m (to e) (from e)) false e _ _
        (product_goes (m (from e) (to e)) false e _ _ (product_goes (m (to e) (to e)) true e _ _ (product_goes (m (from e) (from e)) true e _ _ (sums_go e)))))

    pub sums_alike : (t : ℕ) → SameOrZeros (eval (R z) (S z) (branch_parts z.counts z.wiring i j t)) (worth z (manual.bbus_to (book_site z) i j t))
    sums_alike t = (sums_go t).1

  -- ---- the matrix is symmetric

  -- whether the branch's ends are the row's bus and the column's
  swap : (fr fc tr tc : Bool) (e : ℕ) (a : Expr)
      → gather_at (tr && fc) false e (gather_at (fr && tc) false e (gather_at (tr && tc) true e (gather_at (fr && fc) true e a)))
      ≡ gather_at (tc && fr) false e (gather_at (fc && tr) false e (gather_at (tc && tr) true e (gather_at (fc && fr) true e a)))
  swap true true true true e a = refl
  swap true true true false e a = refl
  swap true true false true e a = refl
  swap true true false false e a = refl
  swap true false true true e a = refl
  swap true false true false e a = refl
  swap true false false true e a = refl
  swap true false false false e a = refl
  swap false true true true e a = refl
  swap false true true false e a = refl
  swap false true false true e a = refl
  swap false true false false e a = refl
  swap false false true true e a = refl
  swap false false true false e a = refl
  swap false false false true e a = refl
  swap false false false false e a = refl

  symmetric : (i j t : ℕ) → branch_parts z.counts z.wiring i j t ≡ branch_parts z.counts z.wiring j i t
  unfolding branch_parts
  symmetric i j zero = refl
  symmetric i j (suc e) =
      swap (eqb i (from e)) (eqb j (from e)) (eqb i (to e)) (eqb j (to e)) e (branch_parts z.counts z.wiring i j e)
      ∙ ap (branch_part z.counts z.wiring j i e) (symmetric i j e)

  -- the port's sum of the transposed cell
  pub turned_alike : (i j t : ℕ) → SameOrZeros (eval (R z) (S z) (branch_parts z.counts z.wiring j i t)) (worth z (manual.bbus_to (book_site z) i j t))
  turned_alike i j t = rw (symmetric j i t) (sums_alike i j t)
