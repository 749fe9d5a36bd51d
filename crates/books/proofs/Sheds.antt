-- The port's list agrees with the books' at the blocks of the shed demand's limits, at a fixed bus and at another.
-- Main results: one for each pair of blocks, named by them. Assumes nothing.
use mathlib.Core.Path.{◌≡◌, refl}
use mathlib.Core.Bool.{Bool, true, false, cond}
use mathlib.Core.List.{[]}
use Prim.Native.Nat.{ℕ, ◌<◌}
use lib.Dec.{T, eqb}
use lib.Ieee.{Float, binary64, neg, eq, fits, of_bits}
use lib.Ieee.Bits.{of_bits-fits}
use lib.Ieee.Fits.{sub-fits}
use Rattle.float64.specs.Values.{nought, one}
use Rattle.network.specs.Layout.{allow_shed}
use Rattle.model.specs.Quantities.{shed_cap}
use Rattle.solution.specs.declared.Entry.TheVariants as entries
use Rattle.kkt_index.specs.declared.Block.TheVariants.{Psh, MuLb, MuUb}
use Rattle.snapping.specs.declared.BusState.{BusState}
use Rattle.snapping.specs.declared.BusState.TheVariants.{Fixed, AtZero, AtCap, Between}
use Rattle.snapping.specs.States.{by_state, bus_state}
use Rattle.snapping.specs.Expr.{eval}
use Rattle.snapping.specs.Expr.Expr.{◌⊖◌}
use Rattle.snapping.specs.Snap.{cap_of, shed_of, mu_lb_of, mu_ub_of}
use Rattle.kkt.specs.Slots.{columns}
use Rattle.books.specs.Forms.{Form}
use Rattle.books.specs.Convex.{Constraint, against, constraint_entries}
use Rattle.books.specs.Manual as manual
use Rattle.books.proofs.Cells.{values, both, held, held_nil}
use Rattle.books.proofs.Setting.{Setting, R, S, port_site, book_site, book_point, worth}
use Rattle.books.proofs.Book as book
use Rattle.books.proofs.Pairs.{Agree, turns, word, sol_fits, once, twice}

nought_fits : T (fits binary64 nought)
nought_fits = of_bits-fits binary64 0

zero_is : eq nought nought ≡ true
unfolding eq of_bits
zero_is = refl

state_fits : (b : BusState) (f s c o : Float) → T (fits binary64 f) → T (fits binary64 s) → T (fits binary64 c) → T (fits binary64 o) → T (fits binary64 (by_state b f s c o))
state_fits Fixed f s c o p q r t = p
state_fits AtZero f s c o p q r t = q
state_fits AtCap f s c o p q r t = r
state_fits Between f s c o p q r t = t

module _ (z : Setting) where
  mu_lb-fits : (i : ℕ) → T (fits binary64 (eval (R z) (S z) (mu_lb_of z.wiring i)))
  mu_lb-fits i =
      state_fits (bus_state (eval (R z) (S z) (cap_of z.wiring i)) (S z entries.Psh i)) _ _ _ _
      (sub-fits binary64 (S z entries.MuLb i) (S z entries.MuUb i)) (sol_fits z entries.MuLb i) nought_fits nought_fits

  mu_ub-fits : (i : ℕ) → T (fits binary64 (eval (R z) (S z) (mu_ub_of z.wiring i)))
  mu_ub-fits i =
      state_fits (bus_state (eval (R z) (S z) (cap_of z.wiring i)) (S z entries.Psh i)) _ _ _ _
      nought_fits nought_fits (sol_fits z entries.MuUb i) nought_fits

  -- the cap, of the manual's choice and of the port's
  cap_is : (b : Bool) (x y : Form) → worth z (cond b x y) ≡ cond b (worth z x) (worth z y)
  cap_is true x y = refl
  cap_is false x y = refl

  abbrev lower : Bool → ℕ → Constraint
  lower b i = cond b (manual.shed_none (book_site z) i) (manual.shed_floor (book_site z) i)

  abbrev upper : Bool → ℕ → Constraint
  upper b i = cond b (manual.shed_spare (book_site z) i) (manual.shed_ceiling (book_site z) i)

  module _ (i j e : ℕ) (l : e < z.counts.buses) where
    lower_row : (b : Bool) → held (both (eqb e i) (eqb e j)) (cond b one (eval (R z) (S z) (mu_lb_of z.wiring e))) [] ≡ values (book_point z) (MuLb, i) (Psh, j) (book.one (lower b) e)
    unfolding values constraint_entries against
    lower_row true = refl
    lower_row false = rw (word z entries.MuLb refl e l, twice (eval (R z) (S z) (mu_lb_of z.wiring e)) (mu_lb-fits e))

    upper_row : (b : Bool) → held (both (eqb e i) (eqb e j)) (cond b nought (neg (eval (R z) (S z) (mu_ub_of z.wiring e)))) [] ≡ values (book_point z) (MuUb, i) (Psh, j) (book.one (upper b) e)
    unfolding values constraint_entries against
    upper_row true = refl
    upper_row false = rw (word z entries.MuUb refl e l, once (eval (R z) (S z) (mu_ub_of z.wiring e)) (mu_ub-fits e))

    lower_column : (b : Bool) → held (both (eqb e i) (eqb e j)) (neg one) [] ≡ values (book_point z) (Psh, i) (MuLb, j) (book.one (lower b) e)
    unfolding values constraint_entries against
    lower_column true = refl
    lower_column false = refl

    upper_column : (b : Bool) → held (both (eqb e i) (eqb e j)) one [] ≡ values (book_point z) (Psh, i) (MuUb, j) (book.one (upper b) e)
    unfolding values constraint_entries against
    upper_column true = refl
    upper_column false = refl

    lower_own : (b : Bool) → held (both (eqb e i) (eqb e j)) (cond b nought (eval (R z) (S z) (shed_of z.wiring e))) [] ≡ values (book_point z) (MuLb, i) (MuLb, j) (book.one (lower b) e)
    unfolding values constraint_entries against
    lower_own true = held_nil (both (eqb e i) (eqb e j)) nought [] zero_is
    lower_own false = rw (word z entries.Psh refl e l)

    upper_own : (b : Bool) → held (both (eqb e i) (eqb e j)) (cond b one (eval (R z) (S z) (cap_of z.wiring e ⊖ shed_of z.wiring e))) [] ≡ values (book_point z) (MuUb, i) (MuUb, j) (book.one (upper b) e)
    unfolding values constraint_entries against
    upper_own true = refl
    upper_own false = rw (word z entries.Psh refl e l, cap_is (eqb (allow_shed z.wiring) 1))

  pub mu_lb-psh : (i j : ℕ) → Agree z (MuLb, i) (Psh, j)
  unfolding values columns shed_cap
  mu_lb-psh i j =
      turns z (MuLb, i) (Psh, j) z.counts.buses (columns (port_site z) Psh) (book.one (manual.shed_lower (book_site z))) _ _ refl refl
      (λ e l. lower_row i j e l ((book_site z).fixed e))

  pub mu_ub-psh : (i j : ℕ) → Agree z (MuUb, i) (Psh, j)
  unfolding values columns shed_cap
  mu_ub-psh i j =
      turns z (MuUb, i) (Psh, j) z.counts.buses (columns (port_site z) Psh) (book.one (manual.shed_upper (book_site z))) _ _ refl refl
      (λ e l. upper_row i j e l ((book_site z).fixed e))

  pub psh-mu_lb : (i j : ℕ) → Agree z (Psh, i) (MuLb, j)
  unfolding values columns
  psh-mu_lb i j =
      turns z (Psh, i) (MuLb, j) z.counts.buses (columns (port_site z) MuLb) (book.one (manual.shed_lower (book_site z))) _ _ refl refl
      (λ e l. lower_column i j e l ((book_site z).fixed e))

  pub psh-mu_ub : (i j : ℕ) → Agree z (Psh, i) (MuUb, j)
  unfolding values columns
  psh-mu_ub i j =
      turns z (Psh, i) (MuUb, j) z.counts.buses (columns (port_site z) MuUb) (book.one (manual.shed_upper (book_site z))) _ _ refl refl
      (λ e l. upper_column i j e l ((book_site z).fixed e))

  pub mu_lb-mu_lb : (i j : ℕ) → Agree z (MuLb, i) (MuLb, j)
  unfolding values columns shed_cap
  mu_lb-mu_lb i j =
      turns z (MuLb, i) (MuLb, j) z.counts.buses (columns (port_site z) MuLb) (book.one (manual.shed_lower (book_site z))) _ _ refl refl
      (λ e l. lower_own i j e l ((book_site z).fixed e))

  pub mu_ub-mu_ub : (i j : ℕ) → Agree z (MuUb, i) (MuUb, j)
  unfolding values columns shed_cap
  mu_ub-mu_ub i j =
      turns z (MuUb, i) (MuUb, j) z.counts.buses (columns (port_site z) MuUb) (book.one (manual.shed_upper (book_site z))) _ _ refl refl
      (λ e l. upper_own i j e l ((book_site z).fixed e))
