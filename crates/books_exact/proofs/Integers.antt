-- The integers: a world over them in which 0 and 1 stand for themselves, so that the theorems say something there.
-- Main definitions: `whole_world`, `site`. Main results: `whole_sound`, `whole_rates`, `whole_matrix`; at a network of two buses `site_matrix`, `cell_word`, `derivative_word`. Assumes nothing.
use Prim.Native.Nat.{ℕ, zero, suc, ◌*◌, ◌^◌, ◌<◌}
use mathlib.Core.Path.{◌≡◌, refl}
use mathlib.Core.Bool.{Bool, true, false, cond}
use mathlib.Core.List.{List, [], ◌∷◌}
use lib.IntN.{ℤ, pos, negsuc, neg_ℤ}
use native.Mathlib.Omega.{arith}
use lib.Dec.{eqb, lit<, lit≤}
use lib.Ieee.{Float, nan, inf, fin, of_bits, of_int}
use Rattle.float64.specs.Values.{whole}
use Rattle.sequence.specs.Lists.{before, each, when}
use Rattle.network.specs.declared.Field.{Field}
use Rattle.network.specs.declared.Part.TheVariants.{BrFrom, BrTo, GenBus, References, Masks}
use Rattle.network.specs.declared.Field.TheVariants.{Susceptance}
use Rattle.network.specs.Layout.{counts_of, part_start, wire, rank, segment_start, term_start}
use Rattle.network.specs.Numbers.{Wired}
use Rattle.solution.specs.Sheet.{piece_rank}
use Rattle.kkt_index.specs.declared.Block.TheVariants.{Va, NuBal}
use Rattle.kkt_index.specs.Index.Shape.{free}
use Rattle.exact.specs.Ring.{sum, only}
use Rattle.exact.proofs.Integers.{integers}
use Rattle.books.specs.Forms.{Place}
use Rattle.books.specs.Convex.{against, constraint_entries, hessian_entries, matrix_of}
use Rattle.books.specs.Manual.{Site, program, constraints, bbus_to}
use Rattle.books_residual.specs.Residual.{sum_to, balance_row}
use Rattle.books_exact.specs.Exact.{World, Sound, exact_of, along}
use Rattle.books_exact.specs.Derivatives.{cell_sum, toward, MatrixIsDerivative, RateIsDerivative}
use Rattle.books_exact.proofs.Rates.{rate_is_derivative}
use Rattle.books_exact.proofs.Matrix.{matrix_is_derivative}

-- the integer that a double with no negative exponent stands for; any other double stands for 0
abbrev pub integer_of : Float → ℤ
integer_of nan = pos 0
integer_of (inf b) = pos 0
integer_of (fin true m (pos e)) = neg_ℤ (pos (m * 2 ^ e))
integer_of (fin false m (pos e)) = pos (m * 2 ^ e)
integer_of (fin b m (negsuc e)) = pos 0

-- 1 and −1 have a reciprocal; any other integer's is put at 0
abbrev pub reciprocal : ℤ → ℤ
reciprocal (pos zero) = pos 0
reciprocal (pos (suc zero)) = pos 1
reciprocal (pos (suc (suc n))) = pos 0
reciprocal (negsuc zero) = negsuc 0
reciprocal (negsuc (suc n)) = pos 0

abbrev pub above_none : ℤ → Bool
above_none (pos zero) = false
above_none (pos (suc n)) = true
above_none (negsuc n) = false

module _ (R : Field → ℕ → ℤ) (X : Place → ℤ) where
  -- whatever integers are read and solved
  abbrev pub whole_world : World ℤ
  whole_world = record { number = integer_of; inverse = reciprocal; above = above_none; reading = R; unknown = X }

  pub whole_sound : Sound integers whole_world
  unfolding of_bits
  whole_sound = record { nought_is = refl; one_is = refl }

  pub whole_rates : RateIsDerivative integers whole_world
  whole_rates = rate_is_derivative integers whole_world whole_sound

  pub whole_matrix : (s : Site) → Wired s.counts s.wiring → MatrixIsDerivative integers whole_world s
  whole_matrix s g = matrix_is_derivative integers whole_world whole_sound s g

-- ---- a network of two buses: one branch between them, and one that joins bus 1 to itself

abbrev wiring : List ℕ
wiring = 2 ∷ 2 ∷ 1 ∷ 1 ∷ 0 ∷ 0 ∷ 0 ∷ 0 ∷ 1 ∷ 0 ∷ 1 ∷ 1 ∷ 1 ∷ 0 ∷ 0 ∷ 0 ∷ 1 ∷ 1 ∷ 1 ∷ 1 ∷ 1 ∷ []

abbrev pub site : Site
site = record { counts = counts_of wiring; wiring = wiring; indexes = []; coefficients = []; shapes = λ q. free; fixed = λ i. false }

-- every susceptance is −4, and every other reading 1
abbrev readings : Field → ℕ → ℤ
readings f i = cond (eqb (rank f) (rank Susceptance)) (negsuc 3) (pos 1)

abbrev solution : Place → ℤ
solution p = pos 1

abbrev world : World ℤ
world = whole_world readings solution

-- what holds of each index below a bound that is written out
each_below : (P : ℕ → Type 0) → P 0 → P 1 → (n : ℕ) → n < 3 → (i : ℕ) → i < n → P i
each_below P p q n l zero h = p
each_below P p q n l (suc zero) h = q
each_below P p q n l (suc (suc i)) h = let z : ⊥ = omega arith in absurd z

pub site_wired : Wired site.counts site.wiring
unfolding before wire part_start
site_wired = record {
  laid = record {
    few = record { buses = lit≤ tt; branches = lit≤ tt; generators = lit≤ tt; references = lit≤ tt; segments = lit≤ tt; rows = lit≤ tt; terms = lit≤ tt };
    long = refl;
  };
  segments_sum = refl;
  terms_sum = refl;
  froms = each_below (λ i. wire (counts_of wiring) wiring BrFrom i < 2) (lit< tt) (lit< tt) 2 (lit< tt);
  tos = each_below (λ i. wire (counts_of wiring) wiring BrTo i < 2) (lit< tt) (lit< tt) 2 (lit< tt);
  gen_buses = each_below (λ i. wire (counts_of wiring) wiring GenBus i < 2) (lit< tt) (lit< tt) 1 (lit< tt);
  references = each_below (λ i. wire (counts_of wiring) wiring References i < 2) (lit< tt) (lit< tt) 1 (lit< tt);
  masks = each_below (λ i. wire (counts_of wiring) wiring Masks i < 4) (lit< tt) (lit< tt) 0 (lit< tt);
}

pub site_matrix : MatrixIsDerivative integers world site
site_matrix = whole_matrix readings solution site site_wired

-- both ways: 4 at bus 0's balance and bus 1's angle, the branch at bus 1 alone adding nothing
pub cell_word : cell_sum integers world (matrix_of (program site)) (NuBal, 0) (Va, 1) ≡ pos 4
unfolding sum only exact_of program constraints constraint_entries hessian_entries against bbus_to each when before wire part_start segment_start term_start piece_rank whole of_int of_bits
cell_word = refl

pub derivative_word : along integers world (toward integers world (Va, 1)) (balance_row site 0) ≡ pos 4
unfolding along only exact_of sum_to wire part_start of_bits
derivative_word = refl
