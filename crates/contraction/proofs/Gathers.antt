-- A parameter column's entries, gathered word by word.
-- Main results: `zero_is`, `none`, `skip` (a word that is zero), `skips` (so many of them), `more` (a word that is not). Assumes nothing.
use mathlib.Core.Path.{◌≡◌, refl, sym, ◌∙◌}
use mathlib.Core.Bool.{Bool, true, false, not, not-not}
use mathlib.Core.List.{List}
use Prim.Native.Nat.{ℕ, zero, suc, ◌+◌, ◌≤◌, ◌<◌}
use native.Mathlib.Nat.{not-suc-le-zero, zero-add, add-zero}
use native.Mathlib.Omega.{arith}
use lib.ListN.{length, get_or, set, take, length-set}
use Rattle.std.proofs.lemmas.List.{get_or-take, length-take-le}
use Rattle.std.specs.Prelude.{Some}
use Rattle.std.specs.Option.{ForSome}
use lib.Seq.{get_or-set_same, get_or-set_other}
use lib.Ieee.{Float, nan, binary64, add, mul, eq, ne}
use Rattle.float64.specs.Values.{nought}
use Rattle.sequence.specs.Lists.{every, turns}
use Rattle.sequence.proofs.Lists.{and_left, and_right, turns_more, turns_same, stored_at}
use Rattle.model.specs.Quantities.{term_sum}
use Rattle.contraction.specs.Contraction.{gathered, Gathers}

-- a word that equals 0 is a zero, of either sign
pub zero_is : (v : Float) → eq v nought ≡ not (ne v nought)
unfolding ne
zero_is v = sym (not-not (eq v nought))

pub none : (rows : List ℕ) (values parameter : List Float) → Gathers rows values 0 0 parameter
unfolding term_sum gathered turns
none rows values parameter =
    record {
      run = record { in_rows = omega arith; in_weights = omega arith; below = λ t h. absurd (not-suc-le-zero h) };
      sum = λ solved. refl;
    }

-- a value that an option holds
pub of_some : {A : Type 0} (P : A → Type 0) {a : A} → P a → ForSome (Some a) P
of_some P {a} p x e = let q : a ≡ x = cc in rw q at p

-- the entries in front of two slices
pub in_front : {rows : List ℕ} {values : List Float} {n dim : ℕ} {parameter : List Float} → Gathers rows values n dim parameter
    → Gathers (take n rows) (take n values) (length (take n rows)) dim parameter
unfolding term_sum
in_front {rows} {values} {n} g =
    let a : n ≤ length rows = omega (arith, g.run.in_rows) in
    let e = length-take-le n rows a in
    rw e (record {
      run = record {
        in_rows = rw e (omega arith);
        in_weights = rw (length-take-le n values (omega (arith, g.run.in_weights))) (omega arith);
        below = λ t h. rw (get_or-take n rows (0 + t) 0 (omega arith)) (g.run.below t h);
      };
      sum = λ solved. turns_same _ _ nought n (λ t h x. rw (get_or-take n rows (0 + t) 0 (omega arith), get_or-take n values (0 + t) nan (omega arith))) ∙ g.sum solved;
    })

pub skip : {rows : List ℕ} {values : List Float} {n r : ℕ} {parameter : List Float} → Gathers rows values n r parameter
    → ne (get_or parameter r nan) nought ≡ false → Gathers rows values n (r + 1) parameter
unfolding gathered
skip g e =
    record {
      run = record { in_rows = g.run.in_rows; in_weights = g.run.in_weights; below = λ t h. omega (arith, g.run.below t h) };
      sum = λ solved. g.sum solved ∙ rw (turns_more, e);
    }

not_false : (b : Bool) → not b ≡ true → b ≡ false
not_false true e = sym e
not_false false e = refl

pub skips : {rows : List ℕ} {values : List Float} {n : ℕ} (r k : ℕ) {parameter : List Float} → Gathers rows values n r parameter
    → every (λ i. not (ne (get_or parameter (r + i) nan) nought)) k ≡ true → Gathers rows values n (r + k) parameter
unfolding every
skips r zero g e = rw (add-zero r) g
skips {rows} {values} {n} r (suc k) {parameter} g e =
    let p : r + suc k ≡ r + k + 1 = omega arith in
    rw p (skip (skips r k g (and_left _ _ e)) (not_false _ (and_right (every (λ i. not (ne (get_or parameter (r + i) nan) nought)) k) _ e)))

-- entries behind the first n change nothing of their sum
behind : (rows : List ℕ) (values solved : List Float) (n r : ℕ) (v : Float) → term_sum (set rows n r) (set values n v) solved 0 n ≡ term_sum rows values solved 0 n
unfolding term_sum
behind rows values solved n r v =
    turns_same _ _ nought n (λ t h x. let z : 0 + t ≡ n → ⊥ = λ e. omega arith in rw (get_or-set_other rows n (0 + t) r 0 z, get_or-set_other values n (0 + t) v nan z))

-- the entry behind them is added
last : (rows : List ℕ) (values solved : List Float) (n : ℕ) → term_sum rows values solved 0 (n + 1) ≡ add binary64 (term_sum rows values solved 0 n) (mul binary64 (get_or values n nan) (get_or solved (get_or rows n 0) nan))
unfolding term_sum
last rows values solved n = rw (turns_more, zero-add n)

pub more : {rows : List ℕ} {values : List Float} {n r : ℕ} {parameter : List Float} → Gathers rows values n r parameter
    → n < length rows → n < length values → ne (get_or parameter r nan) nought ≡ true
    → Gathers (set rows n r) (set values n (get_or parameter r nan)) (n + 1) (r + 1) parameter
unfolding gathered
more {rows} {values} {n} {r} {parameter} g i j e =
    record {
      run =
          record {
            in_rows = simp length-set (omega arith);
            in_weights = simp length-set (omega arith);
            below = λ t h. stored_at (λ x. x < r + 1) rows n r (0 + t) 0 i (λ q. omega arith) (λ q. omega (arith, g.run.below t (omega arith)));
          };
      sum = λ solved. rw (last (set rows n r) (set values n (get_or parameter r nan)) solved n, behind rows values solved n r (get_or parameter r nan), get_or-set_same rows n r 0 i, get_or-set_same values n (get_or parameter r nan) nan j, g.sum solved, turns_more, e);
    }
