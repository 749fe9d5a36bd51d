-- The laws of a call's answer on bytes: a result that goes by way of cells, and a call that is refused at once. Assumes nothing.
use mathlib.Core.Path.{◌≡◌, refl, sym, ap, ◌∙◌}
use mathlib.Core.Bool.{Bool, true, false, cond, ◌&&◌}
use mathlib.Core.List.{List, [], ◌∷◌, ◌++◌}
use Prim.Native.Nat.{ℕ, ◌/◌, ◌≤◌, ◌<◌, min}
use native.Mathlib.Omega.{arith}
use native.Mathlib.Decide.{ℕ_discrete, dec_lt}
use lib.Dec.{T, eqb, ltb, leb}
use lib.ListN.{length, take}
use lib.Seq.{length-take-le}
use lib.Ieee.{Float}
use borrow.Author.Tests.{lt-ltb, le-ltb, ltb-false, eqb-true}
use Rattle.sequence.specs.Lists.{front, made}
use Rattle.sequence.specs.Answers.{Test, test, first_of, marked, short, Filled, filled, fills}
use Rattle.sequence.proofs.Lists.{and_left, and_right, made_length, never}
use Rattle.sequence.proofs.Answers.{holding, first_stands, rest_passed}
use Rattle.words.specs.Words.{double_at, doubles_of, joined}
use Rattle.sequence.proofs.Fronts.{take_front}
use Rattle.network.specs.Layout.{Few, counts_of}
use Rattle.network.specs.Numbers.{Network, network_tests, network_number, sizes_hold, wiring_holds, readings_hold, Accepted}
use Rattle.model.specs.Calls.{row_kind_number, row_kind_call, counted, element_number, element_call, sheet_number, bus_call}
use Rattle.network.proofs.Tests.{number_size, sized_few, accepted}
use Rattle.decoding.specs.Exports.{Out, out, packed, whole, filled_out}
use Rattle.decoding.specs.Decoding.{fits, Cells}
use Rattle.decoding.proofs.Decoded.{contrary, fits_of, whole_of}

-- ---- a result's bytes do not depend on the sheet that it is cut from

refill_by : (b : Bool) (n : ℕ) (result s t : List Float) (bs : List ℕ)
    → filled_out true (cond b (filled 0 (length result) (front result s)) (filled n 0 s)) bs ≡ filled_out true (cond b (filled 0 (length result) (front result t)) (filled n 0 t)) bs
unfolding filled_out
refill_by true n result s t bs = rw (take_front result s (length result) refl, take_front result t (length result) refl)
refill_by false n result s t bs = refl

refill : (n : ℕ) (result s t : List Float) (bs : List ℕ) → filled_out true (fills n result s) bs ≡ filled_out true (fills n result t) bs
unfolding fills
refill n result s t bs = refill_by (eqb n 0) n result s t bs

count_by : (b : Bool) (n : ℕ) (result s : List Float) → (b ≡ true → length result ≤ length s) → (cond b (filled 0 (length result) (front result s)) (filled n 0 s)).count ≤ length s
count_by true n result s h = h refl
count_by false n result s h = omega arith

count_of : (n : ℕ) (result s : List Float) → (n ≡ 0 → length result ≤ length s) → (fills n result s).count ≤ length s
unfolding fills
count_of n result s h = count_by (eqb n 0) n result s (λ e. h (eqb-true n 0 e))

pub short_same : (a b k : ℕ) → (k ≤ a → k ≤ b) → (k ≤ b → k ≤ a) → ltb a k ≡ ltb b k
short_same a b k f g = go (dec_lt a k)
  where
    go : Dec (a < k) → ltb a k ≡ ltb b k
    go (yes p) =
        lt-ltb a k p ∙ sym (lt-ltb b k (other (dec_lt b k)))
      where
        other : Dec (b < k) → b < k
        other (yes q) = q
        other (no q) = let z : k ≤ a = g (omega arith) in absurd (omega arith)
    go (no p) = let z : k ≤ b = f (omega arith) in le-ltb a k (omega arith) ∙ sym (le-ltb b k z)

-- ---- a call whose last test is of its sheet's room

module _ (ts : List Test) (m : T (marked ts)) where
  pub last_passed : (b : Bool) → first_of (ts ++ test 7 b ∷ []) ≡ 0 → b ≡ false
  last_passed false e = refl
  last_passed true e = absurd (omega (arith, rest_passed ts (test 7 true ∷ []) m e, holding 7 true [] refl))

  pub last_same : (a b : Bool) → (first_of ts ≡ 0 → a ≡ b) → first_of (ts ++ test 7 a ∷ []) ≡ first_of (ts ++ test 7 b ∷ [])
  last_same a b h = go (ℕ_discrete (first_of ts) 0)
    where
      go : Dec (first_of ts ≡ 0) → first_of (ts ++ test 7 a ∷ []) ≡ first_of (ts ++ test 7 b ∷ [])
      go (yes z) = rw (h z)
      go (no z) = first_stands ts _ m z ∙ sym (first_stands ts _ m z)

  module _ (result : List Float) where
    abbrev pub sheet_tested : List Float → ℕ
    sheet_tested s = first_of (ts ++ test 7 (short result s) ∷ [])

    module _ (most : ℕ) (bs : List ℕ) (cells : List Float) (room : Cells most (length bs) (length cells)) (small : first_of ts ≡ 0 → length result ≤ most) {n k : ℕ} {new : List Float} (e : filled n k new ≡ fills (sheet_tested cells) result cells) where
      rooms : first_of ts ≡ 0 → short result cells ≡ short result (doubles_of bs)
      rooms z =
          short_same (length cells) (length (doubles_of bs)) (length result)
          (λ l. omega (arith, made_length (double_at bs) (length bs / 8), room.within))
          (λ l. room.enough (length result) (small z) (omega (arith, made_length (double_at bs) (length bs / 8))))

      pub sheet_answer : filled_out true (filled n k new) bs ≡ filled_out true (fills (sheet_tested (doubles_of bs)) result (doubles_of bs)) bs
      sheet_answer =
          ap (λ (a : Filled Float). filled_out true a bs) e
          ∙ refill (sheet_tested cells) result cells (doubles_of bs) bs
          ∙ ap (λ (j : ℕ). filled_out true (fills j result (doubles_of bs)) bs) (last_same (short result cells) (short result (doubles_of bs)) rooms)

      pub sheet_count : k ≤ length cells
      sheet_count = rw (ap (λ (a : Filled Float). a.count) e) (count_of (sheet_tested cells) result cells (λ z. ltb-false _ _ (last_passed (short result cells) z)))

-- a call for one number of an element
module _ (N : Network) (sizes values : Bool) (i count : ℕ) (x : Float) (bs : List ℕ) (cells : List Float) (room : Cells 1 (length bs) (length cells)) {n k : ℕ} {new : List Float} (e : filled n k new ≡ element_call N sizes values i count x cells) where
  pub element_answer : filled_out true (filled n k new) bs ≡ filled_out true (element_call N sizes values i count x (doubles_of bs)) bs
  unfolding element_number marked
  element_answer = sheet_answer (network_tests N sizes values ++ test 5 (leb count i) ∷ []) tt (x ∷ []) 1 bs cells room (λ z. omega arith) e

  pub element_count : k ≤ length cells
  unfolding element_number marked
  element_count = sheet_count (network_tests N sizes values ++ test 5 (leb count i) ∷ []) tt (x ∷ []) 1 bs cells room (λ z. omega arith) e

-- the network's tests pass only where the network is accepted
passed_by : (N : Network) (sizes values a b r : Bool) → sizes_hold N && sizes ≡ a → wiring_holds (counts_of N.wiring) N.wiring N.indexes ≡ b → readings_hold (counts_of N.wiring) N && values ≡ r
    → first_of (network_tests N sizes values) ≡ 0 → Accepted N (counts_of N.wiring)
unfolding first_of
passed_by N sizes values true true true h g f z = accepted N (and_left (sizes_hold N) sizes h) g (and_left (readings_hold (counts_of N.wiring) N) values f)
passed_by N sizes values true true false h g f z = absurd (omega (arith, rw (h, g, f) at z))
passed_by N sizes values true false r h g f z = absurd (omega (arith, rw (h, g) at z))
passed_by N sizes values false b r h g f z = absurd (omega (arith, rw h at z))

pub passed_network : (N : Network) (sizes values : Bool) → first_of (network_tests N sizes values) ≡ 0 → Accepted N (counts_of N.wiring)
passed_network N sizes values = passed_by N sizes values _ _ _ refl refl refl

pub few_counts : (N : Network) (sizes values : Bool) → first_of (network_tests N sizes values) ≡ 0 → Few (counts_of N.wiring)
few_counts N sizes values z = (passed_network N sizes values z).wired.laid.few

-- a call for a number for every bus
module _ (N : Network) (f : ℕ → Float) (bs : List ℕ) (cells : List Float) (room : Cells 256 (length bs) (length cells)) {n k : ℕ} {new : List Float} (e : filled n k new ≡ bus_call N f cells) where
  small : first_of (network_tests N true true) ≡ 0 → length (made f (counted N).buses) ≤ 256
  small z = rw made_length (few_counts N true true z).buses

  pub bus_answer : filled_out true (filled n k new) bs ≡ filled_out true (bus_call N f (doubles_of bs)) bs
  unfolding sheet_number marked
  bus_answer = sheet_answer (network_tests N true true) tt (made f (counted N).buses) 256 bs cells room small e

  pub bus_count : k ≤ length cells
  unfolding sheet_number marked
  bus_count = sheet_count (network_tests N true true) tt (made f (counted N).buses) 256 bs cells room small e

-- ---- sizes that do not hold are refused at once, whatever tests follow

one_by : (ok : Bool) (number : ℕ) (result sheet : List Float) (bs : List ℕ) → (ok ≡ true → number ≡ 1) → out 1 bs ≡ filled_out ok (fills number result sheet) bs
unfolding filled_out fills front joined
one_by false number result sheet bs h = refl
one_by true number result sheet bs h = rw (h refl)

pub size_fails : (N : Network) (sizes values : Bool) (ts : List Test) (ok : Bool) → ok && (sizes_hold N && sizes) ≡ false → ok ≡ true → first_of (network_tests N sizes values ++ ts) ≡ 1
size_fails N sizes values ts true e z = holding 1 _ _ (rw e)
size_fails N sizes values ts false e z = never z

pub passed_sizes : (N : Network) (sizes values : Bool) (ts : List Test) → first_of (network_tests N sizes values ++ ts) ≡ 0 → sizes_hold N ≡ true
passed_sizes N sizes values ts z = go (sizes_hold N) refl
  where
    go : (b : Bool) → sizes_hold N ≡ b → b ≡ true
    go true e = refl
    go false e = absurd (omega (arith, z, size_fails N sizes values ts true (rw e) refl))

pub sheet_one : (N : Network) (sizes values : Bool) (further : List Test) (result sheet : List Float) (ok : Bool) (bs : List ℕ) → ok && (sizes_hold N && sizes) ≡ false
    → out 1 bs ≡ filled_out ok (fills (first_of (network_tests N sizes values ++ further)) result sheet) bs
sheet_one N sizes values further result sheet ok bs e = one_by ok _ result sheet bs (size_fails N sizes values further ok e)

pub element_one : (N : Network) (sizes values : Bool) (i count : ℕ) (x : Float) (sheet : List Float) (ok : Bool) (bs : List ℕ) → ok && (sizes_hold N && sizes) ≡ false → out 1 bs ≡ filled_out ok (element_call N sizes values i count x sheet) bs
unfolding element_number
element_one N sizes values i count x sheet ok bs e = sheet_one N sizes values _ (x ∷ []) sheet ok bs e

pub bus_one : (N : Network) (f : ℕ → Float) (sheet : List Float) (ok : Bool) (bs : List ℕ) → ok && (sizes_hold N && true) ≡ false → out 1 bs ≡ filled_out ok (bus_call N f sheet) bs
unfolding sheet_number
bus_one N f sheet ok bs e = sheet_one N true true _ (made f (counted N).buses) sheet ok bs e

pub own_true : (ok sized : Bool) → ok && sized ≡ false → ok && (sized && true) ≡ false
own_true false sized e = refl
own_true true true e = e
own_true true false e = refl

-- a network that was not decoded, in a call with no sizes of its own
pub unsized : (ok : Bool) (N : Network) → ok && sizes_hold N ≡ false → ok && (sizes_hold N && true) ≡ false
unsized ok N h = own_true ok (sizes_hold N) h

-- ---- an export whose slices were decoded

pub cut_count : {A : Type 0} (n : ℕ) (xs : List A) → n ≤ length xs → n ≡ length (take n xs)
cut_count n xs h = sym (length-take-le n xs h)

pub cut_cells : {most bytes n : ℕ} (xs : List Float) → n ≤ length xs → Cells most bytes n → Cells most bytes (length (take n xs))
cut_cells {n = n} xs h r = rw (length-take-le n xs h) r

-- how many cells there are is the least of the two
pub cells_are : {most bytes n : ℕ} → Cells most bytes n → n ≡ min most (bytes / 8)
cells_are {most} {bytes} r = omega (arith, r.below, r.within, r.enough (min most (bytes / 8)) (omega arith) (omega arith))

pub told : {A : Type 0} (f : Bool → Network → A) {b : Bool} {M N : Network} → b ≡ true → M ≡ N → f true M ≡ f b N
told f {N = N} e q = ap (f true) q ∙ ap (λ (t : Bool). f t N) (sym e)

-- the number of a network alone

pub number_one : (ok : Bool) (N : Network) → ok && sizes_hold N ≡ false → 1 ≡ cond ok (network_number N) 1
unfolding network_number
number_one true N e = number_size N true true e
number_one false N e = refl

kind_number : (N : Network) (q : ℕ) → sizes_hold N ≡ false → row_kind_number N q ≡ 1
unfolding row_kind_number
kind_number N q e = size_fails N true true _ true (own_true true (sizes_hold N) e) refl

-- a row's kind: number and kind in one word
pub kind_one : (ok : Bool) (N : Network) (q : ℕ) → ok && sizes_hold N ≡ false → 1 ≡ cond ok (packed (row_kind_call N q).number (row_kind_call N q).kind) 1
unfolding row_kind_call
kind_one false N q e = refl
kind_one true N q e = rw (kind_number N q e)

-- ---- a call with one slice of doubles of its own, whose length is one of its sizes

module _ (N : Network) (ok : Bool) (own : List ℕ) (sizes : Bool) where
  pub unsized_beside : ok && sizes_hold N ≡ false → (ok && whole 8 own) && (sizes_hold N && sizes) ≡ false
  unsized_beside h = contrary _ _ (λ e. rw (and_left ok _ (and_left (ok && whole 8 own) _ e), and_left (sizes_hold N) _ (and_right (ok && whole 8 own) _ e))) h

  pub unsized_own : {most : ℕ} → (sizes_hold N ≡ true → sizes ≡ true → length (doubles_of own) ≤ most) → false ≡ fits 8 own most → (ok && whole 8 own) && (sizes_hold N && sizes) ≡ false
  unsized_own {most} small q = contrary _ _ fit (sym q)
    where
      fit : (ok && whole 8 own) && (sizes_hold N && sizes) ≡ true → fits 8 own most ≡ true
      fit e =
          let z : sizes_hold N && sizes ≡ true = and_right (ok && whole 8 own) _ e in
          let l : length (doubles_of own) ≤ most = small (and_left (sizes_hold N) sizes z) (and_right (sizes_hold N) sizes z) in
          fits_of 8 own most (and_right ok _ (and_left (ok && whole 8 own) _ e)) (omega (arith, l, made_length (double_at own) (length own / 8)))

pub wholly_own : {ok : Bool} (own : List ℕ) (most : ℕ) → ok ≡ true → true ≡ fits 8 own most → ok && whole 8 own ≡ true
wholly_own own most o e = rw (o, whole_of 8 own most (sym e))

-- ---- a call with flows and powers of its own

abbrev whole_with : Bool → List ℕ → List ℕ → Bool
whole_with ok f pg = ok && (whole 8 f && whole 8 pg)

abbrev sized_with : Network → List ℕ → List ℕ → Bool
sized_with N f pg = sizes_hold N && (eqb (length (doubles_of f)) (counted N).branches && eqb (length (doubles_of pg)) (counted N).generators)

module _ (N : Network) (ok : Bool) (f pg : List ℕ) where
  module _ (e : whole_with ok f pg && sized_with N f pg ≡ true) where
    wholes_hold : whole_with ok f pg ≡ true
    wholes_hold = and_left (whole_with ok f pg) (sized_with N f pg) e

    own_wholes : whole 8 f && whole 8 pg ≡ true
    own_wholes = and_right ok _ wholes_hold

    sizes_hold_lem : sized_with N f pg ≡ true
    sizes_hold_lem = and_right (whole_with ok f pg) (sized_with N f pg) e

    sized : sizes_hold N ≡ true
    sized = and_left (sizes_hold N) _ sizes_hold_lem

    own_sizes : eqb (length (doubles_of f)) (counted N).branches && eqb (length (doubles_of pg)) (counted N).generators ≡ true
    own_sizes = and_right (sizes_hold N) _ sizes_hold_lem

    both : ok && sizes_hold N ≡ true
    both = rw (and_left ok _ wholes_hold, sized)

    flows_fit : fits 8 f 512 ≡ true
    flows_fit =
        let l : length (doubles_of f) ≡ (counted N).branches = eqb-true _ _ (and_left (eqb (length (doubles_of f)) (counted N).branches) _ own_sizes) in
        fits_of 8 f 512 (and_left (whole 8 f) _ own_wholes) (omega (arith, (sized_few N sized).branches, made_length (double_at f) (length f / 8)))

    powers_fit : fits 8 pg 256 ≡ true
    powers_fit =
        let l : length (doubles_of pg) ≡ (counted N).generators = eqb-true _ _ (and_right (eqb (length (doubles_of f)) (counted N).branches) _ own_sizes) in
        fits_of 8 pg 256 (and_right (whole 8 f) _ own_wholes) (omega (arith, (sized_few N sized).generators, made_length (double_at pg) (length pg / 8)))

  pub unsized_network : ok && sizes_hold N ≡ false → whole_with ok f pg && sized_with N f pg ≡ false
  unsized_network = contrary _ _ both

  pub unsized_flows : false ≡ fits 8 f 512 → whole_with ok f pg && sized_with N f pg ≡ false
  unsized_flows e = contrary _ _ flows_fit (sym e)

  pub unsized_powers : false ≡ fits 8 pg 256 → whole_with ok f pg && sized_with N f pg ≡ false
  unsized_powers e = contrary _ _ powers_fit (sym e)

  pub wholly : ok ≡ true → true ≡ fits 8 f 512 → true ≡ fits 8 pg 256 → whole_with ok f pg ≡ true
  wholly o e d = rw (o, whole_of 8 f 512 (sym e), whole_of 8 pg 256 (sym d))

pub told_with : (g : Bool → Network → List Float → List Float → Out) {b : Bool} {M N : Network} {F F' P P' : List Float} → b ≡ true → M ≡ N → F ≡ F' → P ≡ P' → g true M F P ≡ g b N F' P'
told_with g e q r s = rw (e, q, r, s)
