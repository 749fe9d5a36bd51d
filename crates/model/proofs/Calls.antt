-- The returns of the public calls, one law for each, whatever is called. Assumes nothing.
use mathlib.Core.Path.{◌≡◌, refl, sym, ap, ◌∙◌}
use mathlib.Core.Bool.{Bool, true, false, not, ◌&&◌, and-false}
use mathlib.Core.List.{List, [], ◌∷◌, ◌++◌}
use Prim.Native.Nat.{ℕ, ◌≤◌, ◌<◌}
use native.Mathlib.Omega.{arith}
use lib.ListN.{length, set}
use lib.Dec.{T, eqb}
use lib.Ieee.{Float}
use borrow.Author.Tests.{le-leb, lt-leb, lt-ltb, le-ltb, eqb-true, ne_eqb}
use Rattle.sequence.specs.Lists.{front, made}
use Rattle.sequence.specs.Answers.{Test, test, first_of, marked, filled}
use Rattle.sequence.specs.declared.Triplet.{Triplet}
use Rattle.sequence.specs.Sheets.{laid, lays, lays_if, short_list}
use Rattle.sequence.proofs.Lists.{and_left, and_right, made_length}
use Rattle.sequence.proofs.Answers.{no_test, passed, holding, first_stands, first_passes, fills_refused, fills_done}
use Rattle.sequence.proofs.Sheets.{lays_refused}
use Rattle.sequence.proofs.Fronts.{one_front}
use Rattle.network.specs.Numbers.{Network, network_tests, network_number, sizes_hold}
use Rattle.model.specs.Calls.{counted, element_tests, element_number, element_call, sheet_number, bus_call, row_kind, row_kind_number, row_kind_call, list_number}
use Rattle.model.specs.Rows.{row_limits, kind_of}

-- a network's number is that of its tests
pub numbered : (N : Network) {k : ℕ} → k ≡ network_number N → k ≡ first_of (network_tests N true true)
unfolding network_number
numbered N e = e

module _ (N : Network) (sizes values : Bool) where
  network_marked : T (marked (network_tests N sizes values))
  unfolding marked
  network_marked = tt

  -- one of the network's tests holds, or none does, whatever tests follow
  pub network_stands : (ts : List Test) {k : ℕ} → k ≡ first_of (network_tests N sizes values) → (k ≡ 0 → ⊥) → first_of (network_tests N sizes values ++ ts) ≡ k
  network_stands ts e h = first_stands (network_tests N sizes values) ts network_marked (λ z. h (e ∙ z)) ∙ sym e

  pub network_passes : (ts : List Test) {k : ℕ} → k ≡ first_of (network_tests N sizes values) → k ≡ 0 → first_of (network_tests N sizes values ++ ts) ≡ first_of ts
  network_passes ts e h = first_passes (network_tests N sizes values) ts network_marked (sym e ∙ h)

-- a call's own tests, as the code answers them
pub own_tests_lem : (N : Network) {a b a' b' : Bool} {k : ℕ} → a ≡ a' → b ≡ b' → k ≡ first_of (network_tests N a b) → k ≡ first_of (network_tests N a' b')
own_tests_lem N p q e = rw (p, q) at e

pub both_equal : (a b c d : ℕ) → eqb a b && eqb c d ≡ true → (a ≡ b) × (c ≡ d)
both_equal a b c d e = (eqb-true a b (and_left (eqb a b) (eqb c d) e), eqb-true c d (and_right (eqb a b) (eqb c d) e))

-- where no test holds, the call's own sizes do
pub own_sizes : (N : Network) (sizes values : Bool) {k : ℕ} → k ≡ first_of (network_tests N sizes values) → k ≡ 0 → sizes ≡ true
own_sizes N true values e z = refl
own_sizes N false values e z =
    let h : not (sizes_hold N && false) ≡ true = rw and-false in
    absurd (omega (arith, e ∙ holding 1 (not (sizes_hold N && false)) _ h))

-- a call for one number of an element
module _ (N : Network) (sizes values : Bool) (i count : ℕ) (x : Float) (sheet : List Float) {k : ℕ} (e : k ≡ first_of (network_tests N sizes values)) where
  pub element_refused : (k ≡ 0 → ⊥) → filled k 0 sheet ≡ element_call N sizes values i count x sheet
  unfolding element_number
  element_refused h = fills_refused (x ∷ []) sheet (network_stands N sizes values _ e h) h

  pub element_stops : k ≡ 0 → {n : ℕ} → n ≡ first_of (element_tests count i (length sheet)) → (n ≡ 0 → ⊥) → filled n 0 sheet ≡ element_call N sizes values i count x sheet
  unfolding element_number
  element_stops z q h = fills_refused (x ∷ []) sheet (network_passes N sizes values _ e z ∙ sym q) h

  pub element_done : k ≡ 0 → {n : ℕ} → n ≡ first_of (element_tests count i (length sheet)) → n ≡ 0 → 1 ≤ length sheet → {y : Float} → y ≡ x
      → filled 0 1 (set sheet 0 y) ≡ element_call N sizes values i count x sheet
  unfolding element_number
  element_done z q h l p = rw (p, one_front x sheet l) (fills_done (x ∷ []) sheet (network_passes N sizes values _ e z ∙ sym q ∙ h))

-- a call for a number for every bus
module _ (N : Network) (f : ℕ → Float) (sheet : List Float) {k : ℕ} (e : k ≡ first_of (network_tests N true true)) where
  abbrev result : List Float
  result = made f (counted N).buses

  pub bus_refused : (k ≡ 0 → ⊥) → filled k 0 sheet ≡ bus_call N f sheet
  unfolding sheet_number
  bus_refused h = fills_refused result sheet (network_stands N true true _ e h) h

  pub bus_short : k ≡ 0 → length sheet < (counted N).buses → filled 7 0 sheet ≡ bus_call N f sheet
  unfolding sheet_number
  bus_short z l =
      fills_refused result sheet (network_passes N true true _ e z ∙ holding 7 _ [] (lt-ltb (length sheet) (length result) (rw made_length l))) (λ q. absurd (omega arith))

  pub bus_done : k ≡ 0 → (counted N).buses ≤ length sheet → {n : ℕ} {new : List Float} → n ≡ (counted N).buses → new ≡ front result sheet → filled 0 n new ≡ bus_call N f sheet
  unfolding sheet_number
  bus_done z l {n} {new} q h =
      ap (λ (y : List Float). filled 0 n y) h
      ∙ ap (λ (y : ℕ). filled 0 y (front result sheet)) (q ∙ sym (made_length f (counted N).buses))
      ∙ fills_done result sheet (network_passes N true true _ e z ∙ passed 7 _ [] (le-ltb (length sheet) (length result) (rw made_length l)) ∙ no_test)

-- a call for a row's kind
module _ (N : Network) (q : ℕ) {k : ℕ} (e : k ≡ first_of (network_tests N true true)) where
  kind_refused' : {n : ℕ} → row_kind_number N q ≡ n → (n ≡ 0 → ⊥) → row_kind n 0 ≡ row_kind_call N q
  unfolding row_kind_call
  kind_refused' {n} z h = rw (z, ne_eqb n 0 h)

  pub kind_refused : (k ≡ 0 → ⊥) → row_kind k 0 ≡ row_kind_call N q
  unfolding row_kind_number
  kind_refused h = kind_refused' (network_stands N true true _ e h) h

  pub kind_out : k ≡ 0 → (counted N).rows ≤ q → row_kind 5 0 ≡ row_kind_call N q
  unfolding row_kind_number
  kind_out z h = kind_refused' (network_passes N true true _ e z ∙ holding 5 _ [] (le-leb (counted N).rows q h)) (λ y. absurd (omega arith))

  kind_number : k ≡ 0 → q < (counted N).rows → row_kind_number N q ≡ 0
  unfolding row_kind_number
  kind_number z h = network_passes N true true _ e z ∙ passed 5 _ [] (lt-leb (counted N).rows q h) ∙ no_test

  pub kind_done : k ≡ 0 → q < (counted N).rows → {n : ℕ} → n ≡ kind_of (row_limits (counted N) N.wiring N.readings q) → row_kind 0 n ≡ row_kind_call N q
  unfolding row_kind_call
  kind_done z h y = rw (kind_number z h, y)

-- a call for a list
module _ (N : Network) (ts : List Triplet) (R C : List ℕ) (X : List Float) {k : ℕ} (e : k ≡ first_of (network_tests N true true)) where
  pub list_refused : (k ≡ 0 → ⊥) → laid k 0 R C X ≡ lays (list_number N ts R C X) ts R C X
  unfolding list_number
  list_refused h = lays_refused ts R C X (network_stands N true true _ e h) h

  pub list_laid : k ≡ 0 → lays_if ts R C X ≡ lays (list_number N ts R C X) ts R C X
  unfolding list_number first_of
  list_laid z = ap (λ (n : ℕ). lays n ts R C X) (sym (network_passes N true true (test 7 (short_list ts R C X) ∷ []) e z))
