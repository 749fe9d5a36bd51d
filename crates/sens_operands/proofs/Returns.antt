-- What the selector's parts and the returns of `operand_selector` come to.
-- Main results: `put_all`, `short_is`, `room_of`, `few_elements`; `lay_short`, `lay_done`; `selector_refused`, `selector_unknown`, `selector_served`. Assumes nothing.
use mathlib.Core.Path.{◌≡◌, refl, sym, ap, ◌∙◌}
use mathlib.Core.Bool.{Bool, true, false, ◌||◌}
use mathlib.Core.List.{List, [], ◌∷◌, ◌++◌, append-nil}
use Prim.Native.Nat.{ℕ, zero, suc, ◌+◌, ◌≤◌}
use native.Mathlib.Numerals.{add-one}
use native.Mathlib.Omega.{arith}
use lib.Dec.{ltb}
use lib.ListN.{length, set, take, drop, replicate}
use lib.Seq.{length-take-le, drop-length}
use Rattle.std.proofs.lemmas.List.{length-replicate, replicate_more}
use lib.Ieee.{Float}
use Rattle.std.specs.Prelude.{Option, Some, None, Result, Ok, Err, ok_or}
use borrow.Author.Tests.{ltb-false, ne_eqb}
use Rattle.float64.specs.Values.{one}
use Rattle.sequence.specs.Lists.{made, front}
use Rattle.sequence.proofs.Lists.{made_length, or_none}
use Rattle.sequence.proofs.Fronts.{one_front}
use Rattle.sequence.proofs.Answers.{no_test, passed, holding}
use Rattle.interface.specs.declared.Operand.{Operand}
use Rattle.network.specs.declared.Counts.{Counts}
use Rattle.network.specs.Layout.{Few}
use Rattle.network.specs.Numbers.{Network, network_number}
use Rattle.model.proofs.Calls.{network_stands, network_passes}
use Rattle.solution_check.specs.Tests.{counted}
use Rattle.sens_operands.specs.declared.Reported.{Reported}
use Rattle.sens_operands.specs.declared.Reported.TheVariants as reported
use Rattle.sens_operands.specs.Calls.{served_of, elements, Selection, selection, unit_rows, start_of, selector_of, short_of, fronts, selected, served_laid, own_tests, selector_number, laid, selector_call}

-- n equal words, as a loop makes them
made_equal : {A : Type 0} (n : ℕ) (v : A) → made (λ i. v) n ≡ replicate n v
unfolding made
made_equal zero v = refl
made_equal (suc n) v = ap (λ (l : List _). l ++ v ∷ []) (made_equal n v) ∙ replicate_more n v ∙ rw add-one

-- a front as long as its sheet is all of it
pub whole : {A : Type 0} (f : ℕ → A) (old : List A) → front (made f (length old)) old ≡ made f (length old)
unfolding front
whole f old = rw (made_length, drop-length, append-nil)

-- a part whose n words were made
made_part : {A : Type 0} {new : List A} (f : ℕ → A) (n : ℕ) (xs : List A) → n ≤ length xs → new ≡ made f (length (take n xs)) → new ++ drop n xs ≡ front (made f n) xs
unfolding front
made_part f n xs h e = rw (e, length-take-le n xs h, made_length)

-- a sheet whose first n words were filled
filled : {A : Type 0} {new : List A} (xs : List A) (n : ℕ) (v : A) → n ≤ length xs → new ≡ replicate (length (take n xs)) v → new ++ drop n xs ≡ front (made (λ i. v) n) xs
unfolding front
filled xs n v h e = rw (e, made_equal n v, length-replicate, length-take-le n xs h)

pub put_all : (s : List Float) (k r : List ℕ) (w : List Float) {k' r' : List ℕ} {w' : List Float} (start n : ℕ) → 1 ≤ length s → n ≤ length k → n ≤ length r → n ≤ length w
    → k' ≡ replicate (length (take n k)) 1 → r' ≡ made (λ i. start + i) (length (take n r)) → w' ≡ replicate (length (take n w)) one
    → selection (set s 0 one) (k' ++ drop n k) (r' ++ drop n r) (w' ++ drop n w) ≡ fronts (unit_rows start n) (selection s k r w)
put_all s k r w start n a b i d f g h = rw (one_front one s a, filled k n 1 b f, made_part (λ i. start + i) n r i g, filled w n one d h)

-- ---- room

pub short_is : (s : List Float) (k r : List ℕ) (w : List Float) (start n : ℕ)
    → ltb (length s) 1 || ltb (length k) n || ltb (length r) n || ltb (length w) n ≡ short_of (unit_rows start n) (selection s k r w)
short_is s k r w start n = rw (made_length {A = ℕ} (λ i. 1) n, made_length {A = ℕ} (λ i. start + i) n, made_length {A = Float} (λ i. one) n)

pub room_of : (s k r w n : ℕ) → ltb s 1 || ltb k n || ltb r n || ltb w n ≡ false → (1 ≤ s) × (n ≤ k) × (n ≤ r) × (n ≤ w)
room_of s k r w n e =
    let a = or_none (ltb s 1 || ltb k n || ltb r n) (ltb w n) e in
    let b = or_none (ltb s 1 || ltb k n) (ltb r n) a.0 in
    let c = or_none (ltb s 1) (ltb k n) b.0 in
    (ltb-false _ _ c.0, ltb-false _ _ c.1, ltb-false _ _ b.1, ltb-false _ _ a.1)

pub few_elements : {c : Counts} → Few c → (k : Reported) → elements c k ≤ 512
few_elements few reported.Price = omega (arith, few)
few_elements few reported.Dispatch = omega (arith, few)
few_elements few reported.Flow = omega (arith, few)
few_elements few reported.Angle = omega (arith, few)

-- ---- a served operand

pub short_of_lem : (c : Counts) (w : List ℕ) (r : List Float) (k : Reported) (s : List Float) (k' r' : List ℕ) (w' : List Float) {n : ℕ} {b : Bool} → n ≡ elements c k
    → b ≡ ltb (length s) 1 || ltb (length k') n || ltb (length r') n || ltb (length w') n → b ≡ short_of (selector_of c w r k) (selection s k' r' w')
short_of_lem c w r k s k' r' w' {n} e f =
    f ∙ short_is s k' r' w' (start_of c w r k) n ∙ ap (λ (m : ℕ). short_of (unit_rows (start_of c w r k) m) (selection s k' r' w')) e

pub same_rows : (c : Counts) (w : List ℕ) (r : List Float) (k : Reported) (S : Selection) {start n : ℕ} → start ≡ start_of c w r k → n ≡ elements c k
    → fronts (unit_rows start n) S ≡ fronts (selector_of c w r k) S
same_rows c w r k S e f = rw (e, f)

module _ (c : Counts) (w : List ℕ) (r : List Float) (k : Reported) (S : Selection) {b : Bool} (e : b ≡ short_of (selector_of c w r k) S) where
  pub lay_short : b ≡ true → selected 7 0 S ≡ served_laid c w r k S
  unfolding served_laid
  lay_short t = rw (sym e ∙ t)

  pub lay_done : b ≡ false → {new : Selection} {n : ℕ} → new ≡ fronts (selector_of c w r k) S → n ≡ elements c k → selected 0 n new ≡ served_laid c w r k S
  unfolding served_laid
  lay_done t h q = rw (sym e ∙ t, h, q)

-- ---- what an option is that was made a result

pub some_of : {A E : Type 0} (o : Option A) (e : E) {x : A} {r : Result A E} → r ≡ ok_or o e → r ≡ Ok x → o ≡ Some x
some_of None e p q = cc
some_of (Some y) e p q = cc

pub none_of : {A E : Type 0} (o : Option A) (e : E) {y : E} {r : Result A E} → r ≡ ok_or o e → r ≡ Err y → (o ≡ None) × (y ≡ e)
none_of None e p q = (refl, cc)
none_of (Some x) e p q = absurd cc

-- ---- the call

module _ (N : Network) (o : Operand) (S : Selection) {n : ℕ} (e : n ≡ network_number N) where
  pub selector_refused : (n ≡ 0 → ⊥) → selected n 0 S ≡ selector_call N o S
  unfolding selector_number laid network_number
  selector_refused h = go (served_of o)
    where
      go : (x : Option Reported) → selected n 0 S ≡ laid (selector_number N x S) (counted N) N.wiring N.readings x S
      go (Some k) = rw (network_stands N true true (own_tests (counted N) N.wiring N.readings (Some k) S) e h, ne_eqb n 0 h)
      go None = rw (network_stands N true true (own_tests (counted N) N.wiring N.readings None S) e h)

  pub selector_unknown : n ≡ 0 → served_of o ≡ None → selected 4 0 S ≡ selector_call N o S
  unfolding selector_number laid network_number
  selector_unknown z q =
      rw q (ap (λ (m : ℕ). selected m 0 S) (sym (network_passes N true true (own_tests (counted N) N.wiring N.readings None S) e z ∙ holding 4 true [] refl)))

  pub selector_served : n ≡ 0 → (k : Reported) → served_of o ≡ Some k → served_laid (counted N) N.wiring N.readings k S ≡ selector_call N o S
  unfolding selector_number laid network_number served_laid
  selector_served z k q = rw q (go (short_of (selector_of (counted N) N.wiring N.readings k) S) refl)
    where
      go : (b : Bool) → short_of (selector_of (counted N) N.wiring N.readings k) S ≡ b → served_laid (counted N) N.wiring N.readings k S ≡ laid (selector_number N (Some k) S) (counted N) N.wiring N.readings (Some k) S
      go true f = rw (network_passes N true true (own_tests (counted N) N.wiring N.readings (Some k) S) e z ∙ holding 7 (short_of (selector_of (counted N) N.wiring N.readings k) S) [] f, f)
      go false f = rw (network_passes N true true (own_tests (counted N) N.wiring N.readings (Some k) S) e z ∙ passed 7 (short_of (selector_of (counted N) N.wiring N.readings k) S) [] f ∙ no_test, f)
