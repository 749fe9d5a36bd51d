-- A bus's first place among the references emits its one entry, and no other place does.
-- Main results: `first_reference`, `no_reference`. Assumes nothing.
use mathlib.Core.Path.{◌≡◌, refl, ◌∙◌}
use mathlib.Core.Bool.{Bool, false, and-false}
use mathlib.Core.List.{List, [], ◌∷◌}
use Prim.Native.Nat.{ℕ, zero, suc, ◌+◌, ◌≤◌, ◌<◌}
use native.Mathlib.Omega.{arith}
use lib.Dec.{eqb}
use borrow.Author.Tests.{eq-eqb, ne_eqb}
use Rattle.sequence.specs.Lists.{some, each, when}
use Rattle.sequence.specs.Links.{First}
use Rattle.sequence.proofs.Lists.{each_skip, each_more, some_holds}
use Rattle.network.specs.declared.Counts.{Counts}
use Rattle.network.specs.declared.Part.TheVariants.{References}
use Rattle.network.specs.Layout.{wire}
use Rattle.kkt_index.specs.declared.Block.TheVariants.{Va, Eta}
use Rattle.snapping.specs.Expr.{unit}
use Rattle.kkt.specs.Slots.{slot, reference_slot}
use Rattle.kkt.specs.Slots.Rule.{first_place}

-- none of the tests passes
some_none : (test : ℕ → Bool) (n : ℕ) → ((i : ℕ) → i < n → test i ≡ false) → some test n ≡ false
unfolding some
some_none test zero h = refl
some_none test (suc n) h = rw (some_none test n (λ i l. h i (omega arith)), h n (omega arith))

module _ (c : Counts) (w : List ℕ) (j : ℕ) where
  abbrev key : ℕ → ℕ
  key = wire c w References

  -- a place of another bus, and one after the first
  other_place : (x : ℕ) → (key x ≡ j → ⊥) → reference_slot first_place c w j x ≡ []
  unfolding reference_slot when
  other_place x d = rw (ne_eqb (key x) j d)

  later_place : (z x : ℕ) → key z ≡ j → z < x → reference_slot first_place c w j x ≡ []
  unfolding reference_slot when
  later_place z x e h = rw (some_holds (λ i. eqb (key i) j) z x h (eq-eqb (key z) j e), and-false)

  first_place_lem : (z : ℕ) → key z ≡ j → ((x : ℕ) → x < z → key x ≡ j → ⊥) → reference_slot first_place c w j z ≡ slot (Eta, z) (Va, j) unit ∷ []
  unfolding reference_slot when
  first_place_lem z e d = rw (eq-eqb (key z) j e, some_none (λ i. eqb (key i) j) z (λ i l. ne_eqb (key i) j (d i l)))

  -- no place before the first
  none_before : {n a z : ℕ} → First key n j 0 z → a ≤ z → each a (reference_slot first_place c w j) ≡ []
  unfolding each
  none_before {a = a} f h = each_skip _ 0 a (omega arith) (λ x p q. other_place x (f.none x p (omega arith)))

  pub first_reference : {n z : ℕ} → First key n j 0 z → z < n → each n (reference_slot first_place c w j) ≡ slot (Eta, z) (Va, j) unit ∷ []
  first_reference {n} {z} f h =
      each_skip _ (z + 1) n (omega arith) (λ x p q. later_place z x (f.hit h) (omega arith))
      ∙ each_more _ z
      ∙ rw (none_before {a = z} f (omega arith), first_place_lem z (f.hit h) (λ x l. f.none x (omega arith) l))

  pub no_reference : {n z : ℕ} → First key n j 0 z → n ≤ z → each n (reference_slot first_place c w j) ≡ []
  no_reference f h = none_before f h
