-- The port's list agrees with the books' in the columns of the angles: the rows of the angle limits, of the flow law and of the references.
-- Main results: one for each pair of blocks, named by them; of the references, all but what is spared. Assumes nothing.
use mathlib.Core.Path.{◌≡◌, refl, sym, ap, ◌∙◌}
use mathlib.Core.Bool.{Bool, true, false, not, ◌&&◌}
use mathlib.Core.List.{List, [], ◌∷◌, ◌++◌, append-nil}
use Prim.Native.Nat.{ℕ, ◌<◌}
use lib.Dec.{eqb}
use lib.Ieee.{Float, binary64, mul, neg}
use lib.Ieee.Fits.{mul-fits}
use borrow.Author.Tests.{ne_eqb}
use Rattle.float64.specs.Values as doubles
use Rattle.float64.proofs.Signs.{neg_neg, mul_neg_left, mul_neg_right}
use Rattle.sequence.specs.Lists.{when, some}
use Rattle.network.specs.declared.Part.TheVariants.{BrFrom, BrTo, References}
use Rattle.network.specs.declared.Field.TheVariants.{Susceptance, Sw}
use Rattle.network.specs.Layout.{wire}
use Rattle.solution.specs.declared.Entry.TheVariants as entries
use Rattle.kkt_index.specs.declared.Block.TheVariants.{Va, GammaLb, GammaUb, NuFlow, Eta}
use Rattle.snapping.specs.Expr.{eval, unit, less_unit}
use Rattle.snapping.specs.Snap.{gamma_lb_of, gamma_ub_of}
use Rattle.kkt.specs.Slots.{Rule, Slot, slot, slots, admits, end_slots, incident, reference_slot}
use Rattle.kkt.specs.Slots.Rule.{first_place, every_place}
use Rattle.books.specs.Convex.{against, constraint_entries, matrix_of}
use Rattle.books.specs.Manual as manual
use Rattle.books.specs.Matrix.{spared}
use Rattle.books.proofs.Cells.{values, values_each, values_point, values_when, both, held}
use Rattle.books.proofs.Setting.{Setting, R, S, port_site, book_site, port_point, book_point}
use Rattle.books.proofs.Book.{one}
use Rattle.books.proofs.Pairs.{Agree, by_key, in_port, in_book, word, by_one, by_less, less_less, yes_self, both_false}
use Rattle.books.proofs.Balances.{va_at, no_incident, no_balance, no_reference}

module _ (z : Setting) where
  abbrev lower : ℕ → Float
  lower e = eval (R z) (S z) (gamma_lb_of z.counts z.wiring e)

  abbrev upper : ℕ → Float
  upper e = eval (R z) (S z) (gamma_ub_of z.counts z.wiring e)

  abbrev weight : ℕ → Float
  weight e = mul binary64 (neg (R z Susceptance e)) (R z Sw e)

  -- branch e's slots in bus j's column, by whether it is from the bus and to the bus
  abbrev ends : ℕ → ℕ → Bool → Bool → List Slot
  ends j e b d = when b (end_slots z.counts z.wiring j unit e) ++ when d (end_slots z.counts z.wiring j less_unit e)

  gamma_lb-from : (e : ℕ) → mul binary64 (mul binary64 (lower e) (R z Sw e)) doubles.one ≡ mul binary64 (neg (lower e)) (neg (R z Sw e))
  gamma_lb-from e = by_one (mul binary64 (lower e) (R z Sw e)) (mul-fits binary64 _ _) ∙ sym (less_less (lower e) (R z Sw e))

  gamma_lb-to : (e : ℕ) → mul binary64 (mul binary64 (lower e) (R z Sw e)) (neg doubles.one) ≡ mul binary64 (neg (lower e)) (R z Sw e)
  gamma_lb-to e = by_less (mul binary64 (lower e) (R z Sw e)) (mul-fits binary64 _ _) ∙ sym (mul_neg_left (lower e) (R z Sw e))

  gamma_lb-turn : (i j e : ℕ) (b d : Bool) → values (port_point z) (GammaLb, i) (Va, j) (ends j e b d) ≡ held (both (eqb e i) b) (mul binary64 (neg (lower e)) (neg (R z Sw e))) (held (both (eqb e i) d) (mul binary64 (neg (lower e)) (R z Sw e)) [])
  unfolding values when
  gamma_lb-turn i j e true true = rw (yes_self j, gamma_lb-from e, gamma_lb-to e)
  gamma_lb-turn i j e true false = rw (yes_self j, both_false (eqb e i), gamma_lb-from e)
  gamma_lb-turn i j e false true = rw (yes_self j, both_false (eqb e i), gamma_lb-to e)
  gamma_lb-turn i j e false false = rw (both_false (eqb e i))

  pub gamma_lb-va : (i j : ℕ) → j < z.counts.buses → Agree z (GammaLb, i) (Va, j)
  unfolding values constraint_entries against
  gamma_lb-va i j h =
      by_key z (GammaLb, i) (Va, j) _ _ refl refl
      (va_at z (GammaLb, i) j h
      ∙ rw (no_balance z (GammaLb, i) j (λ r. refl), no_reference z (GammaLb, i) j (λ k. refl))
      (append-nil _
      ∙ values_each (port_point z) (book_point z) (GammaLb, i) (Va, j) z.counts.branches (incident z.counts z.wiring j) (one (manual.angle_floor (book_site z)))
      (λ e l. rw (word z entries.GammaLb refl e l) (gamma_lb-turn i j e (eqb (wire z.counts z.wiring BrFrom e) j) (eqb (wire z.counts z.wiring BrTo e) j)))))

  gamma_ub-from : (e : ℕ) → mul binary64 (mul binary64 (neg (upper e)) (R z Sw e)) doubles.one ≡ mul binary64 (neg (upper e)) (R z Sw e)
  gamma_ub-from e = by_one (mul binary64 (neg (upper e)) (R z Sw e)) (mul-fits binary64 _ _)

  gamma_ub-to : (e : ℕ) → mul binary64 (mul binary64 (neg (upper e)) (R z Sw e)) (neg doubles.one) ≡ mul binary64 (neg (upper e)) (neg (R z Sw e))
  gamma_ub-to e = by_less (mul binary64 (neg (upper e)) (R z Sw e)) (mul-fits binary64 _ _) ∙ sym (mul_neg_right (neg (upper e)) (R z Sw e))

  gamma_ub-turn : (i j e : ℕ) (b d : Bool) → values (port_point z) (GammaUb, i) (Va, j) (ends j e b d) ≡ held (both (eqb e i) b) (mul binary64 (neg (upper e)) (R z Sw e)) (held (both (eqb e i) d) (mul binary64 (neg (upper e)) (neg (R z Sw e))) [])
  unfolding values when
  gamma_ub-turn i j e true true = rw (yes_self j, gamma_ub-from e, gamma_ub-to e)
  gamma_ub-turn i j e true false = rw (yes_self j, both_false (eqb e i), gamma_ub-from e)
  gamma_ub-turn i j e false true = rw (yes_self j, both_false (eqb e i), gamma_ub-to e)
  gamma_ub-turn i j e false false = rw (both_false (eqb e i))

  pub gamma_ub-va : (i j : ℕ) → j < z.counts.buses → Agree z (GammaUb, i) (Va, j)
  unfolding values constraint_entries against
  gamma_ub-va i j h =
      by_key z (GammaUb, i) (Va, j) _ _ refl refl
      (va_at z (GammaUb, i) j h
      ∙ rw (no_balance z (GammaUb, i) j (λ r. refl), no_reference z (GammaUb, i) j (λ k. refl))
      (append-nil _
      ∙ values_each (port_point z) (book_point z) (GammaUb, i) (Va, j) z.counts.branches (incident z.counts z.wiring j) (one (manual.angle_ceiling (book_site z)))
      (λ e l. rw (word z entries.GammaUb refl e l) (gamma_ub-turn i j e (eqb (wire z.counts z.wiring BrFrom e) j) (eqb (wire z.counts z.wiring BrTo e) j)))))

  nu_flow-from : (e : ℕ) → mul binary64 (mul binary64 (R z Susceptance e) (R z Sw e)) doubles.one ≡ neg (weight e)
  nu_flow-from e = by_one (mul binary64 (R z Susceptance e) (R z Sw e)) (mul-fits binary64 _ _) ∙ sym (ap neg (mul_neg_left (R z Susceptance e) (R z Sw e)) ∙ neg_neg (mul binary64 (R z Susceptance e) (R z Sw e)))

  nu_flow-to : (e : ℕ) → mul binary64 (mul binary64 (R z Susceptance e) (R z Sw e)) (neg doubles.one) ≡ weight e
  nu_flow-to e = by_less (mul binary64 (R z Susceptance e) (R z Sw e)) (mul-fits binary64 _ _) ∙ sym (mul_neg_left (R z Susceptance e) (R z Sw e))

  nu_flow-turn : (i j e : ℕ) (b d : Bool) → values (port_point z) (NuFlow, i) (Va, j) (ends j e b d) ≡ held (both (eqb e i) b) (neg (weight e)) (held (both (eqb e i) d) (weight e) [])
  unfolding values when
  nu_flow-turn i j e true true = rw (yes_self j, nu_flow-from e, nu_flow-to e)
  nu_flow-turn i j e true false = rw (yes_self j, both_false (eqb e i), nu_flow-from e)
  nu_flow-turn i j e false true = rw (yes_self j, both_false (eqb e i), nu_flow-to e)
  nu_flow-turn i j e false false = rw (both_false (eqb e i))

  pub nu_flow-va : (i j : ℕ) → j < z.counts.buses → Agree z (NuFlow, i) (Va, j)
  unfolding values constraint_entries against
  nu_flow-va i j h =
      by_key z (NuFlow, i) (Va, j) _ _ refl refl
      (va_at z (NuFlow, i) j h
      ∙ rw (no_balance z (NuFlow, i) j (λ r. refl), no_reference z (NuFlow, i) j (λ k. refl))
      (append-nil _
      ∙ values_each (port_point z) (book_point z) (NuFlow, i) (Va, j) z.counts.branches (incident z.counts z.wiring j) (one (manual.flow_law (book_site z)))
      (λ e l. (nu_flow-turn i j e (eqb (wire z.counts z.wiring BrFrom e) j) (eqb (wire z.counts z.wiring BrTo e) j)))))

  -- ---- the references: with the rule of the first place, a bus that is listed before has no row entry of this place

  abbrev seen : ℕ → ℕ → Bool
  seen j k = some (λ i. eqb (wire z.counts z.wiring References i) j) k

  free_is : (u : Rule) (i j : ℕ) → not (spared z.counts z.wiring z.readings z.indexes z.coefficients z.sheet u (Eta, i) (Va, j)) ≡ admits u (seen j i)
  free_is first_place i j = refl
  free_is every_place i j = refl

  reference_turn : (i j : ℕ) (a b : Bool) → values (port_point z) (Eta, i) (Va, j) (when (b && a) (slot (Eta, i) (Va, j) unit ∷ [])) ≡ when a (held (both true b) doubles.one [])
  unfolding values when
  reference_turn i j true true = rw (yes_self i, yes_self j)
  reference_turn i j true false = refl
  reference_turn i j false true = refl
  reference_turn i j false false = refl

  pub eta_va : (i j : ℕ) → i < z.counts.references → j < z.counts.buses
      → values (port_point z) (Eta, i) (Va, j) (slots (port_site z))
      ≡ when (not (spared z.counts z.wiring z.readings z.indexes z.coefficients z.sheet z.rule (Eta, i) (Va, j))) (values (book_point z) (Eta, i) (Va, j) (matrix_of (manual.program (book_site z))))
  unfolding values reference_slot constraint_entries against
  eta_va i j h g =
      in_port z (Eta, i) (Va, j) _ refl
      ∙ va_at z (Eta, i) j g
      ∙ rw (no_incident z (Eta, i) j (λ e x. refl), no_balance z (Eta, i) j (λ r. refl))
      (values_point (port_point z) (Eta, i) (Va, j) z.counts.references i (reference_slot z.rule z.counts z.wiring j) h
      (λ q l d. values_when (port_point z) (Eta, i) (Va, j) (eqb (wire z.counts z.wiring References q) j && admits z.rule (seen j q)) _ (rw (ne_eqb q i d)))
      ∙ reference_turn i j (admits z.rule (seen j i)) (eqb (wire z.counts z.wiring References i) j)
      ∙ ap (λ (t : Bool). when t (held (both true (eqb (wire z.counts z.wiring References i) j)) doubles.one [])) (sym (free_is z.rule i j))
      ∙ ap (when _) (sym (in_book z (Eta, i) (Va, j) _ refl
      ∙ values_point (book_point z) (Eta, i) (Va, j) z.counts.references i (one (manual.reference (book_site z))) h (λ q l d. rw (ne_eqb q i d))
      ∙ rw (yes_self i))))
