-- The port's list agrees with the books' at the blocks of the balances: angles, dispatch and shed demand against the balances' multipliers.
-- Main results: one for each pair of blocks, named by them; and of an angle's column `va_at`, `no_incident`, `no_balance`, `no_reference`. Assumes nothing.
use mathlib.Core.Path.{◌≡◌, refl, sym, ap, ap₂, ◌∙◌}
use mathlib.Core.Bool.{Bool, true, false}
use mathlib.Core.List.{List, [], ◌∷◌, ◌++◌, append-nil}
use Prim.Native.Nat.{ℕ, ◌+◌, ◌<◌}
use lib.Dec.{eqb}
use lib.Ieee.{Float, neg}
use borrow.Author.Tests.{ne_eqb}
use Rattle.float64.specs.Values as doubles
use Rattle.float64.proofs.Signs.{neg_neg}
use Rattle.sequence.specs.Lists.{each, when}
use Rattle.sequence.specs.Facts.{All}
use Rattle.sequence.specs.Facts.All.{done, ◌&◌}
use Rattle.sequence.proofs.Facts.{all_append, all_each, all_when}
use Rattle.network.specs.declared.Part.TheVariants.{BrFrom, BrTo, GenBus}
use Rattle.network.specs.Layout.{wire, segments_at, segment_start}
use Rattle.solution.specs.Sheet.{piece_rank}
use Rattle.kkt_index.specs.declared.Block.TheVariants.{Va, Pg, Psh, NuBal, Eta}
use Rattle.snapping.specs.Expr.{Expr, eval, unit, less_unit}
use Rattle.snapping.specs.Expr.Expr.{minus}
use Rattle.kkt.specs.Slots.{Slot, slot, balance, end_slots, incident, reference_slot, pg_segment, columns}
use Rattle.books.specs.Forms.{Place}
use Rattle.books.specs.Forms as forms
use Rattle.books.specs.Forms.Form.{minus as opposite}
use Rattle.books.specs.Convex.{Gradient, Entry, against, constraint_entries}
use Rattle.books.specs.Convex.Kind.{equal}
use Rattle.books.specs.Convex.Convention.{turned}
use Rattle.books.specs.Manual as manual
use Rattle.books.proofs.Zeros.{SameOrZeros, alike_neg}
use Rattle.books.proofs.Cells.{values, values_append, values_each, values_none, values_point, values_when, same_when, other_column, both, held, held_alike}
use Rattle.books.proofs.Setting.{Setting, R, S, port_site, book_site, port_point, book_point, worth}
use Rattle.books.proofs.Book.{one, against_append, against_each, against_when}
use Rattle.books.proofs.Pairs.{Agree, turns, by_key, yes_self, both_false}
use Rattle.books.proofs.Susceptance.{sums_alike, turned_alike}

nil_end : (l : List Float) → l ++ ([] ++ []) ≡ l
nil_end l = append-nil l

module _ (z : Setting) where
  -- ---- the books' balance of a bus, as three loops

  abbrev law : ℕ → Gradient → List Entry
  law i g = against (equal turned) (NuBal, i) g

  abbrev bus_term : ℕ → ℕ → Gradient
  bus_term i r = ((Va, r), opposite (manual.bbus (book_site z) i r)) ∷ []

  abbrev bus_part : ℕ → List Entry
  bus_part i = each z.counts.buses (λ r. law i (bus_term i r))

  abbrev gen_part : ℕ → List Entry
  gen_part i = each z.counts.generators (λ g. law i (manual.generator_at (book_site z) i g))

  abbrev shed_part : ℕ → List Entry
  shed_part i = law i (((Psh, i), forms.unit) ∷ [])

  balance_cells_lem : (i : ℕ) → one (manual.balance (book_site z)) i ≡ bus_part i ++ (gen_part i ++ shed_part i)
  unfolding constraint_entries
  balance_cells_lem i =
      append-nil _
      ∙ append-nil _
      ∙ against_append (equal turned) (NuBal, i) (each z.counts.buses (bus_term i)) _
      ∙ ap₂ ◌++◌ (against_each (equal turned) (NuBal, i) z.counts.buses (bus_term i))
      (against_append (equal turned) (NuBal, i) (each z.counts.generators (manual.generator_at (book_site z) i)) _
      ∙ ap (λ (l : List Entry). l ++ shed_part i) (against_each (equal turned) (NuBal, i) z.counts.generators (manual.generator_at (book_site z) i)))

  balance_at : (a b : Place) (i : ℕ) → values (book_point z) a b (one (manual.balance (book_site z)) i) ≡ values (book_point z) a b (bus_part i) ++ (values (book_point z) a b (gen_part i) ++ values (book_point z) a b (shed_part i))
  balance_at a b i =
      ap (values (book_point z) a b) (balance_cells_lem i)
      ∙ values_append (book_point z) a b (bus_part i) (gen_part i ++ shed_part i)
      ∙ ap (λ (l : List Float). values (book_point z) a b (bus_part i) ++ l) (values_append (book_point z) a b (gen_part i) (shed_part i))

  gen_turn : (a b : Place) (i g : ℕ) → values (book_point z) a b (law i (manual.generator_at (book_site z) i g)) ≡ values (book_point z) a b (when (eqb (wire z.counts z.wiring GenBus g) i) (law i (((Pg, g), forms.unit) ∷ [])))
  gen_turn a b i g = ap (values (book_point z) a b) (against_when (equal turned) (NuBal, i) (eqb (wire z.counts z.wiring GenBus g) i) _)

  gen_none : (a b : Place) (i : ℕ) → ((g : ℕ) → values (book_point z) a b (law i (((Pg, g), forms.unit) ∷ [])) ≡ []) → values (book_point z) a b (gen_part i) ≡ []
  gen_none a b i h =
      values_none (book_point z) a b z.counts.generators _
      (λ g l. gen_turn a b i g ∙ values_when (book_point z) a b (eqb (wire z.counts z.wiring GenBus g) i) _ (h g))

  bus_none : (a b : Place) (i : ℕ) → ((r : ℕ) → values (book_point z) a b (law i (bus_term i r)) ≡ []) → values (book_point z) a b (bus_part i) ≡ []
  bus_none a b i h = values_none (book_point z) a b z.counts.buses _ (λ r l. h r)

  -- ---- the port's column of a balance

  abbrev bus_slots : ℕ → List Slot
  bus_slots i = each z.counts.buses (λ r. slot (Va, r) (NuBal, i) (balance z.counts z.wiring r i) ∷ [])

  abbrev gen_slot : ℕ → ℕ → List Slot
  gen_slot i j = when (eqb (wire z.counts z.wiring GenBus j) i) (slot (Pg, j) (NuBal, i) less_unit ∷ [])

  abbrev gen_slots : ℕ → List Slot
  gen_slots i = each z.counts.generators (gen_slot i)

  abbrev shed_slots : ℕ → List Slot
  shed_slots i = slot (Psh, i) (NuBal, i) less_unit ∷ []

  column_at_lem : (a b : Place) (i : ℕ) → values (port_point z) a b (columns (port_site z) NuBal i) ≡ values (port_point z) a b (bus_slots i) ++ (values (port_point z) a b (gen_slots i) ++ values (port_point z) a b (shed_slots i))
  unfolding columns
  column_at_lem a b i =
      values_append (port_point z) a b (bus_slots i) (gen_slots i ++ shed_slots i)
      ∙ ap (λ (l : List Float). values (port_point z) a b (bus_slots i) ++ l) (values_append (port_point z) a b (gen_slots i) (shed_slots i))

  slot_none : (a b : Place) (i : ℕ) → ((g : ℕ) → values (port_point z) a b (slot (Pg, g) (NuBal, i) less_unit ∷ []) ≡ []) → values (port_point z) a b (gen_slots i) ≡ []
  slot_none a b i h =
      values_none (port_point z) a b z.counts.generators _ (λ g l. values_when (port_point z) a b (eqb (wire z.counts z.wiring GenBus g) i) _ (h g))

  column_none : (a b : Place) (i : ℕ) → ((r : ℕ) → values (port_point z) a b (slot (Va, r) (NuBal, i) (balance z.counts z.wiring r i) ∷ []) ≡ []) → values (port_point z) a b (bus_slots i) ≡ []
  column_none a b i h = values_none (port_point z) a b z.counts.buses _ (λ r l. h r)

  -- ---- shed demand

  pub nu_bal-psh : (i j : ℕ) → Agree z (NuBal, i) (Psh, j)
  unfolding values columns against
  nu_bal-psh i j =
      turns z (NuBal, i) (Psh, j) z.counts.buses (columns (port_site z) Psh) (one (manual.balance (book_site z))) _ _ refl refl
      (λ e l. sym (balance_at (NuBal, i) (Psh, j) e ∙ rw (bus_none (NuBal, i) (Psh, j) e (λ r. refl), gen_none (NuBal, i) (Psh, j) e (λ g. refl))))

  pub psh-nu_bal : (i j : ℕ) → Agree z (Psh, i) (NuBal, j)
  unfolding values against
  psh-nu_bal i j =
      turns z (Psh, i) (NuBal, j) z.counts.buses (columns (port_site z) NuBal) (one (manual.balance (book_site z))) _ _ refl refl
      (λ e l. column_at_lem (Psh, i) (NuBal, j) e
      ∙ rw (column_none (Psh, i) (NuBal, j) e (λ r. refl), slot_none (Psh, i) (NuBal, j) e (λ g. refl))
      (sym (balance_at (Psh, i) (NuBal, j) e ∙ rw (bus_none (Psh, i) (NuBal, j) e (λ r. refl), gen_none (Psh, i) (NuBal, j) e (λ g. refl)))))

  -- ---- the balances' columns

  pub pg-nu_bal : (i j : ℕ) → Agree z (Pg, i) (NuBal, j)
  unfolding values against
  pg-nu_bal i j =
      turns z (Pg, i) (NuBal, j) z.counts.buses (columns (port_site z) NuBal) (one (manual.balance (book_site z))) _ _ refl refl
      (λ e l. column_at_lem (Pg, i) (NuBal, j) e
      ∙ rw (
        column_none (Pg, i) (NuBal, j) e (λ r. refl),
        values_each (port_point z) (book_point z) (Pg, i) (NuBal, j) z.counts.generators (gen_slot e) (λ g. law e (manual.generator_at (book_site z) e g))
            (λ g h. same_when (port_point z) (book_point z) (Pg, i) (NuBal, j) (eqb (wire z.counts z.wiring GenBus g) e) _ (law e (((Pg, g), forms.unit) ∷ [])) refl ∙ sym (gen_turn (Pg, i) (NuBal, j) e g)),
      )
      (sym (balance_at (Pg, i) (NuBal, j) e ∙ rw (bus_none (Pg, i) (NuBal, j) e (λ r. refl)))))

  -- B_bus in the balances' columns, turned twice
  turned_twice : (i r : ℕ) → SameOrZeros (eval (R z) (S z) (balance z.counts z.wiring r i)) (neg (neg (worth z (manual.bbus (book_site z) i r))))
  turned_twice i r = rw (neg_neg (worth z (manual.bbus (book_site z) i r))) (turned_alike z i r z.counts.branches)

  pub va-nu_bal : (i j : ℕ) → Agree z (Va, i) (NuBal, j)
  unfolding values against
  va-nu_bal i j =
      turns z (Va, i) (NuBal, j) z.counts.buses (columns (port_site z) NuBal) (one (manual.balance (book_site z))) _ _ refl refl
      (λ e l. column_at_lem (Va, i) (NuBal, j) e
      ∙ rw (
        values_each (port_point z) (book_point z) (Va, i) (NuBal, j) z.counts.buses (λ r. slot (Va, r) (NuBal, e) (balance z.counts z.wiring r e) ∷ []) (λ r. law e (bus_term e r))
            (λ r h. held_alike (both (eqb r i) (eqb e j)) _ _ [] (turned_twice e r)),
        slot_none (Va, i) (NuBal, j) e (λ g. refl),
      )
      (sym (balance_at (Va, i) (NuBal, j) e ∙ rw (gen_none (Va, i) (NuBal, j) e (λ g. refl)))))

  -- ---- the columns of the angles: the port goes by column, the books by branch or bus

  abbrev balance_slot : ℕ → ℕ → List Slot
  balance_slot j i = slot (NuBal, i) (Va, j) (minus (balance z.counts z.wiring i j)) ∷ []

  va_own : (j : ℕ) → All (λ s. (port_point z s).col.1 ≡ j) (columns (port_site z) Va j)
  unfolding columns reference_slot
  va_own j =
      all_append (all_each _ (λ e h. all_append (all_when _ (refl & refl & refl & done)) (all_when _ (refl & refl & refl & done))))
      (all_append (all_each _ (λ i h. refl & done)) (all_each _ (λ k h. all_when _ (refl & done))))

  pub va_at : (a : Place) (j : ℕ) → j < z.counts.buses
      → values (port_point z) a (Va, j) (each z.counts.buses (columns (port_site z) Va))
      ≡ values (port_point z) a (Va, j) (each z.counts.branches (incident z.counts z.wiring j))
      ++ (values (port_point z) a (Va, j) (each z.counts.buses (balance_slot j)) ++ values (port_point z) a (Va, j) (each z.counts.references (reference_slot z.rule z.counts z.wiring j)))
  unfolding columns
  va_at a j h =
      values_point (port_point z) a (Va, j) z.counts.buses j (columns (port_site z) Va) h (λ i l d. other_column (port_point z) a (Va, j) i (va_own i) d)
      ∙ values_append (port_point z) a (Va, j) (each z.counts.branches (incident z.counts z.wiring j)) _
      ∙ ap (λ (l : List Float). values (port_point z) a (Va, j) (each z.counts.branches (incident z.counts z.wiring j)) ++ l)
      (values_append (port_point z) a (Va, j) (each z.counts.buses (balance_slot j)) _)

  pub no_reference : (a : Place) (j : ℕ) → ((k : ℕ) → values (port_point z) a (Va, j) (slot (Eta, k) (Va, j) unit ∷ []) ≡ []) → values (port_point z) a (Va, j) (each z.counts.references (reference_slot z.rule z.counts z.wiring j)) ≡ []
  unfolding reference_slot
  no_reference a j h = values_none (port_point z) a (Va, j) z.counts.references _ (λ k l. values_when (port_point z) a (Va, j) _ _ (h k))

  pub no_incident : (a : Place) (j : ℕ) → ((e : ℕ) (x : Expr) → values (port_point z) a (Va, j) (end_slots z.counts z.wiring j x e) ≡ []) → values (port_point z) a (Va, j) (each z.counts.branches (incident z.counts z.wiring j)) ≡ []
  no_incident a j h =
      values_none (port_point z) a (Va, j) z.counts.branches _
      (λ e l. values_append (port_point z) a (Va, j) (when (eqb (wire z.counts z.wiring BrFrom e) j) (end_slots z.counts z.wiring j unit e)) _
      ∙ rw (values_when (port_point z) a (Va, j) (eqb (wire z.counts z.wiring BrFrom e) j) _ (h e unit), values_when (port_point z) a (Va, j) (eqb (wire z.counts z.wiring BrTo e) j) _ (h e less_unit)))

  pub no_balance : (a : Place) (j : ℕ) → ((i : ℕ) → values (port_point z) a (Va, j) (balance_slot j i) ≡ []) → values (port_point z) a (Va, j) (each z.counts.buses (balance_slot j)) ≡ []
  no_balance a j h = values_none (port_point z) a (Va, j) z.counts.buses _ (λ i l. h i)

  -- ---- the balances' rows

  bus_at : (i j e : ℕ) → j < z.counts.buses → values (book_point z) (NuBal, i) (Va, j) (bus_part e) ≡ held (both (eqb e i) true) (neg (worth z (manual.bbus (book_site z) e j))) []
  unfolding values against
  bus_at i j e h =
      values_point (book_point z) (NuBal, i) (Va, j) z.counts.buses j _ h (λ q l d. rw (ne_eqb q j d) (rw (both_false (eqb e i)))) ∙ rw (yes_self j)

  pub nu_bal-va : (i j : ℕ) → j < z.counts.buses → Agree z (NuBal, i) (Va, j)
  unfolding values against
  nu_bal-va i j h =
      by_key z (NuBal, i) (Va, j) _ _ refl refl
      (va_at (NuBal, i) j h
      ∙ rw (no_incident (NuBal, i) j (λ e x. refl), no_reference (NuBal, i) j (λ k. refl))
      (append-nil _
      ∙ values_each (port_point z) (book_point z) (NuBal, i) (Va, j) z.counts.buses (balance_slot j) (one (manual.balance (book_site z)))
      (λ e l. rw (yes_self j)
      (held_alike (both (eqb e i) true) _ _ [] (alike_neg _ _ (sums_alike z e j z.counts.branches))
      ∙ sym (balance_at (NuBal, i) (Va, j) e ∙ rw (gen_none (NuBal, i) (Va, j) e (λ g. refl), bus_at i j e h) (nil_end _))))))

  -- ---- dispatch

  pg_own_lem : (j : ℕ) → All (λ s. (port_point z s).col.1 ≡ j) (columns (port_site z) Pg j)
  unfolding columns
  pg_own_lem j = all_append (refl & refl & refl & refl & done) (all_each _ (λ t l. refl & done))

  gen_held : (i j : ℕ) (b : Bool) → values (book_point z) (NuBal, i) (Pg, j) (when b (law i (((Pg, j), forms.unit) ∷ []))) ≡ held (both b true) doubles.one []
  unfolding values against when
  gen_held i j true = rw (yes_self i, yes_self j)
  gen_held i j false = refl

  gen_at : (i j : ℕ) → j < z.counts.generators → values (book_point z) (NuBal, i) (Pg, j) (gen_part i) ≡ held (both (eqb (wire z.counts z.wiring GenBus j) i) true) doubles.one []
  unfolding values against
  gen_at i j h =
      values_point (book_point z) (NuBal, i) (Pg, j) z.counts.generators j _ h
      (λ g l d. gen_turn (NuBal, i) (Pg, j) i g ∙ values_when (book_point z) (NuBal, i) (Pg, j) (eqb (wire z.counts z.wiring GenBus g) i) _ (rw (ne_eqb g j d) (rw (both_false (eqb i i)))))
      ∙ gen_turn (NuBal, i) (Pg, j) i j
      ∙ gen_held i j (eqb (wire z.counts z.wiring GenBus j) i)

  pub nu_bal-pg : (i j : ℕ) → i < z.counts.buses → j < z.counts.generators → Agree z (NuBal, i) (Pg, j)
  unfolding values columns against
  nu_bal-pg i j h g =
      by_key z (NuBal, i) (Pg, j) _ _ refl refl
      (values_point (port_point z) (NuBal, i) (Pg, j) z.counts.generators j (columns (port_site z) Pg) g (λ q l d. other_column (port_point z) (NuBal, i) (Pg, j) q (pg_own_lem q) d)
      ∙ rw (yes_self j, values_none (port_point z) (NuBal, i) (Pg, j) (segments_at z.counts z.wiring j) (λ t. pg_segment j (piece_rank z.counts z.wiring j) (segment_start z.counts z.wiring j + t)) (λ t l. refl))
      (sym (values_point (book_point z) (NuBal, i) (Pg, j) z.counts.buses i (one (manual.balance (book_site z))) h
      (λ e l d. balance_at (NuBal, i) (Pg, j) e ∙ rw (bus_none (NuBal, i) (Pg, j) e (λ r. refl), gen_none (NuBal, i) (Pg, j) e (λ q. rw (ne_eqb e i d))))
      ∙ balance_at (NuBal, i) (Pg, j) i
      ∙ rw (bus_none (NuBal, i) (Pg, j) i (λ r. refl), gen_at i j g) (append-nil _))))
