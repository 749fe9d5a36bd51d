-- The port's triplets at a cell are its slots' values there; its slots as groups that name their pairs of blocks.
-- Main results: `port_values`, `port_groups`, `slots_are`, `port_valid`. Assumes nothing.
use mathlib.Core.Path.{◌≡◌, refl, ap, ap₂, ◌∙◌}
use mathlib.Core.Bool.{Bool, true, false, not, ◌&&◌}
use mathlib.Core.List.{List, [], ◌∷◌, ◌++◌, append_assoc, append-nil}
use Prim.Native.Nat.{ℕ, ◌+◌, ◌<◌}
use native.Mathlib.Decide.{ℕ_discrete}
use lib.Dec.{eqb}
use lib.Ieee.{Float, eq}
use borrow.Author.Tests.{eq-eqb, ne_eqb, eqb-true}
use Rattle.float64.specs.Values.{nought}
use Rattle.sequence.specs.Lists.{each, when}
use Rattle.sequence.specs.Facts.{All}
use Rattle.sequence.specs.Facts.All.{done, ◌&◌}
use Rattle.sequence.proofs.Facts.{all_append, all_each, all_when}
use Rattle.network.specs.declared.Counts.{Counts}
use Rattle.solution.specs.Sheet.{pieces}
use Rattle.kkt_index.specs.declared.Block.{Block}
use Rattle.kkt_index.specs.declared.Block.TheVariants.{Va, Pg, Flow, Psh, Cost, LamLb, LamUb, GammaLb, GammaUb, RhoLb, RhoUb, MuLb, MuUb, Segments, Linear, NuBal, NuFlow, Eta}
use Rattle.kkt_index.specs.Index.{Shape, rank, size, linear_start, linear_row_count, block_start}
use Rattle.kkt_index.specs.Index.Shape.{free, upper_only, lower_only, two_sided, equality}
use Rattle.kkt_index.proofs.Blocks.{blocks_apart, block_size}
use Rattle.kkt.specs.declared.Side.{Side}
use Rattle.kkt.specs.declared.Side.TheVariants.{Above, Below, Level}
use Rattle.kkt.specs.Slots.{Place, Slot, block_slots, columns, slots, row_slots, side_slots, diagonal, reference_slot, start_of}
use Rattle.kkt.specs.Matrix.{emitted, kkt_matrix_list}
use Rattle.kkt_laws.proofs.Range
use Rattle.change_table.specs.Table.{same_cell, values_at}
use Rattle.change_table.proofs.Frame.{at_head}
use Rattle.books.specs.Matrix.{Inside}
use Rattle.books.proofs.Cells.{values, both, hit, held, Key, Group, group, Own, Valid, joined, one_rank}
use Rattle.books.proofs.Setting.{Setting, R, S, port_site, port_point}

-- ---- flat places

one_turn : (a b : Bool) (x : Float) (l : List Float) → b ≡ eq x nought → when (not b) (when a (x ∷ [])) ++ l ≡ held a x l
unfolding when
one_turn true true x l e = rw (← e)
one_turn true false x l e = rw (← e)
one_turn false true x l e = refl
one_turn false false x l e = refl

regrouped : (a b c d : Bool) → both a b && both c d ≡ both a (both c (both b d))
regrouped true true true d = refl
regrouped true true false d = refl
regrouped true false true d = refl
regrouped true false false d = refl
regrouped false b c d = refl

module _ (c : Counts) (p l : ℕ) where
  abbrev In : Place → Type 0
  In a = a.1 < size c p l a.0

  abbrev at : Place → ℕ
  at a = block_start c p l a.0 + a.1

  flat_same : (a b : Place) → In a → In b → eqb (at a) (at b) ≡ both (eqb (rank a.0) (rank b.0)) (eqb a.1 b.1)
  flat_same a b h k = go (ℕ_discrete (at a) (at b))
    where
      apart : (at a ≡ at b → ⊥) → (s t : Bool) → eqb (rank a.0) (rank b.0) ≡ s → eqb a.1 b.1 ≡ t → false ≡ both s t
      apart d true true e f =
          absurd (d (ap₂ (λ (g : Block) (i : ℕ). block_start c p l g + i) (one_rank a.0 b.0 (eqb-true _ _ e)) (eqb-true _ _ f)))
      apart d true false e f = refl
      apart d false t e f = refl

      go : Dec (at a ≡ at b) → eqb (at a) (at b) ≡ both (eqb (rank a.0) (rank b.0)) (eqb a.1 b.1)
      go (yes e) =
          let q = blocks_apart c p l a.0 b.0 a.1 b.1 h k e in
          rw (eq-eqb (at a) (at b) e, eq-eqb (rank a.0) (rank b.0) (ap rank q.0), eq-eqb a.1 b.1 q.1)
      go (no d) = ne_eqb (at a) (at b) d ∙ apart d (eqb (rank a.0) (rank b.0)) (eqb a.1 b.1) refl refl

module _ (z : Setting) where
  abbrev c : Counts
  c = z.counts

  abbrev lines : ℕ
  lines = linear_row_count z.counts z.wiring z.readings

  abbrev p : ℕ
  p = pieces z.counts z.wiring

  slot_at : (x : Slot) (l : List Float) (a b : Place) → In c p lines x.row → In c p lines x.col → In c p lines a → In c p lines b
      → when (not (eq (port_point z x).value nought)) (when (same_cell (at c p lines x.row, at c p lines x.col) (at c p lines a, at c p lines b)) ((port_point z x).value ∷ [])) ++ l
      ≡ held (hit x.row x.col a b) (port_point z x).value l
  slot_at x l a b hr hc ha hb =
      rw (
        flat_same c p lines x.row a hr ha,
        flat_same c p lines x.col b hc hb,
        regrouped (eqb (rank x.row.0) (rank a.0)) (eqb x.row.1 a.1) (eqb (rank x.col.0) (rank b.0)) (eqb x.col.1 b.1),
      )
      (one_turn (hit x.row x.col a b) (eq (port_point z x).value nought) (port_point z x).value l refl)

  slots_at : (a b : Place) → In c p lines a → In c p lines b → {l : List Slot} → All (Range.Placed (port_site z)) l
      → values_at (emitted (block_start c p lines) (R z) (S z) l) (at c p lines a, at c p lines b) ≡ values (port_point z) a b l
  unfolding emitted values values_at linear_start
  slots_at a b ha hb done = refl
  slots_at a b ha hb (◌&◌ {x = x} {xs = xs} h hs) =
      at_head (not (eq (port_point z x).value nought)) (at c p lines x.row) (at c p lines x.col) (port_point z x).value (emitted (block_start c p lines) (R z) (S z) xs) (at c p lines a, at c p lines b)
      ∙ rw (slots_at a b ha hb hs)
      (slot_at x (values (port_point z) a b xs) a b (rw (← block_size c p lines x.row.0) h.0) (rw (← block_size c p lines x.col.0) h.1) ha hb)

  pub port_values : (a b : Place) → Inside z.counts z.wiring z.readings z.indexes z.coefficients z.sheet a → Inside z.counts z.wiring z.readings z.indexes z.coefficients z.sheet b
      → values_at (kkt_matrix_list z.rule z.counts z.wiring z.readings z.indexes z.coefficients z.sheet) (at c p lines a, at c p lines b)
      ≡ values (port_point z) a b (slots (port_site z))
  unfolding kkt_matrix_list
  port_values a b ha hb = slots_at a b ha hb (Range.slots_in (port_site z) z.wired z.termed)

  -- ---- groups

  abbrev linear_keys : List Key
  linear_keys = (Linear, Flow) ∷ (Linear, Pg) ∷ (Flow, Linear) ∷ (Pg, Linear) ∷ (Linear, Linear) ∷ []

  abbrev pub port_groups : List (Group Slot)
  port_groups =
      group ((GammaLb, Va) ∷ (GammaUb, Va) ∷ (NuFlow, Va) ∷ (NuBal, Va) ∷ (Eta, Va) ∷ []) (block_slots (port_site z) Va)
      ∷ group ((Pg, Pg) ∷ (RhoLb, Pg) ∷ (RhoUb, Pg) ∷ (NuBal, Pg) ∷ (Segments, Pg) ∷ []) (block_slots (port_site z) Pg)
      ∷ group ((LamLb, Flow) ∷ (LamUb, Flow) ∷ (NuFlow, Flow) ∷ []) (block_slots (port_site z) Flow)
      ∷ group ((MuLb, Psh) ∷ (MuUb, Psh) ∷ (NuBal, Psh) ∷ []) (block_slots (port_site z) Psh)
      ∷ group ((Segments, Cost) ∷ []) (block_slots (port_site z) Cost)
      ∷ group ((Flow, LamLb) ∷ (LamLb, LamLb) ∷ []) (block_slots (port_site z) LamLb)
      ∷ group ((Flow, LamUb) ∷ (LamUb, LamUb) ∷ []) (block_slots (port_site z) LamUb)
      ∷ group ((Va, GammaLb) ∷ (GammaLb, GammaLb) ∷ []) (block_slots (port_site z) GammaLb)
      ∷ group ((Va, GammaUb) ∷ (GammaUb, GammaUb) ∷ []) (block_slots (port_site z) GammaUb)
      ∷ group ((Pg, RhoLb) ∷ (RhoLb, RhoLb) ∷ []) (block_slots (port_site z) RhoLb)
      ∷ group ((Pg, RhoUb) ∷ (RhoUb, RhoUb) ∷ []) (block_slots (port_site z) RhoUb)
      ∷ group ((Psh, MuLb) ∷ (MuLb, MuLb) ∷ []) (block_slots (port_site z) MuLb)
      ∷ group ((Pg, Segments) ∷ (Cost, Segments) ∷ (Segments, Segments) ∷ []) (block_slots (port_site z) Segments)
      ∷ group ((Psh, MuUb) ∷ (MuUb, MuUb) ∷ []) (block_slots (port_site z) MuUb)
      ∷ group ((Va, NuBal) ∷ (Pg, NuBal) ∷ (Psh, NuBal) ∷ []) (block_slots (port_site z) NuBal)
      ∷ group ((Va, NuFlow) ∷ (Flow, NuFlow) ∷ []) (block_slots (port_site z) NuFlow)
      ∷ group ((Va, Eta) ∷ []) (block_slots (port_site z) Eta)
      ∷ group linear_keys (block_slots (port_site z) Linear)
      ∷ []

  pub slots_are : slots (port_site z) ≡ joined port_groups
  unfolding slots each joined
  slots_are = simp (append_assoc, append-nil)

  diagonal_own : (d : Side) (q x : ℕ) → All (Own (port_point z) linear_keys) (diagonal z.counts z.wiring z.indexes z.coefficients d q x)
  diagonal_own Above q x = tt & done
  diagonal_own Below q x = tt & done
  diagonal_own Level q x = done

  side_own : (d : Side) (q x : ℕ) → All (Own (port_point z) linear_keys) (side_slots z.counts z.wiring z.indexes z.coefficients d q x)
  side_own d q x =
      all_append (all_append (all_each _ (λ t l. tt & tt & done)) (all_each _ (λ t l. tt & tt & done))) (diagonal_own d q x)

  row_own : (f : Shape) (q x : ℕ) → All (Own (port_point z) linear_keys) (row_slots z.counts z.wiring z.indexes z.coefficients f q x)
  row_own free q x = done
  row_own upper_only q x = side_own Above q x
  row_own lower_only q x = side_own Below q x
  row_own two_sided q x = all_append (side_own Above q x) (side_own Below q (x + 1))
  row_own equality q x = side_own Level q x

  pub port_valid : All (Valid (port_point z)) port_groups
  unfolding columns reference_slot
  port_valid =
      all_each _ (λ j l.
      all_append (all_each _ (λ e h. all_append (all_when _ (tt & tt & tt & done)) (all_when _ (tt & tt & tt & done))))
      (all_append (all_each _ (λ i h. tt & done)) (all_each _ (λ k h. all_when _ (tt & done)))))
      & all_each _ (λ j l. all_append (tt & tt & tt & tt & done) (all_each _ (λ t h. tt & done)))
      & all_each _ (λ e l. tt & tt & tt & done)
      & all_each _ (λ i l. tt & tt & tt & done)
      & all_each _ (λ j l. all_each _ (λ t h. tt & done))
      & all_each _ (λ e l. tt & tt & done)
      & all_each _ (λ e l. tt & tt & done)
      & all_each _ (λ e l. tt & tt & tt & done)
      & all_each _ (λ e l. tt & tt & tt & done)
      & all_each _ (λ j l. tt & tt & done)
      & all_each _ (λ j l. tt & tt & done)
      & all_each _ (λ i l. tt & tt & done)
      & all_each _ (λ j l. all_each _ (λ t h. tt & tt & tt & done))
      & all_each _ (λ i l. tt & tt & done)
      & all_each _ (λ i l.
      all_append (all_each _ (λ r h. tt & done)) (all_append (all_each _ (λ j h. all_when _ (tt & done))) (tt & done)))
      & all_each _ (λ e l. tt & tt & tt & done)
      & all_each _ (λ k l. tt & done)
      & all_each _ (λ q l. row_own ((port_site z).shapes q) q (start_of (port_site z) q))
      & done
