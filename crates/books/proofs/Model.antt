-- The network model's quantities are the manual's.
-- Main results: `shift_is`, `fixed_is`, `model_is_the_manuals`. Assumes nothing.
use mathlib.Core.Path.{◌≡◌, refl, sym, ap, ◌∙◌}
use mathlib.Core.Bool.{Bool, true, false, cond}
use mathlib.Core.List.{List}
use Prim.Native.Nat.{ℕ, zero, suc}
use lib.Dec.{eqb}
use lib.Ieee.{Float}
use Rattle.float64.specs.Values.{nought, add_at, sub_at}
use Rattle.sequence.specs.Lists.{turns}
use Rattle.network.specs.declared.Part.TheVariants.{BrFrom, BrTo}
use Rattle.network.specs.declared.Field.TheVariants.{ShuntConductance, HvdcInjection}
use Rattle.network.specs.Layout.{wire, reading}
use Rattle.susceptance.specs.Susceptance.{susceptance}
use Rattle.model.specs.Quantities.{flow_offset, phase_turn, phase, network_at, fixed_at}
use Rattle.kkt_sums.proofs.Sums.{balance_is, untouched}
use Rattle.books.specs.Forms.{Place, Form, Alike, plain, value_of}
use Rattle.books.specs.Forms.Form.{rd, ◌⊕◌, ◌⊖◌}
use Rattle.books.specs.Manual.{Site, bbus, bus_shift_to, bus_shift, shift_flow, balance}
use Rattle.books.specs.Model.{ModelIs}
use Rattle.books.proofs.Doubles.{plainly}
use Rattle.books.proofs.Setting.{Setting, S, book_site, worth}
use Rattle.books.proofs.Susceptance.{sums_alike}

-- ---- shifts and withdrawals, whatever the unknowns are worth

module _ (site : Site) (r : List Float) (X : Place → Float) where
  abbrev told : Form → Float
  told x = value_of (reading site.counts r) X x

  shift_turn : (f t : Bool) (e : ℕ) (x : Float) (y : Form) → x ≡ told y
      → sub_at t (flow_offset site.counts r e) (add_at f (flow_offset site.counts r e) x) ≡ told (cond t (cond f (y ⊕ shift_flow site e) y ⊖ shift_flow site e) (cond f (y ⊕ shift_flow site e) y))
  unfolding flow_offset
  shift_turn true true e x y h = rw h
  shift_turn true false e x y h = rw h
  shift_turn false true e x y h = rw h
  shift_turn false false e x y h = h

  pub shift_is : (i n : ℕ) → turns (phase_turn site.counts site.wiring r i) nought n ≡ told (bus_shift_to site i n)
  unfolding turns phase_turn bus_shift_to
  shift_is i zero = refl
  shift_is i (suc e) =
      shift_turn (eqb (wire site.counts site.wiring BrFrom e) i) (eqb (wire site.counts site.wiring BrTo e) i) e
      (turns (phase_turn site.counts site.wiring r i) nought e) (bus_shift_to site i e) (shift_is i e)

  network_is : (i : ℕ) → network_at site.counts site.wiring r i ≡ told (rd ShuntConductance i ⊕ bus_shift site i ⊖ rd HvdcInjection i)
  unfolding network_at phase
  network_is i = rw (shift_is i site.counts.branches)

  pub fixed_is : (i : ℕ) → fixed_at site.counts site.wiring r i ≡ told (balance site i).right
  unfolding fixed_at network_at phase
  fixed_is i = rw (shift_is i site.counts.branches)

-- ---- the whole model

module _ (z : Setting) where
  bus_sums : (i j : ℕ) → Alike (susceptance z.counts z.wiring z.readings i j) (worth z (bbus (book_site z) i j))
  bus_sums i j =
      ap plain (sym (balance_is z.counts z.readings (S z) z.wiring i j))
      ∙ plainly (sums_alike z i j z.counts.branches)

  offset_is : (e : ℕ) → flow_offset z.counts z.readings e ≡ worth z (shift_flow (book_site z) e)
  unfolding flow_offset
  offset_is e = refl

  phase_is : (i : ℕ) → phase z.counts z.wiring z.readings i ≡ worth z (bus_shift_to (book_site z) i z.counts.branches)
  unfolding phase
  phase_is i = shift_is (book_site z) z.readings _ i z.counts.branches

  pub model_is_the_manuals : ModelIs z.counts z.wiring z.readings z.indexes z.coefficients z.sheet z.eta
  model_is_the_manuals = record {
    sums = bus_sums;
    left_out = λ i j h. ap plain (sym (untouched z.counts z.wiring z.readings i j h)) ∙ bus_sums i j;
    offset = offset_is;
    shift = phase_is;
    network = λ i. network_is (book_site z) z.readings _ i;
    fixed = λ i. fixed_is (book_site z) z.readings _ i;
  }
