-- The network model's quantities are the MATPOWER manual's ("DC Modeling", 3.7), the sign of a zero set aside where a weight of 0 is skipped.
-- Main definition: `ModelIs`. Assumes nothing.
use Rattle.std.specs.Prelude.{ℕ, ◌≡◌, false, List, Float}
use Rattle.float64.specs.Values.{nought}
use Rattle.network.specs.declared.Counts.{Counts}
use Rattle.network.specs.declared.Field.TheVariants.{ShuntConductance, HvdcInjection}
use Rattle.susceptance.specs.Susceptance.{susceptance, touched}
use Rattle.model.specs.Quantities.{flow_offset, phase, network_at, fixed_at}
use Rattle.books.specs.Forms.{Form, Alike}
use Rattle.books.specs.Forms.Form.{rd, ◌⊕◌, ◌⊖◌}
use Rattle.books.specs.Manual.{Site, bbus, bus_shift, shift_flow, balance}
use Rattle.books.specs.Matrix.{site_of, value}

-- the formulas have readings only, so that the sheet and the references' multipliers are any
module _ (c : Counts) (w : List ℕ) (r : List Float) (ti : List ℕ) (tc s : List Float) (eta : ℕ → Float) where
  abbrev own : Site
  own = site_of c w r ti tc s

  abbrev worth : Form → Float
  worth x = value c w r ti tc s eta x

  pub record ModelIs : Type 0 where
    -- `susceptance_coo`'s sums are B_bus, which is 0 at a cell that has no triplet
    pub sums : (i j : ℕ) → Alike (susceptance c w r i j) (worth (bbus own i j))
    pub left_out : (i j : ℕ) → touched c w r i j ≡ false → Alike nought (worth (bbus own i j))
    -- `current_flow_offset` is P_f,shift, and `phase_withdrawal` P_bus,shift
    pub offset : (e : ℕ) → flow_offset c r e ≡ worth (shift_flow own e)
    pub shift : (i : ℕ) → phase c w r i ≡ worth (bus_shift own i)
    -- `network_withdrawal` is G_sh and P_bus,shift, less what HVDC lines bring, and `current_fixed_withdrawal` the balance's right side
    pub network : (i : ℕ) → network_at c w r i ≡ worth (rd ShuntConductance i ⊕ bus_shift own i ⊖ rd HvdcInjection i)
    pub fixed : (i : ℕ) → fixed_at c w r i ≡ worth (balance own i).right
