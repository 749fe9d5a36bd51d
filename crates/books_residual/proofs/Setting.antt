-- What the claims are about: a network, its readings, a solution sheet, with what is known of them; and the claim at one row.
-- Main definitions: `Given`, `Claim`. Assumes nothing.
use mathlib.Core.Path.{◌≡◌}
use mathlib.Core.Bool.{true}
use mathlib.Core.List.{List}
use Prim.Native.Nat.{ℕ}
use lib.Ieee.{Float}
use Rattle.float64.specs.Values.{nought, in_range, base_low, base_high}
use Rattle.network.specs.declared.Counts.{Counts}
use Rattle.network.specs.declared.Field.{Field}
use Rattle.network.specs.declared.Field.TheVariants.{BaseMva}
use Rattle.network.specs.Layout.{reading}
use Rattle.network.specs.Numbers.{Wired}
use Rattle.solution.specs.declared.Entry.{Entry}
use Rattle.solution.specs.Sheet.{pieces, solved}
use Rattle.kkt_index.specs.declared.Block.{Block}
use Rattle.parameter_column.specs.declared.Served.{Served}
use Rattle.parameter_column.specs.Columns.{Touch, touches}
use Rattle.books.specs.Forms.{Form, Alike}
use Rattle.books.specs.Manual.{Site}
use Rattle.books.specs.Matrix.{Doubles, site_of, value}
use Rattle.books_residual.specs.Rates.{rate, rate_value}
use Rattle.books_residual.specs.Columns.{direction}
use Rattle.books_residual.proofs.Places.{placed}

pub record Given : Type 0 where
  pub counts : Counts
  pub wiring : List ℕ
  pub readings : List Float
  pub indexes : List ℕ
  pub coefficients : List Float
  pub sheet : List Float
  pub eta : ℕ → Float
  pub wired : Wired counts wiring
  pub sheet_fits : Doubles sheet
  pub base : in_range base_low base_high (reading counts readings BaseMva 0) ≡ true

module _ (z : Given) where
  abbrev pub R : Field → ℕ → Float
  R f i = reading z.counts z.readings f i

  abbrev pub S : Entry → ℕ → Float
  S e i = solved z.counts (pieces z.counts z.wiring) z.sheet e i

  abbrev pub site : Site
  site = site_of z.counts z.wiring z.readings z.indexes z.coefficients z.sheet

  abbrev pub worth : Form → Float
  worth x = value z.counts z.wiring z.readings z.indexes z.coefficients z.sheet z.eta x

  -- the port's touches
  abbrev pub changes : Served → ℕ → List Touch
  changes k i = touches z.counts z.wiring z.indexes z.coefficients (pieces z.counts z.wiring) z.readings z.sheet k i

  -- at place (b, j), where the residual has f, the touches leave the derivative's value
  abbrev pub Claim : Served → ℕ → Block → ℕ → Form → Type 0
  Claim k i b j f = Alike (placed (changes k i) (b, j) nought) (rate_value worth (rate (direction k i) f))
