-- A network and a solution sheet that calls accept, and what each list's elements are worth there.
-- Main definitions: `Setting`, `port_point`, `book_point`. Assumes nothing.
use Prim.Native.Nat.{ℕ}
use mathlib.Core.List.{List}
use lib.Ieee.{Float}
use Rattle.network.specs.declared.Counts.{Counts}
use Rattle.network.specs.declared.Field.{Field}
use Rattle.network.specs.Layout.{reading}
use Rattle.network.specs.Numbers.{Wired, Termed}
use Rattle.solution.specs.declared.Entry as solution
use Rattle.solution.specs.Sheet.{pieces, solved}
use Rattle.snapping.specs.Expr.{eval}
use Rattle.kkt.specs.Slots.{Slot, Rule}
use Rattle.kkt.specs.Slots as port
use Rattle.books.specs.Forms.{Form}
use Rattle.books.specs.Convex.{Entry}
use Rattle.books.specs.Manual.{Site}
use Rattle.books.specs.Matrix as matrix
use Rattle.books.specs.Matrix.{Doubles, value}
use Rattle.books.proofs.Cells.{Point, point}

pub record Setting : Type 0 where
  pub rule : Rule
  pub counts : Counts
  pub wiring : List ℕ
  pub readings : List Float
  pub indexes : List ℕ
  pub coefficients : List Float
  pub sheet : List Float
  -- the references' multipliers, of which no sheet has a value
  pub eta : ℕ → Float
  pub wired : Wired counts wiring
  pub termed : Termed counts wiring indexes coefficients
  pub doubles : Doubles sheet

module _ (z : Setting) where
  -- the readings and the sheet's words, by name
  abbrev pub R : Field → ℕ → Float
  R f i = reading z.counts z.readings f i

  abbrev pub S : solution.Entry → ℕ → Float
  S e i = solved z.counts (pieces z.counts z.wiring) z.sheet e i

  -- the port's site, and the manual's
  abbrev pub port_site : port.Site
  port_site = port.site_of z.rule z.counts z.wiring z.readings z.indexes z.coefficients

  abbrev pub book_site : Site
  book_site = matrix.site_of z.counts z.wiring z.readings z.indexes z.coefficients z.sheet

  -- what a formula of the books is worth, and where an element of either list stands
  abbrev pub worth : Form → Float
  worth x = value z.counts z.wiring z.readings z.indexes z.coefficients z.sheet z.eta x

  abbrev pub port_point : Slot → Point
  port_point s = point s.row s.col (eval R S s.what)

  abbrev pub book_point : Entry → Point
  book_point x = point x.row x.col (worth x.what)
