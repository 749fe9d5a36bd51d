-- What the matrix and the parameters' columns must be in exact arithmetic: the derivatives of the residual in an unknown, and along a parameter's direction.
-- Main definitions: `cell_sum`, `toward`, `MatrixIsDerivative`, `RateIsDerivative`. Assumes nothing.
use Rattle.std.specs.Prelude.{◌<◌, ◌≡◌, ◌&&◌, List}
use mathlib.Mathlib.Algebra.Ring.Defs.{CommRing}
use Rattle.sequence.specs.Facts.{All}
use Rattle.solution.specs.Sheet.{pieces}
use Rattle.kkt_index.specs.Index.{size}
use Rattle.exact.specs.Ring.{sum, only}
use Rattle.books.specs.Forms.{Place, Form}
use Rattle.books.specs.Convex.{Entry, matrix_of}
use Rattle.books.specs.Manual.{Site, program, row_start}
use Rattle.books.specs.Matrix.{same_place}
use Rattle.books_residual.specs.Residual.{Row, residual}
use Rattle.books_residual.specs.Rates.{Direction, rate, form_of}
use Rattle.books_exact.specs.Exact.{World, Moves, exact_of, along}

module _ {A : Type 0} (𝓡 : CommRing A) (W : World A) where
  open 𝓡 use {zero as 𝟘, one as 𝟙}

  -- the sum of a cell's entries
  abbrev pub cell_sum : List Entry → Place → Place → A
  cell_sum xs a b = sum 𝓡 (λ (x : Entry). only 𝓡 (same_place x.row a && same_place x.col b) (exact_of 𝓡 W x.what)) xs

  -- one unknown moves at rate 1, and nothing else
  abbrev pub toward : Place → Moves A
  toward b = record { readings = λ f i. 𝟘; unknowns = λ p. only 𝓡 (same_place p b) 𝟙 }

  -- (11.55) is the derivative of (11.53): each cell's sum is the derivative of its row in its column's unknown
  abbrev pub MatrixIsDerivative : Site → Type 0
  MatrixIsDerivative s =
      All (λ (x : Row).
      (b : Place) → b.1 < size s.counts (pieces s.counts s.wiring) (row_start s s.counts.rows) b.0
      → along 𝓡 W (toward b) x.1 ≡ cell_sum (matrix_of (program s)) x.0 b) (residual s)

  -- along a direction in the readings
  abbrev pub onward : Direction → Moves A
  onward D = record { readings = λ f i. exact_of 𝓡 W (form_of (D f i)); unknowns = λ p. 𝟘 }

  -- structural differentiation is differentiation
  abbrev pub RateIsDerivative : Type 0
  RateIsDerivative = (D : Direction) (x : Form) → along 𝓡 W (onward D) x ≡ exact_of 𝓡 W (form_of (rate D x))
