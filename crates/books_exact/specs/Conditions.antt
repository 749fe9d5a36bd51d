-- Boyd and Vandenberghe's residual (11.53) at 1/t = 0, of any program, in exact arithmetic: r_dual = ∇f0 + Df' λ + A' ν at a variable, −λ f(x) at an inequality's multiplier, h(x) at an equality's.
-- And its optimality conditions (5.49). Main definitions: `book_residual`, `ResidualIs`; `Kept`, `stationarity`, `Optimal`. Assumes nothing.
use Rattle.std.specs.Prelude.{◌≡◌}
use mathlib.Mathlib.Algebra.Ring.Defs.{CommRing}
use Rattle.sequence.specs.Facts.{All}
use Rattle.exact.specs.Ring.{sum, only}
use Rattle.books.specs.Forms.{Place, Form}
use Rattle.books.specs.Convex.{Gradient, Kind, Constraint, Program, entry_in_column}
use Rattle.books.specs.Convex.Kind.{at_most, equal, vacant}
use Rattle.books.specs.Manual.{Site, program}
use Rattle.books.specs.Matrix.{same_place}
use Rattle.books_residual.specs.Residual.{Row, residual}
use Rattle.books_exact.specs.Exact.{World, exact_of}

module _ {A : Type 0} (𝓡 : CommRing A) (W : World A) where
  open 𝓡 use {add as ◌+◌, mul as ◌*◌, neg as less, zero as 𝟘}

  infixl 65 ◌+◌
  infixl 70 ◌*◌
  -- a gradient times x
  abbrev pub times : Gradient → A
  times g = sum 𝓡 (λ (x : Place × Form). exact_of 𝓡 W x.1 * W.unknown x.0) g

  -- f(x) or h(x)
  abbrev pub level : Constraint → A
  level c = times c.gradient + less (exact_of 𝓡 W c.right)

  -- what a constraint's multiplier adds to r_dual at a variable
  abbrev pub pulled : Constraint → Place → A
  pulled c p =
      sum 𝓡 (λ (x : Place × Form). only 𝓡 (same_place x.0 p) (exact_of 𝓡 W (entry_in_column c.kind x.1) * W.unknown c.multiplier)) c.gradient

  -- its own row; a multiplier without its constraint is 0
  abbrev pub own : Kind → Constraint → A
  own (at_most s) c = less (W.unknown c.multiplier * level c)
  own (equal v) c = level c
  own vacant c = W.unknown c.multiplier

  -- (11.53)
  abbrev pub book_residual : Program → Place → A
  book_residual P p =
      sum 𝓡 (λ (h : Place × Place × Form). only 𝓡 (same_place h.0 p) (exact_of 𝓡 W h.2 * W.unknown h.1)) P.hessian
      + sum 𝓡 (λ (q : Place × Form). only 𝓡 (same_place q.0 p) (exact_of 𝓡 W q.1)) P.costs
      + sum 𝓡 (λ (c : Constraint). pulled c p + only 𝓡 (same_place c.multiplier p) (own c.kind c)) P.constraints

  -- the rows that are differentiated are the program's residual
  abbrev pub ResidualIs : Site → Type 0
  ResidualIs s = All (λ (x : Row). exact_of 𝓡 W x.1 ≡ book_residual (program s) x.0) (residual s)

  -- ---- (5.49), with any notion of what is not negative

  -- a constraint: f(x) ≤ 0, λ ≥ 0 and λ f(x) = 0, or h(x) = 0
  abbrev pub Kept : (A → Type 0) → Kind → Constraint → Type 0
  Kept NotNegative (at_most s) c =
      NotNegative (less (level c)) × (NotNegative (W.unknown c.multiplier) × (W.unknown c.multiplier * level c ≡ 𝟘))
  Kept NotNegative (equal v) c = level c ≡ 𝟘
  Kept NotNegative vacant c = W.unknown c.multiplier ≡ 𝟘

  -- ∇f0 + Σ λ ∇f + Σ ν ∇h at a variable; at a multiplier's place no gradient has a term
  abbrev pub stationarity : Program → Place → A
  stationarity P p =
      sum 𝓡 (λ (h : Place × Place × Form). only 𝓡 (same_place h.0 p) (exact_of 𝓡 W h.2 * W.unknown h.1)) P.hessian
      + sum 𝓡 (λ (q : Place × Form). only 𝓡 (same_place q.0 p) (exact_of 𝓡 W q.1)) P.costs
      + sum 𝓡 (λ (c : Constraint). pulled c p) P.constraints

  pub record Optimal (NotNegative : A → Type 0) (P : Program) : Type 0 where
    pub kept : All (λ (c : Constraint). Kept NotNegative c.kind c) P.constraints
    pub stationary : (p : Place) → stationarity P p ≡ 𝟘
