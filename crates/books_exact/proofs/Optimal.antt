-- Where the optimality conditions (5.49) hold of the manual's program, every row of the residual is 0.
-- Main result: `residual_vanishes`. Assumes nothing.
use mathlib.Core.Path.{◌≡◌, refl, ap, ap₂, ◌∙◌}
use mathlib.Core.Bool.{Bool, true, false}
use mathlib.Core.List.{List, [], ◌∷◌}
use mathlib.Mathlib.Algebra.Ring.Defs.{CommRing}
use Rattle.sequence.specs.Facts.{All}
use Rattle.sequence.specs.Facts.All.{done, ◌&◌}
use Rattle.network.specs.Numbers.{Wired}
use Rattle.exact.specs.Ring.{sum, only}
use Rattle.exact.proofs.Sums.{add_zero}
use Rattle.books.specs.Forms.{Place, Form}
use Rattle.books.specs.Convex.{Kind, Constraint, Program}
use Rattle.books.specs.Convex.Kind.{at_most, equal, vacant}
use Rattle.books.specs.Manual.{Site, program}
use Rattle.books.specs.Matrix.{same_place}
use Rattle.books_residual.specs.Residual.{Row, residual}
use Rattle.books_exact.specs.Exact.{World, Sound, exact_of}
use Rattle.books_exact.specs.Conditions.{pulled, own, book_residual, Kept, Optimal}
use Rattle.books_exact.proofs.Laws.{neg_zero}
use Rattle.books_exact.proofs.Residual.{residual_is_the_books}

module _ {A : Type 0} (𝓡 : CommRing A) (W : World A) (NotNegative : A → Type 0) where
  open 𝓡 use {add as ◌+◌, mul as ◌*◌, neg as less, zero as 𝟘}

  infixl 65 ◌+◌
  infixl 70 ◌*◌
  -- a constraint that is kept has nothing in its own row
  own_none : (k : Kind) (c : Constraint) → Kept 𝓡 W NotNegative k c → own 𝓡 W k c ≡ 𝟘
  own_none (at_most s) c h = ap less h.1.1 ∙ neg_zero 𝓡
  own_none (equal v) c h = h
  own_none vacant c h = h

  only_none : (b : Bool) (x : A) → x ≡ 𝟘 → only 𝓡 b x ≡ 𝟘
  unfolding only
  only_none true x e = e
  only_none false x e = refl

  pulls : (p : Place) (cs : List Constraint) → All (λ (c : Constraint). Kept 𝓡 W NotNegative c.kind c) cs
      → sum 𝓡 (λ (c : Constraint). pulled 𝓡 W c p + only 𝓡 (same_place c.multiplier p) (own 𝓡 W c.kind c)) cs ≡ sum 𝓡 (λ (c : Constraint). pulled 𝓡 W c p) cs
  unfolding sum
  pulls p [] done = refl
  pulls p (c ∷ cs) (h & hs) =
      ap₂ ◌+◌
      (ap (λ (x : A). pulled 𝓡 W c p + x) (only_none (same_place c.multiplier p) (own 𝓡 W c.kind c) (own_none c.kind c h)) ∙ add_zero 𝓡 (pulled 𝓡 W c p))
      (pulls p cs hs)

  -- then the residual is what stationarity leaves, which is nothing
  none_left : (P : Program) (p : Place) → Optimal 𝓡 W NotNegative P → book_residual 𝓡 W P p ≡ 𝟘
  none_left P p h =
      ap (λ (x : A).
      sum 𝓡 (λ (h : Place × Place × Form). only 𝓡 (same_place h.0 p) (exact_of 𝓡 W h.2 * W.unknown h.1)) P.hessian
      + sum 𝓡 (λ (q : Place × Form). only 𝓡 (same_place q.0 p) (exact_of 𝓡 W q.1)) P.costs
      + x) (pulls p P.constraints h.kept)
      ∙ h.stationary p

  every_none : (P : Program) {xs : List Row} → Optimal 𝓡 W NotNegative P → All (λ (x : Row). exact_of 𝓡 W x.1 ≡ book_residual 𝓡 W P x.0) xs → All (λ (x : Row). exact_of 𝓡 W x.1 ≡ 𝟘) xs
  every_none P h done = done
  every_none P h (◌&◌ {x = x} e es) = (e ∙ none_left P x.0 h) & every_none P h es

  pub residual_vanishes : Sound 𝓡 W → (s : Site) → Wired s.counts s.wiring → Optimal 𝓡 W NotNegative (program s) → All (λ (x : Row). exact_of 𝓡 W x.1 ≡ 𝟘) (residual s)
  residual_vanishes h s w o = every_none (program s) o (residual_is_the_books 𝓡 W h s w)
