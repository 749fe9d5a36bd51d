-- The cells outside every set that the accepted calls of a run name hold the same values in the list of the last readings as in that of the first.
-- Main result: `cells_stay`. Assumes nothing.
use Prim.Native.Nat.{ℕ}
use mathlib.Core.Path.{◌≡◌, refl, sym, ap, subst, ◌∙◌}
use mathlib.Core.Bool.{Bool, true, false, not, ◌&&◌}
use mathlib.Core.List.{List}
use lib.Dec.{T, eqb}
use lib.Ieee.{Float}
use Rattle.sequence.specs.Answers.{Test}
use Rattle.kkt.specs.Slots.{Rule}
use Rattle.change_table.specs.Table.{Cell, named_cells, among, values_at}
use Rattle.change_table.proofs.Frame.{named_same, frame}
use Rattle.job_book.specs.declared.Change.{Change}
use Rattle.job_book.specs.Book.{Given, Words, Line, outcome, counts_in, matrix_of, step}
use Rattle.job_book.specs.Run.{outside, Runs}
use Rattle.job_book.specs.Run.Runs.{ended, called}
use Rattle.job_book.proofs.Steps.{taken, refused, network_accepted}

first_part : (a b : Bool) → T (not a && b) → a ≡ false
first_part true b t = absurd t
first_part false b t = refl

rest_part : (a b : Bool) → T (not a && b) → T b
rest_part true b t = absurd t
rest_part false b t = t

module _ (G : Given) (rule : Rule) (further : Words → Change → List Test) (r₀ : List Float) where
  -- the readings name the cells that those at the start name
  abbrev Named : List Float → Type 0
  Named r = (k i : ℕ) → named_cells (counts_in G) G.wiring r k i ≡ named_cells (counts_in G) G.wiring r₀ k i

  abbrev named_by : Change → List Cell
  named_by h = named_cells (counts_in G) G.wiring r₀ h.kind h.index

  module _ (W : Words) (l : Line) {W₁ : Words} (e : outcome l.number l.count W₁ ≡ step G rule further W l.change) (same : Named W.readings) where
    named_after : Named W₁.readings
    named_after k i = go (eqb l.number 0) refl
      where
        go : (a : Bool) → eqb l.number 0 ≡ a → named_cells (counts_in G) G.wiring W₁.readings k i ≡ named_cells (counts_in G) G.wiring r₀ k i
        go true q =
            let t = taken G rule further W l e q in
            ap (λ (U : Words). named_cells (counts_in G) G.wiring U.readings k i) t.left
            ∙ named_same (counts_in G) G.wiring W.readings l.change.kind l.change.index l.change.value (subst T (sym t.passed.kind) tt) t.passed.index k i
            ∙ same k i
        go false q = ap (λ (U : Words). named_cells (counts_in G) G.wiring U.readings k i) (refused G rule further W l e q) ∙ same k i

    cell_after : (x : Cell) → (eqb l.number 0 && among x (named_by l.change)) ≡ false
        → values_at (matrix_of G rule W₁.readings) x ≡ values_at (matrix_of G rule W.readings) x
    cell_after x o = go (eqb l.number 0) refl o
      where
        go : (a : Bool) → eqb l.number 0 ≡ a → (a && among x (named_by l.change)) ≡ false → values_at (matrix_of G rule W₁.readings) x ≡ values_at (matrix_of G rule W.readings) x
        go true q o =
            let t = taken G rule further W l e q in
            ap (λ (U : Words). values_at (matrix_of G rule U.readings) x) t.left
            ∙ frame rule (counts_in G) G.wiring W.readings G.indexes G.coefficients G.solution l.change.kind l.change.index l.change.value x
            (network_accepted G rule t.passed).wired (subst T (sym t.passed.kind) tt) t.passed.index
            (ap (among x) (same l.change.kind l.change.index) ∙ o)
        go false q o = ap (λ (U : Words). values_at (matrix_of G rule U.readings) x) (refused G rule further W l e q)

  pub cells_stay : {W W' : Words} {ls : List Line} → Runs G rule further W ls W' → Named W.readings → (x : Cell) → T (outside G r₀ x ls)
      → values_at (matrix_of G rule W'.readings) x ≡ values_at (matrix_of G rule W.readings) x
  unfolding outside
  cells_stay ended same x o = refl
  cells_stay {W} (called {l = l} {ls} e R) same x o =
      let meets : Bool = eqb l.number 0 && among x (named_by l.change) in
      cells_stay R (named_after W l e same) x (rest_part meets (outside G r₀ x ls) o) ∙ cell_after W l e same x (first_part meets (outside G r₀ x ls) o)
