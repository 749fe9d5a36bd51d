-- The values of a gradient at a variable, and the lists of terms of A that agree with a gradient, column by column.
-- Main results: `Agrees`, `agree_one`, `agree_append`, `agree_each`, `terms_point`. Assumes nothing.
use mathlib.Core.Path.{◌≡◌, refl, sym, ap, ap₂, ◌∙◌}
use mathlib.Core.Bool.{true, ◌&&◌}
use mathlib.Core.List.{List, [], ◌∷◌, ◌++◌, append-nil, append_assoc}
use Prim.Native.Nat.{ℕ, zero, suc, ◌<◌}
use native.Mathlib.Decide.{ℕ_discrete}
use native.Mathlib.Omega.{arith}
use lib.Dec.{eqb}
use lib.Ieee.{Float}
use borrow.Author.Tests.{eq-eqb, ne_eqb}
use Rattle.sequence.specs.Lists.{each}
use Rattle.network.specs.declared.Counts.{Counts}
use Rattle.network.specs.Layout.{reading}
use Rattle.snapping.specs.Expr.{Expr, eval}
use Rattle.opf_layout.specs.declared.OpfColumn.{OpfColumn}
use Rattle.opf_layout.specs.declared.OpfColumn.TheVariants.{Va, Pg, Flow, Shed, Cost}
use Rattle.opf_layout.specs.Layout.{active_rank, sheds, column_rank}
use Rattle.opf_layout.proofs.Ranks.{rank_apart}
use Rattle.opf_assembly.specs.Assembly.{blank}
use Rattle.books.specs.Forms.{Place, Form}
use Rattle.books.specs.Convex.{Gradient}
use Rattle.books.specs.Matrix.{same_place}
use Rattle.books_program.specs.Program.{term_values, constant, variable, has_column, column_index}
use Rattle.books_program.proofs.Entries.{Term, at_column, column_append}

-- ---- a loop of which one turn has something

module _ {A : Type 0} where
  pub each_none : (n : ℕ) (f : ℕ → List A) → ((i : ℕ) → i < n → f i ≡ []) → each n f ≡ []
  unfolding each
  each_none zero f h = refl
  each_none (suc n) f h = rw (each_none n f (λ i l. h i (omega arith)), h n (omega arith))

  pub each_point : (n a : ℕ) (f : ℕ → List A) → a < n → ((i : ℕ) → i < n → (i ≡ a → ⊥) → f i ≡ []) → each n f ≡ f a
  unfolding each
  each_point zero a f l h = let z : ⊥ = omega arith in absurd z
  each_point (suc n) a f l h = go (ℕ_discrete a n) (λ k. each_point n a f k (λ i m d. h i (omega arith) d))
    where
      go : Dec (a ≡ n) → (a < n → each n f ≡ f a) → each n f ++ f n ≡ f a
      go (yes e) ih = rw (each_none n f (λ i m. h i (omega arith) (λ q. omega arith))) (ap f (sym e))
      go (no d) ih = rw (ih (omega arith), h n (omega arith) (λ q. d (sym q))) (append-nil (f a))

-- ---- the values of a gradient

module _ (v : Form → Float) (p : Place) where
  pub terms_append : (g h : Gradient) → term_values v (g ++ h) p ≡ term_values v g p ++ term_values v h p
  unfolding term_values
  terms_append [] h = refl
  terms_append (x ∷ g) h = rw (terms_append g h) (simp append_assoc)

  pub terms_each : (n : ℕ) (g : ℕ → Gradient) → term_values v (each n g) p ≡ each n (λ t. term_values v (g t) p)
  unfolding term_values each
  terms_each zero g = refl
  terms_each (suc n) g = terms_append (each n g) (g n) ∙ rw (terms_each n g)

  pub terms_none : (n : ℕ) (g : ℕ → Gradient) → ((i : ℕ) → i < n → term_values v (g i) p ≡ []) → term_values v (each n g) p ≡ []
  terms_none n g h = terms_each n g ∙ each_none n _ h

  pub terms_point : (n a : ℕ) (g : ℕ → Gradient) → a < n → ((i : ℕ) → i < n → (i ≡ a → ⊥) → term_values v (g i) p ≡ []) → term_values v (each n g) p ≡ term_values v (g a) p
  terms_point n a g l h = terms_each n g ∙ each_point n a _ l h

-- ---- one column for one variable

module _ (c : Counts) (w : List ℕ) (r : List Float) (ti : List ℕ) (tc : List Float) where
  shed_same : (i j : ℕ) → sheds c w r i ≡ true → sheds c w r j ≡ true → eqb (active_rank (sheds c w r) i) (active_rank (sheds c w r) j) ≡ eqb i j
  shed_same i j p q = go (ℕ_discrete i j)
    where
      go : Dec (i ≡ j) → eqb (active_rank (sheds c w r) i) (active_rank (sheds c w r) j) ≡ eqb i j
      go (yes e) = rw (eq-eqb _ _ (ap (active_rank (sheds c w r)) e), eq-eqb i j e)
      go (no d) = rw (ne_eqb (active_rank (sheds c w r) i) (active_rank (sheds c w r) j) (λ e. d (rank_apart (sheds c w r) i j p q e)), ne_eqb i j d)

  pub place_same : (k l : OpfColumn) (i j : ℕ) → has_column c w r ti tc k i ≡ true → has_column c w r ti tc l j ≡ true
      → (eqb (column_rank k) (column_rank l) && eqb (column_index c w r ti tc k i) (column_index c w r ti tc l j)) ≡ same_place (variable c w r ti tc k i) (variable c w r ti tc l j)
  place_same Va Va i j p q = refl
  place_same Va Pg i j p q = refl
  place_same Va Flow i j p q = refl
  place_same Va Shed i j p q = refl
  place_same Va Cost i j p q = refl
  place_same Pg Va i j p q = refl
  place_same Pg Pg i j p q = refl
  place_same Pg Flow i j p q = refl
  place_same Pg Shed i j p q = refl
  place_same Pg Cost i j p q = refl
  place_same Flow Va i j p q = refl
  place_same Flow Pg i j p q = refl
  place_same Flow Flow i j p q = refl
  place_same Flow Shed i j p q = refl
  place_same Flow Cost i j p q = refl
  place_same Shed Va i j p q = refl
  place_same Shed Pg i j p q = refl
  place_same Shed Flow i j p q = refl
  place_same Shed Shed i j p q = shed_same i j p q
  place_same Shed Cost i j p q = refl
  place_same Cost Va i j p q = refl
  place_same Cost Pg i j p q = refl
  place_same Cost Flow i j p q = refl
  place_same Cost Shed i j p q = refl
  place_same Cost Cost i j p q = refl

  -- ---- terms that agree with a gradient

  abbrev pub written : Expr → Float
  written x = eval (reading c r) blank x

  abbrev pub worth : Form → Float
  worth x = constant c w r ti tc x

  module _ (k : OpfColumn) (j : ℕ) (has : has_column c w r ti tc k j ≡ true) where
    abbrev pub Agrees : List Term → Gradient → Type 0
    Agrees l g = at_column written k (column_index c w r ti tc k j) l ≡ term_values worth g (variable c w r ti tc k j)

    pub agree_none : Agrees [] []
    unfolding at_column term_values
    agree_none = refl

    pub agree_one : (b : OpfColumn) (i : ℕ) (x : Expr) (f : Form) → has_column c w r ti tc b i ≡ true → written x ≡ worth f
        → Agrees ((b, column_index c w r ti tc b i, x) ∷ []) ((variable c w r ti tc b i, f) ∷ [])
    unfolding at_column term_values
    agree_one b i x f h e = rw (place_same b k i j h has, e)

    pub agree_append : (l m : List Term) (g h : Gradient) → Agrees l g → Agrees m h → Agrees (l ++ m) (g ++ h)
    agree_append l m g h p q =
        column_append written k (column_index c w r ti tc k j) l m ∙ ap₂ ◌++◌ p q ∙ sym (terms_append worth (variable c w r ti tc k j) g h)

    pub agree_then : (b : OpfColumn) (i : ℕ) (x : Expr) (f : Form) (m : List Term) (h : Gradient) → has_column c w r ti tc b i ≡ true → written x ≡ worth f → Agrees m h
        → Agrees ((b, column_index c w r ti tc b i, x) ∷ m) ((variable c w r ti tc b i, f) ∷ h)
    agree_then b i x f m h p e q = agree_append ((b, column_index c w r ti tc b i, x) ∷ []) m ((variable c w r ti tc b i, f) ∷ []) h (agree_one b i x f p e) q

    pub agree_each : (n : ℕ) (l : ℕ → List Term) (g : ℕ → Gradient) → ((t : ℕ) → t < n → Agrees (l t) (g t)) → Agrees (each n l) (each n g)
    unfolding each
    agree_each zero l g h = agree_none
    agree_each (suc n) l g h = agree_append (each n l) (l n) (each n g) (g n) (agree_each n l g (λ t m. h t (omega arith))) (h n (omega arith))
