-- A run, call by call: it is the book's, the last accepted call says what holds, and each reading is its last accepted value.
-- Main results: `answers_are`, `left_are`, `book_runs`, `last_keeps`, `readings_are`. Assumes nothing.
use Prim.Native.Nat.{ℕ, ◌<◌}
use mathlib.Core.Path.{◌≡◌, refl, sym, ap, subst, ◌∙◌}
use mathlib.Core.Bool.{Bool, true, false, cond, ◌&&◌, ◌||◌}
use mathlib.Core.List.{List, [], ◌∷◌}
use native.Mathlib.Omega.{arith}
use lib.ListN.{length, get_or, length-set}
use lib.Seq.{ext_get_or}
use lib.Dec.{T, eqb}
use lib.Ieee.{Float, nan}
use Rattle.sequence.specs.Lists.{made}
use Rattle.sequence.specs.Answers.{Test}
use Rattle.sequence.proofs.Lists.{made_length, made_at}
use Rattle.kkt.specs.Slots.{Rule}
use Rattle.job_book.specs.declared.Change.{Change}
use Rattle.job_book.specs.Book.{Given, Words, Line, Outcome, outcome, place_of, step, lines, words_after}
use Rattle.job_book.specs.Run.{accepted, any_accepted, last_count, last_value, standing, Runs, changes_in}
use Rattle.job_book.specs.Run.Runs.{ended, called}
use Rattle.job_book.proofs.Steps.{Taken, taken, refused}
use Rattle.job_book.proofs.Readings.{set_reading}

or_false : (b : Bool) → T (b || false) → T b
or_false true t = tt
or_false false t = t

module _ (G : Given) (rule : Rule) (further : Words → Change → List Test) where
  -- ---- the book's own run

  pub answers_are : {W W' : Words} {ls : List Line} → Runs G rule further W ls W' → ls ≡ lines G rule further W (changes_in ls)
  unfolding lines
  answers_are ended = refl
  answers_are (called {l = l} {ls} e R) =
      subst (λ (o : Outcome). l ∷ ls ≡ record { change = l.change; number = o.number; count = o.count } ∷ lines G rule further o.left (changes_in ls)) e
      (ap (λ (ms : List Line). l ∷ ms) (answers_are R))

  pub left_are : {W W' : Words} {ls : List Line} → Runs G rule further W ls W' → W' ≡ words_after G rule further W (changes_in ls)
  unfolding words_after
  left_are ended = refl
  left_are (called {W₂ = W₂} {ls = ls} e R) =
      subst (λ (o : Outcome). W₂ ≡ words_after G rule further o.left (changes_in ls)) e (left_are R)

  pub book_runs : (W : Words) (hs : List Change) → Runs G rule further W (lines G rule further W hs) (words_after G rule further W hs)
  unfolding lines words_after
  book_runs W [] = ended
  book_runs W (h ∷ hs) = called refl (book_runs (step G rule further W h).left hs)

  -- ---- what every accepted call brings about, and no refused one ends

  module _ (P : ℕ → Words → Type 0) (brings : (W : Words) (h : Change) (k : ℕ) (W₁ : Words) → Taken G rule W h k W₁ → P k W₁) where
    pub last_keeps : {W W' : Words} {ls : List Line} → Runs G rule further W ls W' → (k : ℕ) (b : Bool) → (T b → P k W) → T (b || any_accepted ls) → P (last_count k ls) W'
    unfolding any_accepted last_count
    last_keeps ended k b p t = p (or_false b t)
    last_keeps {W} (called {W₁ = W₁} {W₂} {l} {ls} e R) k b p t = go (eqb l.number 0) refl (last_keeps R) t
      where
        go : (a : Bool) → eqb l.number 0 ≡ a → ((k : ℕ) (b : Bool) → (T b → P k W₁) → T (b || any_accepted ls) → P (last_count k ls) W₂)
            → T (b || (a || any_accepted ls)) → P (last_count (cond a l.count k) ls) W₂
        go true q ih t = ih l.count true (λ y. brings W l.change l.count W₁ (taken G rule further W l e q)) tt
        go false q ih t = ih k b (λ y. subst (P k) (sym (refused G rule further W l e q)) (p y)) t

  -- ---- the readings

  -- one call's
  module _ (W : Words) (l : Line) {W₁ : Words} (e : outcome l.number l.count W₁ ≡ step G rule further W l.change) where
    length_after_lem : length W₁.readings ≡ length W.readings
    length_after_lem = go (eqb l.number 0) refl
      where
        go : (a : Bool) → eqb l.number 0 ≡ a → length W₁.readings ≡ length W.readings
        go true q = rw (taken G rule further W l e q).left (simp length-set)
        go false q = rw (refused G rule further W l e q)

    reading_after : (p : ℕ) → p < length W.readings
        → get_or W₁.readings p nan ≡ cond (accepted l && eqb (place_of G l.change) p) l.change.value (get_or W.readings p nan)
    reading_after p h = go (eqb l.number 0) refl
      where
        go : (a : Bool) → eqb l.number 0 ≡ a → get_or W₁.readings p nan ≡ cond (a && eqb (place_of G l.change) p) l.change.value (get_or W.readings p nan)
        go true q = rw (taken G rule further W l e q).left (set_reading W.readings (place_of G l.change) l.change.value p h)
        go false q = rw (refused G rule further W l e q)

  length_kept : {W W' : Words} {ls : List Line} → Runs G rule further W ls W' → length W'.readings ≡ length W.readings
  length_kept ended = refl
  length_kept {W} (called {l = l} e R) = length_kept R ∙ length_after_lem W l e

  reading_last : {W W' : Words} {ls : List Line} → Runs G rule further W ls W' → (p : ℕ) → p < length W.readings
      → get_or W'.readings p nan ≡ last_value G p (get_or W.readings p nan) ls
  unfolding last_value
  reading_last ended p h = refl
  reading_last {W} (called {l = l} {ls} e R) p h =
      reading_last R p (omega (arith, length_after_lem W l e)) ∙ ap (λ (x : Float). last_value G p x ls) (reading_after W l e p h)

  pub readings_are : {W W' : Words} {ls : List Line} → Runs G rule further W ls W' → W'.readings ≡ standing G W.readings ls
  unfolding standing
  readings_are {W} {W'} {ls} R =
      let f : ℕ → Float = λ p. last_value G p (get_or W.readings p nan) ls in
      ext_get_or nan W'.readings (made f (length W.readings)) (length_kept R ∙ sym (made_length f (length W.readings)))
      (λ p h. let h' : p < length W.readings = omega (arith, length_kept R) in
      reading_last R p h' ∙ sym (made_at f (length W.readings) p nan h'))
