-- The change of network B by its answer: what is printed where it is refused, and where it is accepted.
-- Main results: `answered_b`, `text_refused`, `taken_b`, `text_taken`. Assumes nothing.
use mathlib.Core.Path.{◌≡◌, sym, ap, ◌∙◌, subst}
use mathlib.Core.Bool.{true}
use mathlib.Core.List.{List, [], ◌++◌, append-nil}
use Prim.Native.Nat.{ℕ, ◌≤◌, ◌<◌}
use native.Mathlib.Omega.{arith}
use lib.ListN.{length, take}
use lib.Ieee.{Float}
use borrow.Author.Tests.{ltb-false, eq-eqb, ne_eqb}
use Rattle.sequence.specs.Lists.{when}
use Rattle.sequence.specs.Answers.{Test}
use Rattle.sequence.specs.Sheets.{room}
use Rattle.sequence.proofs.Lists.{made_length}
use Rattle.words.specs.Words.{joined}
use Rattle.network.specs.Layout.{counts_of, size}
use Rattle.solution.specs.NetworkB.{wiring_b, readings_b, sheet_b}
use Rattle.kkt.specs.Slots.Rule.{first_place}
use Rattle.change_table.specs.Table.{is_kind, field_of}
use Rattle.job_book.specs.declared.Change.{Change}
use Rattle.job_book.specs.Book.{given, Words, words, line, Outcome, outcome, matrix_of, changed, step}
use Rattle.job_book.specs.Run.{triplets}
use Rattle.job_book.proofs.Steps.{Taken, taken}
use Rattle.job_book.proofs.Sheets.{list_left}
use Rattle.site_text.specs.Text.{given_b, words_b, first_line, triplet_line, named_b, answered}
use Rattle.site_text.specs.Writing.{Adds}
use Rattle.site_text.specs.declared.buffer.Buffer.{Buffer}
use Rattle.site_text.specs.Answers.{Answered}
use Rattle.site_text.proofs.Writing.{then, told}

abbrev none : Words → Change → List Test
none W h = []

-- the call on the code's lists
pub answered_b : (R C : List ℕ) (X : List Float) (h : Change) {n k : ℕ} {w : List ℕ} {s r r₁ : List Float} {R₁ C₁ : List ℕ} {X₁ : List Float} → w ≡ wiring_b → r ≡ readings_b → s ≡ sheet_b
    → outcome n k (words r₁ R₁ C₁ X₁) ≡ step (given w [] [] s) first_place none (words r R C X) h → Answered n k R₁ C₁ X₁ (step given_b first_place none (words readings_b R C X) h)
answered_b R C X h {s = s} {r = r} {r₁ = r₁} p q o e =
    record {
      readings = r₁;
      is =
          e ∙ ap (λ (w : List ℕ). step (given w [] [] s) first_place none (words r R C X) h) p
          ∙ ap (λ (r : List Float). step (given wiring_b [] [] s) first_place none (words r R C X) h) q
          ∙ ap (λ (s : List Float). step (given wiring_b [] [] s) first_place none (words readings_b R C X) h) o;
    }

-- ---- the text

module _ (o : Outcome) (h : Change) {n k : ℕ} {R C : List ℕ} {X : List Float} (a : Answered n k R C X o) where
  -- a refusal is its first line
  pub text_refused : (n ≡ 0 → ⊥) → {t u : Buffer} → Adds (first_line n k) t u → Adds (answered o h) t u
  unfolding when
  text_refused z p =
      told (subst (λ (o : Outcome). first_line n k ≡ answered o h) a.is (rw (ne_eqb n 0 z) (sym (append-nil (first_line n k))))) p

  -- an accepted change is that and the triplets in its cells
  pub text_taken : n ≡ 0 → {ls : List ℕ} → ls ≡ joined triplet_line (named_b h) → {t u v : Buffer} → Adds (first_line n k) t u → Adds ls u v → Adds (answered o h) t v
  unfolding when
  text_taken z e p q =
      told (subst (λ (o : Outcome). first_line n k ++ joined triplet_line (named_b h) ≡ answered o h) a.is (rw (eq-eqb n 0 z))) (then p (told e q))

-- ---- what an accepted change says

module _ (h : Change) (R C : List ℕ) (X : List Float) where
  pub record TakenB (k : ℕ) : Type 0 where
    pub kind : is_kind h.kind ≡ true
    pub index : h.index < size (counts_of wiring_b) (field_of h.kind)
    pub few : k ≤ 57
    pub list : triplets (take k R) (take k C) (take k X) ≡ matrix_of given_b first_place (changed given_b readings_b h)

  pub taken_b : {n k : ℕ} → Answered n k R C X (step given_b first_place none words_b h) → n ≡ 0 → TakenB k
  taken_b {n} {k} a z =
      let W₁ : Words = words a.readings R C X in
      let t : Taken given_b first_place words_b h k W₁ = taken given_b first_place none words_b (line h n k) a.is (eq-eqb n 0 z) in
      let f : length (matrix_of given_b first_place (changed given_b readings_b h)) ≤ room words_b.rows words_b.cols words_b.values = ltb-false _ _ t.passed.fits in
      record {
        kind = t.passed.kind;
        index = t.passed.index;
        few = omega (arith, t.count, f, made_length {A = ℕ});
        list = (list_left given_b first_place words_b h k W₁ t).list ∙ ap (λ (U : Words). matrix_of given_b first_place U.readings) t.left;
      }
