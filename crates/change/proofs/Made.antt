-- The returns of a change call, one law for each. Main results: `list_laid`, `list_refused`, `restored`, `set_laid`; `placed`, `place_inside`, `own_held`; `step_refused`, `step_own`, `step_made`. Assumes nothing.
use mathlib.Core.Path.{◌≡◌, refl, sym, ap, ◌∙◌}
use mathlib.Core.Bool.{Bool, true, false, cond}
use mathlib.Core.List.{List, [], ◌∷◌, ◌++◌}
use Prim.Native.Nat.{ℕ, ◌+◌, ◌≤◌, ◌<◌}
use native.Mathlib.Omega.{arith}
use lib.ListN.{length, get_or, set, length-set}
use lib.Seq.{set-set, set-get_or}
use lib.Dec.{T, eqb}
use lib.Ieee.{Float}
use borrow.Author.Tests.{eqb-false, ne_eqb}
use Rattle.std.specs.Prelude.{Result, Ok, Err}
use Rattle.std.specs.Result.{is_err}
use Rattle.sequence.specs.Answers.{Test, test, first_of, marked, number_of as answer_number}
use Rattle.sequence.specs.declared.Refusal.{Refusal}
use Rattle.sequence.specs.declared.Triplet.{Triplet}
use Rattle.sequence.specs.Sheets.{Laid, laid, lays, lays_if, short_list}
use Rattle.sequence.proofs.Answers.{first_stands, first_passes, refused}
use Rattle.network.specs.declared.Counts.{Counts}
use Rattle.network.specs.Layout.{size, readings_length, field_start, place, ReadingsLaid}
use Rattle.network.specs.declared.Field.{Field}
use Rattle.network.proofs.Places.{field_inside}
use Rattle.network.specs.Numbers.{Wired}
use Rattle.model.proofs.Calls.{network_stands, network_passes}
use Rattle.solution_check.specs.Tests.{solution_long, solution_holds, solution_tests}
use Rattle.kkt.specs.Slots.{Rule}
use Rattle.kkt.specs.Matrix.{kkt_matrix_list}
use Rattle.kkt_laws.proofs.Bound.{list_length}
use Rattle.job_book.specs.declared.Change.{Change}
use Rattle.job_book.specs.Book.{Given, Words, words, outcome, outcome_by_number, made_at, own_tests, counts_in, network_of, matrix_of, changed, number_of, step}

-- ---- what the laid list makes of a change

module _ (ts : List Triplet) (r : List Float) (W : Words) {R C : List ℕ} {X : List Float} {n k : ℕ} where
  -- the list is laid: the readings keep the change
  by_laid : (m : ℕ) (b : Bool) → eqb m 0 ≡ b → laid n k R C X ≡ lays m ts W.rows W.cols W.values → n ≡ 0 → outcome n k (words r R C X) ≡ outcome_by_number m ts r W
  unfolding lays outcome_by_number
  by_laid m true e h z =
      rw e (ap (λ (L : Laid). outcome L.number L.count (words r L.rows L.cols L.values)) (rw e at h))
  by_laid m false e h z =
      let l : laid n k R C X ≡ laid m 0 W.rows W.cols W.values = rw e at h in
      absurd (eqb-false m 0 e (sym (ap (λ (L : Laid). L.number) l) ∙ z))

  -- the list is not laid: the old readings, and the sheets as they were
  by_refused : (m : ℕ) (b : Bool) → eqb m 0 ≡ b → laid n k R C X ≡ lays m ts W.rows W.cols W.values → (n ≡ 0 → ⊥) → outcome n k (words W.readings R C X) ≡ outcome_by_number m ts r W
  unfolding lays outcome_by_number
  by_refused m true e h z = absurd (z (ap (λ (L : Laid). L.number) (rw e at h)))
  by_refused m false e h z =
      rw e (ap (λ (L : Laid). outcome L.number L.count (words W.readings L.rows L.cols L.values)) (rw e at h))

  by_count : (m : ℕ) (b : Bool) → eqb m 0 ≡ b → laid n k R C X ≡ lays m ts W.rows W.cols W.values → k ≤ length ts
  unfolding lays
  by_count m true e h = let l : k ≡ length ts = ap (λ (L : Laid). L.count) (rw e at h) in omega arith
  by_count m false e h = let l : k ≡ 0 = ap (λ (L : Laid). L.count) (rw e at h) in omega arith

  made_laid : laid n k R C X ≡ lays_if ts W.rows W.cols W.values → n ≡ 0 → outcome n k (words r R C X) ≡ made_at ts r W
  made_laid h z = by_laid (cond (short_list ts W.rows W.cols W.values) 7 0) _ refl h z

  made_refused : laid n k R C X ≡ lays_if ts W.rows W.cols W.values → (n ≡ 0 → ⊥) → outcome n k (words W.readings R C X) ≡ made_at ts r W
  made_refused h z = by_refused (cond (short_list ts W.rows W.cols W.values) 7 0) _ refl h z

  count_le : laid n k R C X ≡ lays_if ts W.rows W.cols W.values → k ≤ length ts
  count_le h = by_count (cond (short_list ts W.rows W.cols W.values) 7 0) _ refl h

-- ---- what a call hands back: a refusal has a number that is not 0, and else the number is 0

pub number_err : (a : Result ℕ Refusal) → is_err a ≡ true → answer_number a ≡ 0 → ⊥
number_err (Ok n) e z = cc
number_err (Err r) e z = refused r z

pub number_ok : (a : Result ℕ Refusal) → is_err a ≡ false → answer_number a ≡ 0
number_ok (Ok n) e = refl
number_ok (Err r) e = cc

-- the old value put back
pub restored : (r : List Float) (at : ℕ) (v d : Float) → set (set r at v) at (get_or r at d) ≡ r
restored r at v d = set-set r at v (get_or r at d) ∙ set-get_or r at d

-- readings with a change are as long
pub set_laid : {c : Counts} {r : List Float} (at : ℕ) (v : Float) → ReadingsLaid c r → ReadingsLaid c (set r at v)
set_laid {r = r} at v h = record { few = h.few; long = length-set r at v ∙ h.long }

-- both facts of a laid list, and of one that isn't: a list of an accepted wiring is short, so its count is a word
module _ (rule : Rule) (c : Counts) (w ti : List ℕ) (tc s r : List Float) (W : Words) (h : Wired c w) {R C : List ℕ} {X : List Float} {n k : ℕ}
    (l : laid n k R C X ≡ lays_if (kkt_matrix_list rule c w r ti tc s) W.rows W.cols W.values) where
  few : k < 0x1_0000_0000
  few = omega (arith, count_le (kkt_matrix_list rule c w r ti tc s) r W l, list_length rule c w r ti tc s h, h.laid.few)

  pub list_laid : n ≡ 0 → (outcome n k (words r R C X) ≡ made_at (kkt_matrix_list rule c w r ti tc s) r W) × (k < 0x1_0000_0000)
  list_laid z = (made_laid (kkt_matrix_list rule c w r ti tc s) r W l z, few)

  pub list_refused : (n ≡ 0 → ⊥) → {r₀ : List Float} → r₀ ≡ W.readings → (outcome n k (words r₀ R C X) ≡ made_at (kkt_matrix_list rule c w r ti tc s) r W) × (k < 0x1_0000_0000)
  list_refused z {r₀} e = (ap (λ (q : List Float). outcome n k (words q R C X)) e ∙ made_refused (kkt_matrix_list rule c w r ti tc s) r W l z, few)

-- ---- a change whose own tests hold none

-- the reading's place, as it is reckoned
pub placed : (c : Counts) (f : Field) (i : ℕ) {s : ℕ} → s ≡ field_start c f → s + i ≡ place c f i
unfolding place
placed c f i e = rw e

pub place_inside : (c : Counts) (f : Field) (i : ℕ) → i < size c f → place c f i < readings_length c
unfolding place
place_inside c f i h = omega (arith, field_inside c f)

own_marked : (c : Counts) (kind i : ℕ) (v : Float) → T (marked (own_tests c kind i v))
unfolding marked own_tests
own_marked c kind i v = tt

-- ---- the returns of the call

module _ (G : Given) (rule : Rule) (W : Words) (h : Change) where
  abbrev after : List Test
  after = test 7 (short_list (matrix_of G rule (changed G W.readings h)) W.rows W.cols W.values) ∷ []

  abbrev own : List Test
  own = own_tests (counts_in G) h.kind h.index h.value

  abbrev none : Words → Change → List Test
  none U g = []

  by_number : {n : ℕ} → number_of G rule none W h ≡ n → (n ≡ 0 → ⊥) → outcome n 0 W ≡ step G rule none W h
  unfolding step outcome_by_number
  by_number {n} e z = rw (e, ne_eqb n 0 z)

  module _ {k : ℕ} (e : k ≡ first_of (solution_tests false (network_of G W.readings) G.solution)) where
    -- 1 to 3 of the network and its sheet
    pub step_refused : (k ≡ 0 → ⊥) → outcome k 0 W ≡ step G rule none W h
    unfolding number_of
    step_refused z =
        by_number (network_stands (network_of G W.readings) (solution_long (network_of G W.readings) G.solution) (solution_holds false (network_of G W.readings) G.solution) (own ++ after) e z) z

    passes : k ≡ 0 → number_of G rule none W h ≡ first_of (own ++ after)
    unfolding number_of
    passes z =
        network_passes (network_of G W.readings) (solution_long (network_of G W.readings) G.solution) (solution_holds false (network_of G W.readings) G.solution) (own ++ after) e z

    -- 3 to 5 of the change
    pub step_own : {n : ℕ} → k ≡ 0 → n ≡ first_of own → (n ≡ 0 → ⊥) → outcome n 0 W ≡ step G rule none W h
    step_own z q y =
        by_number (passes z ∙ first_stands own after (own_marked _ _ _ _) (λ x. y (q ∙ x)) ∙ sym q) y

    -- the list decides
    pub step_made : {n : ℕ} → k ≡ 0 → n ≡ first_of own → n ≡ 0 → made_at (matrix_of G rule (changed G W.readings h)) (changed G W.readings h) W ≡ step G rule none W h
    unfolding step first_of
    step_made z q y =
        ap (λ (m : ℕ). outcome_by_number m (matrix_of G rule (changed G W.readings h)) (changed G W.readings h) W) (sym (passes z ∙ first_passes own after (own_marked _ _ _ _) (sym q ∙ y)))
