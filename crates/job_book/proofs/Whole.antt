-- Demand 3 of every run of change calls, and of the one call on a list of changes.
-- Main results: `demand_3`, `book_runs`, `run_changes_3`, `run_changes_refused`. Assumes nothing.
use Prim.Native.Nat.{ℕ, ◌/◌}
use mathlib.Core.Path.{◌≡◌, refl, sym, ap, subst, ◌∙◌}
use mathlib.Core.Bool.{Bool, true, false, ◌||◌}
use mathlib.Core.List.{List, []}
use native.Mathlib.Decide.{ℕ_discrete}
use lib.ListN.{length}
use lib.Dec.{T}
use lib.Ieee.{Float}
use borrow.Author.Tests.{ne_eqb}
use Rattle.sequence.specs.Lists.{front}
use Rattle.sequence.specs.Answers.{Test}
use Rattle.sequence.specs.declared.Triplet.{Triplet}
use Rattle.kkt.specs.Slots.{Rule}
use Rattle.change_table.specs.Table.{values_at}
use Rattle.job_book.specs.declared.Change.{Change}
use Rattle.job_book.specs.Book.{Given, Words, Line, matrix_of, lines, words_after, changes_of, Ran, ran, numbers_of, counts_of_lines, run_number, run_call}
use Rattle.job_book.specs.Run.{list_in, any_accepted, last_count, Runs, Stands, length_after, Demand3}
use Rattle.job_book.proofs.Sheets.{Listed, list_left, list_stands}
use Rattle.job_book.proofs.Along as along
use Rattle.job_book.proofs.Cells.{cells_stay}

module _ (G : Given) (rule : Rule) (further : Words → Change → List Test) where
  -- the list after a run from a list that was the readings' where b holds: it is the readings', and so long
  listed : {W W' : Words} {ls : List Line} → Runs G rule further W ls W' → (b : Bool) → (T b → list_in (length_after G rule W []) W ≡ matrix_of G rule W.readings) → T (b || any_accepted ls)
      → Listed G rule (length_after G rule W ls) W'
  unfolding last_count
  listed {W} R b h a =
      along.last_keeps G rule further (Listed G rule) (list_left G rule) R (length (matrix_of G rule W.readings)) b (λ t. record { count = refl; list = h t }) a

  stands : {W W' : Words} {ls : List Line} → Runs G rule further W ls W' → T (any_accepted ls) → Stands G rule W'.readings (length_after G rule W ls) W'
  stands {W} R a =
      along.last_keeps G rule further (λ k U. Stands G rule U.readings k U) (λ U h k U₁ t. list_stands G rule U h k U₁ t) R (length (matrix_of G rule W.readings)) false (λ z. absurd z) a

  pub demand_3 : {W W' : Words} {ls : List Line} → Runs G rule further W ls W' → Demand3 G rule further W ls W'
  demand_3 {W} {W'} {ls} R =
      let k : ℕ = length_after G rule W ls in
      let now = along.readings_are G rule further R in
      record {
        answers = along.answers_are G rule further R;
        left = along.left_are G rule further R;
        readings = now;
        list = λ a.
            (subst (λ (r : List Float). Stands G rule r k W') now (stands R a), (listed R false (λ z. absurd z) a).list ∙ ap (matrix_of G rule) now);
        cells = λ h x o.
            ap (λ (ts : List Triplet). values_at ts x) (listed R true (λ t. h) tt).list
            ∙ cells_stay G rule further W.readings R (λ k i. refl) x o
            ∙ sym (ap (λ (ts : List Triplet). values_at ts x) h);
        one_list = λ ls₂ W₂ R₂ a a₂ e.
            let p = listed R false (λ z. absurd z) a in
            let q = listed R₂ false (λ z. absurd z) a₂ in
            (p.count ∙ ap (λ (r : List Float). length (matrix_of G rule r)) e ∙ sym q.count, p.list ∙ ap (matrix_of G rule) e ∙ sym q.list);
        back = λ a e.
            (subst (λ (r : List Float). Stands G rule r k W') e (stands R a), (listed R false (λ z. absurd z) a).list ∙ ap (matrix_of G rule) e);
      }

  pub book_runs : (W : Words) (hs : List Change) → Runs G rule further W (lines G rule further W hs) (words_after G rule further W hs)
  book_runs W hs = along.book_runs G rule further W hs

  -- ---- one call on a list of changes

  -- the calls that it stands for, and their answers
  abbrev pub lines_of : Words → List ℕ → List Line
  lines_of W ws = lines G rule further W (changes_of ws)

  module _ (W : Words) (ws ns ks : List ℕ) where
    all_ran : run_number ws ns ks ≡ 0
        → run_call G rule further W ws ns ks ≡ ran 0 (length ws / 3) (words_after G rule further W (changes_of ws)) (front (numbers_of (lines_of W ws)) ns) (front (counts_of_lines (lines_of W ws)) ks)
    unfolding run_call
    all_ran z = rw z

    none_ran : (run_number ws ns ks ≡ 0 → ⊥) → run_call G rule further W ws ns ks ≡ ran (run_number ws ns ks) 0 W ns ks
    unfolding run_call
    none_ran z = rw (ne_eqb (run_number ws ns ks) 0 z)

    run_number_lem : (run_call G rule further W ws ns ks).number ≡ run_number ws ns ks
    run_number_lem = go (ℕ_discrete (run_number ws ns ks) 0)
      where
        go : Dec (run_number ws ns ks ≡ 0) → (run_call G rule further W ws ns ks).number ≡ run_number ws ns ks
        go (yes z) = ap (λ (r : Ran). r.number) (all_ran z) ∙ sym z
        go (no z) = ap (λ (r : Ran). r.number) (none_ran z)

    module _ {n k : ℕ} {W' : Words} {ns' ks' : List ℕ} (e : ran n k W' ns' ks' ≡ run_call G rule further W ws ns ks) where
      number_is : run_number ws ns ks ≡ n
      number_is = sym (ap (λ (r : Ran). r.number) e ∙ run_number_lem)

      pub run_changes_3 : n ≡ 0
          → Demand3 G rule further W (lines_of W ws) W' × ((k ≡ length ws / 3) × ((ns' ≡ front (numbers_of (lines_of W ws)) ns) × (ks' ≡ front (counts_of_lines (lines_of W ws)) ks)))
      run_changes_3 z =
          let q = e ∙ all_ran (number_is ∙ z) in (
            subst (λ (U : Words). Demand3 G rule further W (lines_of W ws) U) (sym (ap (λ (r : Ran). r.left) q)) (demand_3 (book_runs W (changes_of ws))),
            (ap (λ (r : Ran). r.count) q, (ap (λ (r : Ran). r.numbers) q, ap (λ (r : Ran). r.counts) q)),
          )

      pub run_changes_refused : (n ≡ 0 → ⊥) → (W' ≡ W) × ((ns' ≡ ns) × ((ks' ≡ ks) × (k ≡ 0)))
      run_changes_refused z =
          let q = e ∙ none_ran (λ y. z (sym number_is ∙ y)) in
          (ap (λ (r : Ran). r.left) q, (ap (λ (r : Ran). r.numbers) q, (ap (λ (r : Ran). r.counts) q, ap (λ (r : Ran). r.count) q)))
