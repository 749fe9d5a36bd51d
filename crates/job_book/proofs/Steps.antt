-- One call by its number: what 0 says of the network, the change and the sheets, and what each number leaves.
-- Main results: `taken`, `refused`. Assumes nothing.
use Prim.Native.Nat.{ℕ, suc, ◌<◌}
use mathlib.Core.Path.{◌≡◌, refl, sym, ap, ◌∙◌}
use mathlib.Core.Bool.{Bool, true, false, ◌&&◌}
use mathlib.Core.List.{List, ◌∷◌}
use native.Mathlib.Omega.{arith}
use native.Mathlib.Decide.{ℕ_discrete}
use lib.ListN.{length}
use lib.Dec.{eqb}
use lib.Ieee.{Float}
use borrow.Author.Tests.{eqb-true, ltb-true, not-false, ne_eqb, eqb-false}
use Rattle.float64.specs.Values.{within, raw_limit}
use Rattle.sequence.specs.Answers.{Test, test, first_of}
use Rattle.sequence.specs.declared.Triplet.{Triplet}
use Rattle.sequence.specs.Sheets.{short_list}
use Rattle.sequence.proofs.Lists.{and_left}
use Rattle.network.specs.Layout.{size}
use Rattle.network.specs.Numbers.{sizes_hold, wiring_holds, readings_hold, Accepted}
use Rattle.network.proofs.Tests.{accepted}
use Rattle.solution_check.specs.Tests.{solution_long, solution_holds}
use Rattle.kkt.specs.Slots.{Rule}
use Rattle.change_table.specs.Table.{is_kind, field_of}
use Rattle.job_book.specs.declared.Change.{Change}
use Rattle.job_book.specs.Book.{Given, Words, Line, Outcome, outcome, own_tests, fronts, outcome_by_number, counts_in, network_of, matrix_of, changed, number_of, step}

-- a list of tests gives 0 only where its first one fails
first_failed : (n : ℕ) (b : Bool) (ts : List Test) → first_of (test (suc n) b ∷ ts) ≡ 0 → (b ≡ false) × (first_of ts ≡ 0)
unfolding first_of
first_failed n true ts e = absurd (omega arith)
first_failed n false ts e = (refl, e)

-- ---- an answer is the number that the tests give

module _ (n₀ : ℕ) (ts : List Triplet) (r : List Float) (W : Words) where
  by_none : n₀ ≡ 0 → outcome_by_number n₀ ts r W ≡ outcome 0 (length ts) (fronts ts r W)
  unfolding outcome_by_number
  by_none z = rw z

  by_one : (n₀ ≡ 0 → ⊥) → outcome_by_number n₀ ts r W ≡ outcome n₀ 0 W
  unfolding outcome_by_number
  by_one z = rw (ne_eqb n₀ 0 z)

  by_number : (outcome_by_number n₀ ts r W).number ≡ n₀
  by_number = go (ℕ_discrete n₀ 0)
    where
      go : Dec (n₀ ≡ 0) → (outcome_by_number n₀ ts r W).number ≡ n₀
      go (yes z) = ap (λ (o : Outcome). o.number) (by_none z) ∙ sym z
      go (no z) = ap (λ (o : Outcome). o.number) (by_one z)

module _ (G : Given) (rule : Rule) where
  -- what 0 says of the words before the call, and of the change
  pub record Passed (W : Words) (h : Change) : Type 0 where
    pub sized : sizes_hold (network_of G W.readings) && solution_long (network_of G W.readings) G.solution ≡ true
    pub wiring : wiring_holds (counts_in G) G.wiring G.indexes ≡ true
    pub read : readings_hold (counts_in G) (network_of G W.readings) && solution_holds false (network_of G W.readings) G.solution ≡ true
    pub value : within raw_limit h.value ≡ true
    pub kind : is_kind h.kind ≡ true
    pub index : h.index < size (counts_in G) (field_of h.kind)
    pub fits : short_list (matrix_of G rule (changed G W.readings h)) W.rows W.cols W.values ≡ false

  pub network_accepted : {W : Words} {h : Change} → Passed W h → Accepted (network_of G W.readings) (counts_in G)
  network_accepted {W} p =
      accepted (network_of G W.readings) (and_left (sizes_hold (network_of G W.readings)) _ p.sized) p.wiring (and_left (readings_hold (counts_in G) (network_of G W.readings)) _ p.read)

  -- an accepted call from W to W₁
  pub record Taken (W : Words) (h : Change) (k : ℕ) (W₁ : Words) : Type 0 where
    pub passed : Passed W h
    pub count : k ≡ length (matrix_of G rule (changed G W.readings h))
    pub left : W₁ ≡ fronts (matrix_of G rule (changed G W.readings h)) (changed G W.readings h) W

  module _ (further : Words → Change → List Test) where
    number_none : (W : Words) (h : Change) → number_of G rule further W h ≡ 0 → Passed W h
    unfolding number_of own_tests
    number_none W h e =
        let t1 = first_failed _ _ _ e in
        let t2 = first_failed _ _ _ t1.1 in
        let t3 = first_failed _ _ _ t2.1 in
        let t4 = first_failed _ _ _ t3.1 in
        let t5 = first_failed _ _ _ t4.1 in
        let t6 = first_failed _ _ _ t5.1 in
        let t7 = first_failed _ _ _ t6.1 in
        record {
          sized = not-false _ t1.0;
          wiring = not-false _ t2.0;
          read = not-false _ t3.0;
          value = not-false _ t4.0;
          kind = not-false _ t5.0;
          index = ltb-true _ _ (not-false _ t6.0);
          fits = t7.0;
        }

    module _ (W : Words) (l : Line) {W₁ : Words} (e : outcome l.number l.count W₁ ≡ step G rule further W l.change) where
      number_is : l.number ≡ number_of G rule further W l.change
      unfolding step
      number_is = ap (λ (o : Outcome). o.number) e ∙ by_number _ _ _ W

      pub taken : eqb l.number 0 ≡ true → Taken W l.change l.count W₁
      unfolding step
      taken t =
          let z : number_of G rule further W l.change ≡ 0 = sym number_is ∙ eqb-true _ _ t in
          let q = e ∙ by_none _ _ _ W z in
          record { passed = number_none W l.change z; count = ap (λ (o : Outcome). o.count) q; left = ap (λ (o : Outcome). o.left) q }

      pub refused : eqb l.number 0 ≡ false → W₁ ≡ W
      unfolding step
      refused t = ap (λ (o : Outcome). o.left) (e ∙ by_one _ _ _ W (λ z. eqb-false _ _ t (number_is ∙ z)))
