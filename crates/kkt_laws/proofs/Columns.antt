-- How many triplets the columns of the angles and of the balances give, those of the generators' segments, and the linear rows.
-- Main results: `va_le`, `nu_bal_le`, `pg_le`, `segments_le`, `rows_le`. Assumes nothing.
use mathlib.Core.Path.{◌≡◌, refl}
use mathlib.Core.Bool.{Bool, true, false, ◌&&◌}
use mathlib.Core.List.{List, [], ◌∷◌, ◌++◌}
use Prim.Native.Nat.{ℕ, ◌+◌, ◌*◌, ◌≤◌}
use native.Mathlib.Omega.{arith}
use lib.ListN.{length}
use lib.Dec.{eqb}
use lib.Ieee.{Float, eq, neg, of_bits}
use Rattle.float64.specs.Values.{nought}
use Rattle.sequence.specs.Lists.{before, some, each, when}
use Rattle.network.specs.declared.Counts.{Counts}
use Rattle.network.specs.declared.Field.{Field}
use Rattle.network.specs.declared.Part.TheVariants.{BrFrom, BrTo, GenBus, References, FlowTerms, GenerationTerms}
use Rattle.network.specs.Layout.{wire, segments_at, row_terms, segment_start, term_start}
use Rattle.solution.specs.declared.Entry.{Entry}
use Rattle.solution.specs.Sheet.{piece_rank}
use Rattle.kkt_index.specs.declared.Block.{Block}
use Rattle.kkt_index.specs.declared.Block.TheVariants.{Va, Pg, Flow, Psh, NuBal, Eta}
use Rattle.kkt_index.specs.Index.{Shape}
use Rattle.kkt_index.specs.Index.Shape.{free, upper_only, lower_only, two_sided, equality}
use Rattle.snapping.specs.Expr.{eval, unit, less_unit}
use Rattle.snapping.specs.Expr.Expr.{minus}
use Rattle.kkt.specs.declared.Side.{Side}
use Rattle.kkt.specs.declared.Side.TheVariants.{Above, Below, Level}
use Rattle.kkt.specs.Slots.{Slot, slot, Rule, balance, end_slots, incident, admits, reference_slot, va_column, nu_bal_column, pg_own, pg_segment, segments_of, term_pair, diagonal, term_slots, side_slots, row_slots}
use Rattle.kkt_laws.proofs.Sums.{bit, sum_add, sum_times, sum_const, spread}
use Rattle.kkt_laws.proofs.Counted.{listed, count, count_append, count_one, count_le, count_when, each_le, turns_le}
use Rattle.kkt_laws.proofs.Balances.{balance_le}

none_dead : eq nought nought ≡ true
unfolding eq of_bits
none_dead = refl

less_dead : eq (neg nought) nought ≡ true
unfolding eq neg of_bits
less_dead = refl

module _ (start : Block → ℕ) (R : Field → ℕ → Float) (S : Entry → ℕ → Float) (c : Counts) (w : List ℕ) where
  abbrev counted : List Slot → ℕ
  counted ss = count start R S ss

  -- one slot a turn
  singles : (n : ℕ) (f : ℕ → Slot) → counted (each n (λ i. f i ∷ [])) ≤ before (λ i. listed (eval R S (f i).what)) n
  singles n f = each_le start R S n (λ i. f i ∷ []) (λ i. listed (eval R S (f i).what)) (λ i l. omega (arith, count_one start R S (f i) [], count_le start R S []))

  -- ---- the angles

  incident_le : (j e : ℕ) → counted (incident c w j e) ≤ 3 * bit (eqb (wire c w BrFrom e) j) + 3 * bit (eqb (wire c w BrTo e) j)
  incident_le j e =
      omega (
        arith,
        count_append start R S (when (eqb (wire c w BrFrom e) j) (end_slots c w j unit e)) (when (eqb (wire c w BrTo e) j) (end_slots c w j less_unit e)),
        count_when start R S (eqb (wire c w BrFrom e) j) (end_slots c w j unit e),
        count_when start R S (eqb (wire c w BrTo e) j) (end_slots c w j less_unit e),
      )

  abbrev ends : ℕ → ℕ
  ends j = 3 * before (λ e. bit (eqb (wire c w BrFrom e) j)) c.branches + 3 * before (λ e. bit (eqb (wire c w BrTo e) j)) c.branches

  incidents_le : (j : ℕ) → counted (each c.branches (incident c w j)) ≤ ends j
  incidents_le j =
      omega (
        arith,
        each_le start R S c.branches (incident c w j) (λ e. 3 * bit (eqb (wire c w BrFrom e) j) + 3 * bit (eqb (wire c w BrTo e) j)) (λ e l. incident_le j e),
        sum_add c.branches (λ e. 3 * bit (eqb (wire c w BrFrom e) j)) (λ e. 3 * bit (eqb (wire c w BrTo e) j)),
        sum_times c.branches 3 (λ e. bit (eqb (wire c w BrFrom e) j)),
        sum_times c.branches 3 (λ e. bit (eqb (wire c w BrTo e) j)),
      )

  ends_le : before ends c.buses ≤ 6 * c.branches
  ends_le =
      omega (
        arith,
        sum_add c.buses (λ j. 3 * before (λ e. bit (eqb (wire c w BrFrom e) j)) c.branches) (λ j. 3 * before (λ e. bit (eqb (wire c w BrTo e) j)) c.branches),
        sum_times c.buses 3 (λ j. before (λ e. bit (eqb (wire c w BrFrom e) j)) c.branches),
        sum_times c.buses 3 (λ j. before (λ e. bit (eqb (wire c w BrTo e) j)) c.branches),
        spread c.buses c.branches (wire c w BrFrom),
        spread c.buses c.branches (wire c w BrTo),
      )

  -- either rule lists a place in its own bus's column only
  abbrev places : ℕ → ℕ
  places j = before (λ k. bit (eqb (wire c w References k) j)) c.references

  references_le : (rule : Rule) (j : ℕ) → counted (each c.references (reference_slot rule c w j)) ≤ places j
  unfolding reference_slot
  references_le rule j = each_le start R S c.references (reference_slot rule c w j) (λ k. bit (eqb (wire c w References k) j)) (λ k l. one k)
    where
      less : (p q : Bool) → bit (p && q) ≤ bit p
      less true true = omega arith
      less true false = omega arith
      less false q = omega arith

      one : (k : ℕ) → counted (when (eqb (wire c w References k) j && admits rule (some (λ i. eqb (wire c w References i) j) k)) (slot (Eta, k) (Va, j) unit ∷ [])) ≤ bit (eqb (wire c w References k) j)
      one k =
          omega (
            arith,
            count_when start R S (eqb (wire c w References k) j && admits rule (some (λ i. eqb (wire c w References i) j) k)) (slot (Eta, k) (Va, j) unit ∷ []),
            less (eqb (wire c w References k) j) (admits rule (some (λ i. eqb (wire c w References i) j) k)),
          )

  abbrev from_below : ℕ → ℕ → Slot
  from_below j i = slot (NuBal, i) (Va, j) (minus (balance c w i j))

  abbrev sums : ℕ → ℕ
  sums j = before (λ i. listed (neg (eval R S (balance c w i j)))) c.buses

  va_column_lem : (rule : Rule) (j : ℕ) → counted (va_column rule c w j) ≤ ends j + (sums j + places j)
  va_column_lem rule j =
      omega (
        arith,
        count_append start R S (each c.branches (incident c w j)) (each c.buses (λ i. from_below j i ∷ []) ++ each c.references (reference_slot rule c w j)),
        count_append start R S (each c.buses (λ i. from_below j i ∷ [])) (each c.references (reference_slot rule c w j)),
        incidents_le j,
        singles c.buses (from_below j),
        references_le rule j,
      )

  pub va_le : (rule : Rule) → counted (each c.buses (va_column rule c w)) ≤ 8 * c.branches + c.buses + c.references
  va_le rule =
      omega (
        arith,
        each_le start R S c.buses (va_column rule c w) (λ j. ends j + (sums j + places j)) (λ j l. va_column_lem rule j),
        sum_add c.buses ends (λ j. sums j + places j),
        sum_add c.buses sums places,
        ends_le,
        balance_le c w (λ x. neg (eval R S x)) less_dead,
        spread c.buses c.references (wire c w References),
      )

  -- ---- the balances

  abbrev own : ℕ → ℕ → List Slot
  own i j = when (eqb (wire c w GenBus j) i) (slot (Pg, j) (NuBal, i) less_unit ∷ [])

  abbrev generators : ℕ → ℕ
  generators i = before (λ j. bit (eqb (wire c w GenBus j) i)) c.generators

  generators_le : (i : ℕ) → counted (each c.generators (own i)) ≤ generators i
  generators_le i =
      each_le start R S c.generators (own i) (λ j. bit (eqb (wire c w GenBus j) i))
      (λ j l. omega (arith, count_when start R S (eqb (wire c w GenBus j) i) (slot (Pg, j) (NuBal, i) less_unit ∷ [])))

  abbrev from_above : ℕ → ℕ → Slot
  from_above i r = slot (Va, r) (NuBal, i) (balance c w r i)

  abbrev plain_sums : ℕ → ℕ
  plain_sums i = before (λ r. listed (eval R S (balance c w r i))) c.buses

  nu_bal_column_lem : (i : ℕ) → counted (nu_bal_column c w i) ≤ plain_sums i + (generators i + 1)
  nu_bal_column_lem i =
      omega (
        arith,
        count_append start R S (each c.buses (λ r. from_above i r ∷ [])) (each c.generators (own i) ++ slot (Psh, i) (NuBal, i) less_unit ∷ []),
        count_append start R S (each c.generators (own i)) (slot (Psh, i) (NuBal, i) less_unit ∷ []),
        singles c.buses (from_above i),
        generators_le i,
        count_le start R S (slot (Psh, i) (NuBal, i) less_unit ∷ []),
      )

  pub nu_bal_le : counted (each c.buses (nu_bal_column c w)) ≤ 2 * c.buses + 2 * c.branches + c.generators
  nu_bal_le =
      omega (
        arith,
        each_le start R S c.buses (nu_bal_column c w) (λ i. plain_sums i + (generators i + 1)) (λ i l. nu_bal_column_lem i),
        sum_add c.buses plain_sums (λ i. generators i + 1),
        sum_add c.buses generators (λ i. 1),
        sum_const c.buses 1,
        balance_le c w (λ x. eval R S x) none_dead,
        spread c.buses c.generators (wire c w GenBus),
      )

  -- ---- the generators' segments, of so many slots each

  abbrev segment_sum : ℕ
  segment_sum = before (segments_at c w) c.generators

  run_le : (a : ℕ) (f : ℕ → ℕ → ℕ → List Slot) → ((j g t : ℕ) → length (f j g t) ≡ a) → (j : ℕ) → counted (segments_of c w f j) ≤ a * segments_at c w j
  run_le a f h j = turns_le start R S (segments_at c w j) a (λ t. f j (piece_rank c w j) (segment_start c w j + t)) (λ t. h j (piece_rank c w j) (segment_start c w j + t))

  pub segments_le : (a : ℕ) (f : ℕ → ℕ → ℕ → List Slot) → ((j g t : ℕ) → length (f j g t) ≡ a) → counted (each c.generators (segments_of c w f)) ≤ a * segment_sum
  segments_le a f h =
      omega (
        arith,
        each_le start R S c.generators (segments_of c w f) (λ j. a * segments_at c w j) (λ j l. run_le a f h j),
        sum_times c.generators a (segments_at c w),
      )

  pub pg_le : counted (each c.generators (λ j. pg_own c w j ++ segments_of c w pg_segment j)) ≤ 4 * c.generators + segment_sum
  pg_le =
      omega (
        arith,
        each_le start R S c.generators (λ j. pg_own c w j ++ segments_of c w pg_segment j) (λ j. 4 + segments_at c w j)
            (λ j l. omega (
              arith,
              count_append start R S (pg_own c w j) (segments_of c w pg_segment j),
              count_le start R S (pg_own c w j),
              run_le 1 pg_segment (λ j g t. refl) j,
            )),
        sum_add c.generators (λ j. 4) (segments_at c w),
        sum_const c.generators 4,
      )

  -- ---- the linear rows

  module _ (ti : List ℕ) (tc : List Float) where
    terms_le : (s : Side) (q x : ℕ) → counted (term_slots c w ti tc s q x) ≤ 2 * row_terms c w q
    terms_le s q x =
        omega (
          arith,
          count_append start R S (each (wire c w FlowTerms q) (λ t. term_pair c w ti tc s q x Flow (term_start c w q + t))) (each (wire c w GenerationTerms q) (λ t. term_pair c w ti tc s q x Pg (term_start c w q + wire c w FlowTerms q + t))),
          turns_le start R S (wire c w FlowTerms q) 2 (λ t. term_pair c w ti tc s q x Flow (term_start c w q + t)) (λ t. refl),
          turns_le start R S (wire c w GenerationTerms q) 2 (λ t. term_pair c w ti tc s q x Pg (term_start c w q + wire c w FlowTerms q + t)) (λ t. refl),
        )

    diagonal_le : (s : Side) (q x : ℕ) → length (diagonal c w ti tc s q x) ≤ 1
    diagonal_le Above q x = omega arith
    diagonal_le Below q x = omega arith
    diagonal_le Level q x = omega arith

    side_le : (s : Side) (q x : ℕ) → counted (side_slots c w ti tc s q x) ≤ 2 * row_terms c w q + 1
    side_le s q x =
        omega (
          arith,
          count_append start R S (term_slots c w ti tc s q x) (diagonal c w ti tc s q x),
          terms_le s q x,
          count_le start R S (diagonal c w ti tc s q x),
          diagonal_le s q x,
        )

    row_le : (k : Shape) (q x : ℕ) → counted (row_slots c w ti tc k q x) ≤ 4 * row_terms c w q + 2
    row_le free q x = omega (arith, count_le start R S [])
    row_le upper_only q x = omega (arith, side_le Above q x)
    row_le lower_only q x = omega (arith, side_le Below q x)
    row_le two_sided q x = omega (arith, count_append start R S (side_slots c w ti tc Above q x) (side_slots c w ti tc Below q (x + 1)), side_le Above q x, side_le Below q (x + 1))
    row_le equality q x = omega (arith, side_le Level q x)

    pub rows_le : (shapes : ℕ → Shape) (at : ℕ → ℕ) → counted (each c.rows (λ q. row_slots c w ti tc (shapes q) q (at q))) ≤ 4 * before (row_terms c w) c.rows + 2 * c.rows
    rows_le shapes at =
        omega (
          arith,
          each_le start R S c.rows (λ q. row_slots c w ti tc (shapes q) q (at q)) (λ q. 4 * row_terms c w q + 2) (λ q l. row_le (shapes q) q (at q)),
          sum_add c.rows (λ q. 4 * row_terms c w q) (λ q. 2),
          sum_times c.rows 4 (row_terms c w),
          sum_const c.rows 2,
        )
