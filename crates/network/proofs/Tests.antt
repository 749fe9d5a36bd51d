-- The tests of numbers 1 to 3, one by one, and what their passing says. Main result: `accepted`. Assumes nothing.
use mathlib.Core.Path.{◌≡◌, refl, ap, ◌∙◌}
use mathlib.Core.Bool.{Bool, true, false, ◌&&◌, and-true}
use mathlib.Core.List.{List}
use Prim.Native.Nat.{ℕ, zero, suc, ◌+◌, ◌*◌, ◌≤◌, ◌<◌}
use native.Mathlib.Omega.{arith}
use lib.Dec.{eqb, ltb, leb, lit<}
use lib.ListN.{length, get_or, take}
use lib.Seq.{take-suc}
use Rattle.std.specs.List.{list_all}
use Rattle.std.proofs.lemmas.List.Folds.{list_all-append}
use borrow.Author.Tests.{eq-eqb, ne_eqb, eqb-true, ltb-true, leb-true}
use Rattle.sequence.specs.Lists.{before, every}
use Rattle.sequence.specs.Answers.{first_of}
use Rattle.sequence.proofs.Lists.{and_left, and_right, every_at}
use Rattle.network.specs.declared.Counts.{Counts}
use Rattle.network.specs.declared.Part.TheVariants.{FlowTerms, GenerationTerms}
use Rattle.network.specs.declared.Part.{Part}
use Rattle.network.specs.Layout.{counts_of, allow_shed, objective, part_size, wiring_length, readings_length, wire, segments_at, row_terms, term_start, Few, WiringLaid, ReadingsLaid}
use Rattle.network.specs.Numbers.{Network, few, lengths_hold, sums_hold, sizes_hold, limited, limited_at, part_limit, part_holds, flow_terms_hold, generation_terms_hold, terms_hold, wiring_holds, readings_hold, network_tests, Accepted}

-- ---- lengths, as the code adds them up

module _ (c : Counts) (N : Network) where
  abbrev pub wiring_sum : ℕ
  wiring_sum = 9 + 4 * c.branches + 3 * c.generators + c.references + 3 * c.rows

  abbrev pub readings_sum : ℕ
  readings_sum = 1 + 7 * c.branches + 5 * c.generators + 4 * c.buses + 2 * c.segments + 2 * c.rows

  pub wiring_length_lem : length N.wiring ≡ wiring_sum → eqb (length N.wiring) (wiring_length c) ≡ true
  wiring_length_lem h = eq-eqb (length N.wiring) (wiring_length c) (omega arith)

  pub wiring_other : (length N.wiring ≡ wiring_sum → ⊥) → eqb (length N.wiring) (wiring_length c) ≡ false
  wiring_other h = ne_eqb (length N.wiring) (wiring_length c) (λ e. h (omega arith))

  pub readings_length_lem : length N.readings ≡ readings_sum → eqb (length N.readings) (readings_length c) ≡ true
  readings_length_lem h = eq-eqb (length N.readings) (readings_length c) (omega arith)

  pub readings_other : (length N.readings ≡ readings_sum → ⊥) → eqb (length N.readings) (readings_length c) ≡ false
  readings_other h = ne_eqb (length N.readings) (readings_length c) (λ e. h (omega arith))

-- ---- each of a list's first words

module _ {A : Type 0} (test : A → Bool) (xs : List A) (d : A) where
  pub all_first : (n : ℕ) → n ≤ length xs → list_all test (take n xs) ≡ every (λ t. test (get_or xs t d)) n
  unfolding every
  all_first zero h = refl
  all_first (suc n) h = ap (list_all test) (take-suc xs n d (omega arith)) ∙ rw (list_all-append, all_first n (omega arith), and-true)

-- ---- 1: what passing says

pub few_of : (c : Counts) → few c ≡ true → Few c
unfolding few
few_of c e =
    let r1 = and_right (leb c.buses 256) _ e in
    let r2 = and_right (leb c.branches 512) _ r1 in
    let r3 = and_right (leb c.generators 256) _ r2 in
    let r4 = and_right (leb c.references 16) _ r3 in
    let r5 = and_right (leb c.segments 1024) _ r4 in
    record {
      buses = leb-true _ _ (and_left (leb c.buses 256) _ e);
      branches = leb-true _ _ (and_left (leb c.branches 512) _ r1);
      generators = leb-true _ _ (and_left (leb c.generators 256) _ r2);
      references = leb-true _ _ (and_left (leb c.references 16) _ r3);
      segments = leb-true _ _ (and_left (leb c.segments 1024) _ r4);
      rows = leb-true _ _ (and_left (leb c.rows 64) _ r5);
      terms = leb-true _ _ (and_right (leb c.rows 64) _ r5);
    }

module _ (c : Counts) (N : Network) (e : lengths_hold c N ≡ true) where
  rest1 : eqb (length N.readings) (readings_length c) && (eqb (length N.indexes) c.terms && eqb (length N.coefficients) c.terms) ≡ true
  unfolding lengths_hold
  rest1 = and_right (eqb (length N.wiring) (wiring_length c)) _ e

  rest2 : eqb (length N.indexes) c.terms && eqb (length N.coefficients) c.terms ≡ true
  rest2 = and_right (eqb (length N.readings) (readings_length c)) _ rest1

  pub wiring_long : length N.wiring ≡ wiring_length c
  unfolding lengths_hold
  wiring_long = eqb-true _ _ (and_left (eqb (length N.wiring) (wiring_length c)) _ e)

  pub readings_long : length N.readings ≡ readings_length c
  readings_long = eqb-true _ _ (and_left (eqb (length N.readings) (readings_length c)) _ rest1)

  pub indexes_long : length N.indexes ≡ c.terms
  indexes_long = eqb-true _ _ (and_left (eqb (length N.indexes) c.terms) _ rest2)

  pub coefficients_long : length N.coefficients ≡ c.terms
  coefficients_long = eqb-true _ _ (and_right (eqb (length N.indexes) c.terms) _ rest2)

-- ---- 2: a row's terms, from the place where they begin

module _ (c : Counts) (w ti : List ℕ) (q : ℕ) {at flow : ℕ} (ea : at ≡ term_start c w q) (ef : flow ≡ wire c w FlowTerms q) where
  pub flow_fails : every (λ t. ltb (get_or ti (at + t) 0) c.branches) flow ≡ false → false ≡ flow_terms_hold c w ti q && generation_terms_hold c w ti q
  unfolding flow_terms_hold
  flow_fails h = rw (rw (ea, ef) at h)

  pub flow_holds : every (λ t. ltb (get_or ti (at + t) 0) c.branches) flow ≡ true → {generation : ℕ} → generation ≡ wire c w GenerationTerms q
      → every (λ t. ltb (get_or ti (at + flow + t) 0) c.generators) generation ≡ flow_terms_hold c w ti q && generation_terms_hold c w ti q
  unfolding flow_terms_hold generation_terms_hold
  flow_holds h eg = rw (rw (ea, ef) at h, ea, ef, eg)

-- ---- what the three numbers' conditions say, each where the ones before it hold

module _ (N : Network) (e : sizes_hold N ≡ true) where
  abbrev c : Counts
  c = counts_of N.wiring

  after_nine : few c && (lengths_hold c N && sums_hold c N.wiring) ≡ true
  unfolding sizes_hold
  after_nine = and_right (leb 9 (length N.wiring)) _ e

  after_few : lengths_hold c N && sums_hold c N.wiring ≡ true
  after_few = and_right (few c) _ after_nine

  pub sized_nine : 9 ≤ length N.wiring
  unfolding sizes_hold
  sized_nine = leb-true _ _ (and_left (leb 9 (length N.wiring)) _ e)

  pub sized_few : Few c
  sized_few = few_of c (and_left (few c) _ after_nine)

  sized_lengths : lengths_hold c N ≡ true
  sized_lengths = and_left (lengths_hold c N) _ after_few

  sized_sums : sums_hold c N.wiring ≡ true
  sized_sums = and_right (lengths_hold c N) _ after_few

  pub sized_wiring : WiringLaid c N.wiring
  sized_wiring = record { few = sized_few; long = wiring_long c N sized_lengths }

  pub sized_readings : ReadingsLaid c N.readings
  sized_readings = record { few = sized_few; long = readings_long c N sized_lengths }

  pub sized_segments : before (segments_at c N.wiring) c.generators ≡ c.segments
  unfolding sums_hold
  sized_segments = eqb-true _ _ (and_left (eqb (before (segments_at c N.wiring) c.generators) c.segments) _ sized_sums)

  pub sized_terms : before (row_terms c N.wiring) c.rows ≡ c.terms
  unfolding sums_hold
  sized_terms = eqb-true _ _ (and_right (eqb (before (segments_at c N.wiring) c.generators) c.segments) _ sized_sums)

  pub sized_indexes : length N.indexes ≡ c.terms
  sized_indexes = indexes_long c N sized_lengths

  pub sized_coefficients : length N.coefficients ≡ c.terms
  sized_coefficients = coefficients_long c N sized_lengths

-- each word of a part with a limit is below it
part_at : (c : Counts) (w : List ℕ) (p : Part) → part_holds c w p ≡ true → (i : ℕ) → i < part_size c p → wire c w p i < part_limit c p
unfolding part_holds
part_at c w p e i h = ltb-true _ _ (every_at (λ i. ltb (wire c w p i) (part_limit c p)) (part_size c p) e i h)

module _ (c : Counts) (w ti : List ℕ) (e : wiring_holds c w ti ≡ true) where
  after_shed : ltb (objective w) 3 && (every (λ k. part_holds c w (limited_at k)) (length limited) && terms_hold c w ti) ≡ true
  unfolding wiring_holds
  after_shed = and_right (ltb (allow_shed w) 2) _ e

  after_objective : every (λ k. part_holds c w (limited_at k)) (length limited) && terms_hold c w ti ≡ true
  after_objective = and_right (ltb (objective w) 3) _ after_shed

  pub wired_part : (k : ℕ) → k < 8 → (i : ℕ) → i < part_size c (limited_at k) → wire c w (limited_at k) i < part_limit c (limited_at k)
  wired_part k h = part_at c w (limited_at k) (every_at (λ k. part_holds c w (limited_at k)) 8 (and_left (every (λ k. part_holds c w (limited_at k)) (length limited)) _ after_objective) k h)

  row_terms_hold : (q : ℕ) → q < c.rows → flow_terms_hold c w ti q && generation_terms_hold c w ti q ≡ true
  unfolding terms_hold
  row_terms_hold q h =
      every_at (λ q. flow_terms_hold c w ti q && generation_terms_hold c w ti q) c.rows (and_right (every (λ k. part_holds c w (limited_at k)) (length limited)) _ after_objective) q h

  pub wired_flow : (q t : ℕ) → q < c.rows → t < wire c w FlowTerms q → get_or ti (term_start c w q + t) 0 < c.branches
  unfolding flow_terms_hold
  wired_flow q t h g =
      ltb-true _ _ (every_at (λ t. ltb (get_or ti (term_start c w q + t) 0) c.branches) (wire c w FlowTerms q) (and_left (flow_terms_hold c w ti q) _ (row_terms_hold q h)) t g)

  pub wired_generation : (q t : ℕ) → q < c.rows → t < wire c w GenerationTerms q → get_or ti (term_start c w q + wire c w FlowTerms q + t) 0 < c.generators
  unfolding generation_terms_hold
  wired_generation q t h g =
      ltb-true _ _ (every_at (λ t. ltb (get_or ti (term_start c w q + wire c w FlowTerms q + t) 0) c.generators) (wire c w GenerationTerms q) (and_right (flow_terms_hold c w ti q) _ (row_terms_hold q h)) t g)

-- a network that passes the three tests is accepted
pub accepted : (N : Network) → sizes_hold N ≡ true → wiring_holds (counts_of N.wiring) N.wiring N.indexes ≡ true → readings_hold (counts_of N.wiring) N ≡ true → Accepted N (counts_of N.wiring)
accepted N s w r =
    let c = counts_of N.wiring in
    let part = wired_part c N.wiring N.indexes w in
    record {
      counts = refl;
      wired = record {
        laid = sized_wiring N s;
        segments_sum = sized_segments N s;
        terms_sum = sized_terms N s;
        froms = part 0 (lit< tt);
        tos = part 1 (lit< tt);
        gen_buses = part 2 (lit< tt);
        references = part 3 (lit< tt);
        masks = part 7 (lit< tt);
      };
      read = sized_readings N s;
      termed = record {
        indexes_long = sized_indexes N s;
        coefficients_long = sized_coefficients N s;
        flow_terms = wired_flow c N.wiring N.indexes w;
        generation_terms = wired_generation c N.wiring N.indexes w;
      };
      readings_pass = r;
    }

-- the number that the tests give, and the acceptance that none says
module _ (N : Network) (sizes values : Bool) where
  pub number_size : sizes_hold N ≡ false → 1 ≡ first_of (network_tests N sizes values)
  unfolding first_of
  number_size h = rw h

  pub number_own_size : sizes_hold N ≡ true → sizes ≡ false → 1 ≡ first_of (network_tests N sizes values)
  unfolding first_of
  number_own_size h s = rw (h, s)

  module _ {c : Counts} (e : c ≡ counts_of N.wiring) (h : sizes_hold N ≡ true) (s : sizes ≡ true) where
    pub number_wiring : wiring_holds c N.wiring N.indexes ≡ false → 2 ≡ first_of (network_tests N sizes values)
    unfolding first_of
    number_wiring w = rw (h, s, rw e at w)

    pub number_reading : wiring_holds c N.wiring N.indexes ≡ true → readings_hold c N ≡ false → 3 ≡ first_of (network_tests N sizes values)
    unfolding first_of
    number_reading w r = rw (h, s, rw e at w, rw e at r)

    pub number_own_reading : wiring_holds c N.wiring N.indexes ≡ true → readings_hold c N ≡ true → values ≡ false → 3 ≡ first_of (network_tests N sizes values)
    unfolding first_of
    number_own_reading w r v = rw (h, s, rw e at w, rw e at r, v)

    pub number_none : wiring_holds c N.wiring N.indexes ≡ true → readings_hold c N ≡ true → values ≡ true
        → (0 ≡ first_of (network_tests N sizes values)) × Accepted N (counts_of N.wiring)
    unfolding first_of
    number_none w r v = (rw (h, s, rw e at w, rw e at r, v), accepted N h (rw e at w) (rw e at r))
