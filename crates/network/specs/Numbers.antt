-- 01's "Answers by number", rows 1 to 3, for a network, and what an accepted network is.
-- Main definitions: `network_tests`, `network_number`, `Accepted`. Assumes nothing.
use Rattle.std.specs.Prelude.{ℕ, ◌+◌, ◌<◌, ◌≡◌, Bool, true, cond, not, ◌&&◌, List, [], ◌∷◌, length, get_or, eqb, ltb, leb, Float}
use Rattle.std.specs.Float.{nan}
use Rattle.std.specs.Borrow.{Bor}
use Rattle.float64.specs.Values.{within, in_range, raw_limit, base_low, base_high}
use Rattle.sequence.specs.Lists.{before, every}
use Rattle.sequence.specs.Answers.{Test, test, first_of}
use Rattle.network.specs.declared.Counts.{Counts}
use Rattle.network.specs.declared.Part.{Part}
use Rattle.network.specs.declared.Part.TheVariants.{BrFrom, BrTo, GenBus, Segments, References, GeneratorFlags, ThermalFlags, AngleFlags, Masks, FlowTerms, GenerationTerms}
use Rattle.network.specs.declared.Field.{Field}
use Rattle.network.specs.declared.Field.TheVariants.{BaseMva}
use Rattle.network.specs.Layout.{counts_of, allow_shed, objective, part_size, wiring_length, wire, fields, rank, size, readings_length, reading, segments_at, row_terms, term_start, WiringLaid, ReadingsLaid}

-- what a call is lent of a network
pub record Network : Type 0 where
  pub wiring : List ℕ
  pub readings : List Float
  pub indexes : List ℕ
  pub coefficients : List Float

-- the network behind four references
abbrev pub lent : Bor (List ℕ) → Bor (List Float) → Bor (List ℕ) → Bor (List Float) → Network
lent w r i k = record { wiring = w.now; readings = r.now; indexes = i.now; coefficients = k.now }

-- ---- 1: size

-- no count is above its limit
unfoldable pub few : Counts → Bool
few c =
    leb c.buses 256 && (leb c.branches 512 && (leb c.generators 256 && (leb c.references 16 && (leb c.segments 1024 && (leb c.rows 64 && leb c.terms 1024)))))

-- the input slices have the lengths that the counts give
unfoldable pub lengths_hold : Counts → Network → Bool
lengths_hold c N =
    eqb (length N.wiring) (wiring_length c) && (eqb (length N.readings) (readings_length c) && (eqb (length N.indexes) c.terms && eqb (length N.coefficients) c.terms))

-- segments sum to S, and term counts to T
unfoldable pub sums_hold : Counts → List ℕ → Bool
sums_hold c w = eqb (before (segments_at c w) c.generators) c.segments && eqb (before (row_terms c w) c.rows) c.terms

unfoldable pub sizes_hold : Network → Bool
sizes_hold N =
    leb 9 (length N.wiring) && (few (counts_of N.wiring) && (lengths_hold (counts_of N.wiring) N && sums_hold (counts_of N.wiring) N.wiring))

-- ---- 2: wiring

-- the parts whose words have a limit: an index is below its count, a flag is 0 or 1, a mask 0 to 3
abbrev pub limited : List Part
limited = BrFrom ∷ BrTo ∷ GenBus ∷ References ∷ GeneratorFlags ∷ ThermalFlags ∷ AngleFlags ∷ Masks ∷ []

abbrev pub limited_at : ℕ → Part
limited_at k = get_or limited k BrFrom

-- what a word of a limited part is below; the other parts, whose 0 here nothing reads, are tested by their sums
abbrev pub part_limit : Counts → Part → ℕ
part_limit c BrFrom = c.buses
part_limit c BrTo = c.buses
part_limit c GenBus = c.buses
part_limit c Segments = 0
part_limit c References = c.buses
part_limit c GeneratorFlags = 2
part_limit c ThermalFlags = 2
part_limit c AngleFlags = 2
part_limit c Masks = 4
part_limit c FlowTerms = 0
part_limit c GenerationTerms = 0

unfoldable pub part_holds : Counts → List ℕ → Part → Bool
part_holds c w p = every (λ i. ltb (wire c w p i) (part_limit c p)) (part_size c p)

-- a row's flow terms name branches, and its generation terms generators
unfoldable pub flow_terms_hold : Counts → List ℕ → List ℕ → ℕ → Bool
flow_terms_hold c w ti q = every (λ t. ltb (get_or ti (term_start c w q + t) 0) c.branches) (wire c w FlowTerms q)

unfoldable pub generation_terms_hold : Counts → List ℕ → List ℕ → ℕ → Bool
generation_terms_hold c w ti q =
    every (λ t. ltb (get_or ti (term_start c w q + wire c w FlowTerms q + t) 0) c.generators) (wire c w GenerationTerms q)

unfoldable pub terms_hold : Counts → List ℕ → List ℕ → Bool
terms_hold c w ti = every (λ q. flow_terms_hold c w ti q && generation_terms_hold c w ti q) c.rows

unfoldable pub wiring_holds : Counts → List ℕ → List ℕ → Bool
wiring_holds c w ti =
    ltb (allow_shed w) 2 && (ltb (objective w) 3 && (every (λ k. part_holds c w (limited_at k)) (length limited) && terms_hold c w ti))

-- ---- 3: reading

-- base_mva, the first field, from 0.001 to 10^6; every other reading finite and of magnitude at most 10^12
unfoldable pub in_rank : ℕ → Float → Bool
in_rank k x = cond (eqb k (rank BaseMva)) (in_range base_low base_high x) (within raw_limit x)

abbrev pub field_at : ℕ → Field
field_at k = get_or fields k BaseMva

unfoldable pub field_holds : Counts → List Float → ℕ → Bool
field_holds c r k = every (λ i. in_rank k (reading c r (field_at k) i)) (size c (field_at k))

-- each of a slice's words is finite and of magnitude at most a limit
unfoldable pub all_within : Float → List Float → Bool
all_within limit xs = every (λ i. within limit (get_or xs i nan)) (length xs)

unfoldable pub readings_hold : Counts → Network → Bool
readings_hold c N = every (field_holds c N.readings) (length fields) && all_within raw_limit N.coefficients

-- ---- the ordered tests

-- a call's own sizes and values are tested with the network's: `sizes` and `values` say whether they hold
abbrev pub network_tests : Network → Bool → Bool → List Test
network_tests N sizes values =
    test 1 (not (sizes_hold N && sizes)) ∷ test 2 (not (wiring_holds (counts_of N.wiring) N.wiring N.indexes)) ∷ test 3 (not (readings_hold (counts_of N.wiring) N && values)) ∷ []

unfoldable pub network_number : Network → ℕ
network_number N = first_of (network_tests N true true)

-- ---- an accepted network: what 0 says of the slices

-- the wiring's lengths, sums and indexes are as its counts say
pub record Wired (c : Counts) (w : List ℕ) : Type 0 where
  pub laid : WiringLaid c w
  pub segments_sum : before (segments_at c w) c.generators ≡ c.segments
  pub terms_sum : before (row_terms c w) c.rows ≡ c.terms
  pub froms : (e : ℕ) → e < c.branches → wire c w BrFrom e < c.buses
  pub tos : (e : ℕ) → e < c.branches → wire c w BrTo e < c.buses
  pub gen_buses : (j : ℕ) → j < c.generators → wire c w GenBus j < c.buses
  pub references : (i : ℕ) → i < c.references → wire c w References i < c.buses
  pub masks : (q : ℕ) → q < c.rows → wire c w Masks q < 4

-- the terms are as many, and name branches and generators
pub record Termed (c : Counts) (w ti : List ℕ) (tc : List Float) : Type 0 where
  pub indexes_long : length ti ≡ c.terms
  pub coefficients_long : length tc ≡ c.terms
  pub flow_terms : (q t : ℕ) → q < c.rows → t < wire c w FlowTerms q → get_or ti (term_start c w q + t) 0 < c.branches
  pub generation_terms : (q t : ℕ) → q < c.rows → t < wire c w GenerationTerms q → get_or ti (term_start c w q + wire c w FlowTerms q + t) 0 < c.generators

pub record Accepted (N : Network) (c : Counts) : Type 0 where
  pub counts : c ≡ counts_of N.wiring
  pub wired : Wired c N.wiring
  pub read : ReadingsLaid c N.readings
  pub termed : Termed c N.wiring N.indexes N.coefficients
  pub readings_pass : readings_hold c N ≡ true
