-- 01's "Site network": the order, size and place of every word of the wiring and of every reading, by name.
-- Main definitions: `wire`, `reading`; `Few`, `WiringLaid` and `ReadingsLaid` say that the slices are so long. Assumes nothing.
use Rattle.std.specs.Prelude.{ℕ, ◌+◌, ◌≤◌, ◌≡◌, List, [], ◌∷◌, map, length, get_or, Float}
use Rattle.std.specs.Float.{nan}
use Rattle.sequence.specs.Layout.{total, start}
use Rattle.sequence.specs.Lists.{before}
use Rattle.network.specs.declared.Counts.{Counts}
use Rattle.network.specs.declared.Part.{Part}
use Rattle.network.specs.declared.Part.TheVariants.{BrFrom, BrTo, GenBus, Segments, References, GeneratorFlags, ThermalFlags, AngleFlags, Masks, FlowTerms, GenerationTerms}
use Rattle.network.specs.declared.Field.{Field}
use Rattle.network.specs.declared.Field.TheVariants.{BaseMva, Susceptance, Sw, Shift, FlowOffset, Fmax, Angmin, Angmax, Gmin, Gmax, Cq, Cl, Cc, CShed, Demand, ShuntConductance, HvdcInjection, Slopes, Intercepts, UpperMw, LowerMw}

-- ---- the wiring

-- n, m, k, R, S, q, T
abbrev pub counts_of : List ℕ → Counts
counts_of w =
    record {
      buses = get_or w 0 0;
      branches = get_or w 1 0;
      generators = get_or w 2 0;
      references = get_or w 3 0;
      segments = get_or w 4 0;
      rows = get_or w 5 0;
      terms = get_or w 6 0;
    }

-- then two words by themselves
abbrev pub allow_shed : List ℕ → ℕ
allow_shed w = get_or w 7 0

abbrev pub objective : List ℕ → ℕ
objective w = get_or w 8 0

-- then the parts, in this order
abbrev pub parts : List Part
parts =
    BrFrom ∷ BrTo ∷ GenBus ∷ Segments ∷ References ∷ GeneratorFlags ∷ ThermalFlags ∷ AngleFlags ∷ Masks ∷ FlowTerms ∷ GenerationTerms ∷ []

abbrev pub part_rank : Part → ℕ
part_rank BrFrom = 0
part_rank BrTo = 1
part_rank GenBus = 2
part_rank Segments = 3
part_rank References = 4
part_rank GeneratorFlags = 5
part_rank ThermalFlags = 6
part_rank AngleFlags = 7
part_rank Masks = 8
part_rank FlowTerms = 9
part_rank GenerationTerms = 10

abbrev pub part_size : Counts → Part → ℕ
part_size c BrFrom = c.branches
part_size c BrTo = c.branches
part_size c GenBus = c.generators
part_size c Segments = c.generators
part_size c References = c.references
part_size c GeneratorFlags = c.generators
part_size c ThermalFlags = c.branches
part_size c AngleFlags = c.branches
part_size c Masks = c.rows
part_size c FlowTerms = c.rows
part_size c GenerationTerms = c.rows

abbrev pub part_sizes : Counts → List ℕ
part_sizes c = map (part_size c) parts

-- 9 + 4m + 3k + R + 3q
abbrev pub wiring_length : Counts → ℕ
wiring_length c = 9 + total (part_sizes c)

unfoldable pub part_start : Counts → Part → ℕ
part_start c p = 9 + start (part_sizes c) (part_rank p)

-- word i of a part
unfoldable pub wire : Counts → List ℕ → Part → ℕ → ℕ
unfolding part_start
wire c w p i = get_or w (part_start c p + i) 0

-- ---- the readings

abbrev pub fields : List Field
fields =
    BaseMva ∷ Susceptance ∷ Sw ∷ Shift ∷ FlowOffset ∷ Fmax ∷ Angmin ∷ Angmax ∷ Gmin ∷ Gmax ∷ Cq ∷ Cl ∷ Cc ∷ CShed ∷ Demand ∷ ShuntConductance ∷ HvdcInjection ∷ Slopes ∷ Intercepts ∷ UpperMw ∷ LowerMw ∷ []

abbrev pub rank : Field → ℕ
rank BaseMva = 0
rank Susceptance = 1
rank Sw = 2
rank Shift = 3
rank FlowOffset = 4
rank Fmax = 5
rank Angmin = 6
rank Angmax = 7
rank Gmin = 8
rank Gmax = 9
rank Cq = 10
rank Cl = 11
rank Cc = 12
rank CShed = 13
rank Demand = 14
rank ShuntConductance = 15
rank HvdcInjection = 16
rank Slopes = 17
rank Intercepts = 18
rank UpperMw = 19
rank LowerMw = 20

abbrev pub size : Counts → Field → ℕ
size c BaseMva = 1
size c Susceptance = c.branches
size c Sw = c.branches
size c Shift = c.branches
size c FlowOffset = c.branches
size c Fmax = c.branches
size c Angmin = c.branches
size c Angmax = c.branches
size c Gmin = c.generators
size c Gmax = c.generators
size c Cq = c.generators
size c Cl = c.generators
size c Cc = c.generators
size c CShed = c.buses
size c Demand = c.buses
size c ShuntConductance = c.buses
size c HvdcInjection = c.buses
size c Slopes = c.segments
size c Intercepts = c.segments
size c UpperMw = c.rows
size c LowerMw = c.rows

abbrev pub sizes : Counts → List ℕ
sizes c = map (size c) fields

-- 1 + 7m + 5k + 4n + 2S + 2q
abbrev pub readings_length : Counts → ℕ
readings_length c = total (sizes c)

unfoldable pub field_start : Counts → Field → ℕ
field_start c f = start (sizes c) (rank f)

-- where reading i of a field stands
unfoldable pub place : Counts → Field → ℕ → ℕ
unfolding field_start
place c f i = field_start c f + i

unfoldable pub reading : Counts → List Float → Field → ℕ → Float
unfolding place
reading c r f i = get_or r (place c f i) nan

-- ---- where a generator's segments and a row's terms stand

abbrev pub segments_at : Counts → List ℕ → ℕ → ℕ
segments_at c w j = wire c w Segments j

unfoldable pub segment_start : Counts → List ℕ → ℕ → ℕ
segment_start c w j = before (segments_at c w) j

-- a row has its flow terms first, then its generation terms
abbrev pub row_terms : Counts → List ℕ → ℕ → ℕ
row_terms c w q = wire c w FlowTerms q + wire c w GenerationTerms q

unfoldable pub term_start : Counts → List ℕ → ℕ → ℕ
term_start c w q = before (row_terms c w) q

-- ---- slices that are as long as the counts say

-- "Most: n 256, m 512, k 256, R 16, S 1,024, q 64, T 1,024"
pub record Few (c : Counts) : Type 0 where
  pub buses : c.buses ≤ 256
  pub branches : c.branches ≤ 512
  pub generators : c.generators ≤ 256
  pub references : c.references ≤ 16
  pub segments : c.segments ≤ 1024
  pub rows : c.rows ≤ 64
  pub terms : c.terms ≤ 1024

pub record WiringLaid (c : Counts) (w : List ℕ) : Type 0 where
  pub few : Few c
  pub long : length w ≡ wiring_length c

pub record ReadingsLaid (c : Counts) (r : List Float) : Type 0 where
  pub few : Few c
  pub long : length r ≡ readings_length c
