-- Places of words and readings: each lies in its slice, and two readings are apart.
-- Main results: `part_inside`, `field_inside`, `places_apart`. Assumes nothing.
use mathlib.Core.Path.{◌≡◌, refl, sym, ap, ◌∙◌}
use Prim.Native.Nat.{ℕ, ◌+◌, ◌≤◌, ◌<◌}
use native.Mathlib.Omega.{arith}
use lib.ListN.{get_or}
use Rattle.sequence.proofs.Blocks.{inside, one_place}
use Rattle.network.specs.declared.Counts.{Counts}
use Rattle.network.specs.declared.Part.{Part}
use Rattle.network.specs.declared.Part.TheVariants.{BrFrom, BrTo, GenBus, Segments, References, GeneratorFlags, ThermalFlags, AngleFlags, Masks, FlowTerms, GenerationTerms}
use Rattle.network.specs.declared.Field.{Field}
use Rattle.network.specs.declared.Field.TheVariants.{BaseMva, Susceptance, Sw, Shift, FlowOffset, Fmax, Angmin, Angmax, Gmin, Gmax, Cq, Cl, Cc, CShed, Demand, ShuntConductance, HvdcInjection, Slopes, Intercepts, UpperMw, LowerMw}
use Rattle.network.specs.Layout.{part_rank, part_size, part_sizes, wiring_length, part_start, fields, rank, size, sizes, readings_length, field_start, place}

part_size_lem : (c : Counts) (p : Part) → get_or (part_sizes c) (part_rank p) 0 ≡ part_size c p
part_size_lem c BrFrom = refl
part_size_lem c BrTo = refl
part_size_lem c GenBus = refl
part_size_lem c Segments = refl
part_size_lem c References = refl
part_size_lem c GeneratorFlags = refl
part_size_lem c ThermalFlags = refl
part_size_lem c AngleFlags = refl
part_size_lem c Masks = refl
part_size_lem c FlowTerms = refl
part_size_lem c GenerationTerms = refl

pub part_inside : (c : Counts) (p : Part) → part_start c p + part_size c p ≤ wiring_length c
unfolding part_start
part_inside c p = omega (arith, inside (part_sizes c) (part_rank p), part_size_lem c p)

field_size : (c : Counts) (f : Field) → get_or (sizes c) (rank f) 0 ≡ size c f
field_size c BaseMva = refl
field_size c Susceptance = refl
field_size c Sw = refl
field_size c Shift = refl
field_size c FlowOffset = refl
field_size c Fmax = refl
field_size c Angmin = refl
field_size c Angmax = refl
field_size c Gmin = refl
field_size c Gmax = refl
field_size c Cq = refl
field_size c Cl = refl
field_size c Cc = refl
field_size c CShed = refl
field_size c Demand = refl
field_size c ShuntConductance = refl
field_size c HvdcInjection = refl
field_size c Slopes = refl
field_size c Intercepts = refl
field_size c UpperMw = refl
field_size c LowerMw = refl

-- the field of a rank
pub field_of_rank : (f : Field) → get_or fields (rank f) BaseMva ≡ f
field_of_rank BaseMva = refl
field_of_rank Susceptance = refl
field_of_rank Sw = refl
field_of_rank Shift = refl
field_of_rank FlowOffset = refl
field_of_rank Fmax = refl
field_of_rank Angmin = refl
field_of_rank Angmax = refl
field_of_rank Gmin = refl
field_of_rank Gmax = refl
field_of_rank Cq = refl
field_of_rank Cl = refl
field_of_rank Cc = refl
field_of_rank CShed = refl
field_of_rank Demand = refl
field_of_rank ShuntConductance = refl
field_of_rank HvdcInjection = refl
field_of_rank Slopes = refl
field_of_rank Intercepts = refl
field_of_rank UpperMw = refl
field_of_rank LowerMw = refl

pub field_inside : (c : Counts) (f : Field) → field_start c f + size c f ≤ readings_length c
unfolding field_start
field_inside c f = omega (arith, inside (sizes c) (rank f), field_size c f)

-- two readings at one place are one reading: of one field, at one index
pub places_apart : (c : Counts) (f g : Field) (i j : ℕ) → i < size c f → j < size c g → place c f i ≡ place c g j → (f ≡ g) × (i ≡ j)
unfolding place field_start
places_apart c f g i j hi hj e =
    let p = one_place (sizes c) (rank f) (rank g) i j (omega (arith, field_size c f)) (omega (arith, field_size c g)) e in
    (sym (field_of_rank f) ∙ ap (λ (k : ℕ). get_or fields k BaseMva) p.0 ∙ field_of_rank g, p.1)
