-- The nodal marginal values, bus by bus: a bus's value, and where all of them stand.
-- Main results: `nodal`, `nodal_long`, `part_front`. Assumes nothing.
use mathlib.Core.Path.{◌≡◌}
use mathlib.Core.List.{List, ◌++◌}
use Prim.Native.Nat.{ℕ, ◌≤◌}
use lib.ListN.{length, take, drop}
use lib.Ieee.{Float, binary64, div}
use Rattle.std.proofs.lemmas.List.{length-take-le}
use Rattle.sequence.specs.Lists.{made, front}
use Rattle.sequence.proofs.Lists.{made_length}
use Rattle.network.specs.declared.Counts.{Counts}
use Rattle.network.specs.declared.Field.TheVariants.{BaseMva}
use Rattle.network.specs.Layout.{reading}
use Rattle.solution.specs.declared.Entry.TheVariants.{NuBal}
use Rattle.solution.specs.Sheet.{solved}
use Rattle.opf_readback.specs.Readback.{nodal_sheet}

-- bus i's value
abbrev pub nodal : Counts → ℕ → List Float → List Float → ℕ → Float
nodal c p r s i = div binary64 (solved c p s NuBal i) (reading c r BaseMva 0)

-- one for each bus
pub nodal_long : (c : Counts) (w : List ℕ) (r s : List Float) → length (nodal_sheet c w r s) ≡ c.buses
unfolding nodal_sheet
nodal_long c w r s = made_length _ c.buses

-- a sheet whose first n words are overwritten as a slice
pub part_front : (f : ℕ → Float) (old : List Float) (n : ℕ) {part : List Float} → n ≤ length old → part ≡ made f (length (take n old)) → part ++ drop n old ≡ front (made f n) old
unfolding front
part_front f old n h e = rw (e, length-take-le n old h, made_length)
