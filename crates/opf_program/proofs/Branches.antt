-- Entries by value are a branch's as the specification names them.
-- Main results: `flag_on`, `flag_off`, `branch_put`. Assumes nothing.
use mathlib.Core.Path.{◌≡◌, ap}
use mathlib.Core.Bool.{true, false, not}
use mathlib.Core.List.{List, ◌++◌}
use Prim.Native.Nat.{ℕ}
use lib.Dec.{eqb}
use lib.Ieee.{Float}
use borrow.Author.Tests.{eq-eqb, ne_eqb}
use Rattle.sequence.specs.Lists.{when}
use Rattle.sequence.specs.declared.Sink.{Sink}
use Rattle.sequence.specs.Sinks.{Gains}
use Rattle.network.specs.declared.Counts.{Counts}
use Rattle.network.specs.declared.Part.TheVariants.{ThermalFlags, AngleFlags}
use Rattle.network.specs.Layout.{reading}
use Rattle.opf_layout.specs.declared.OpfColumn.TheVariants.{Flow}
use Rattle.opf_layout.specs.declared.OpfRow.TheVariants.{LineUb, LineLb}
use Rattle.opf_layout.specs.declared.OpfLayout.{OpfLayout}
use Rattle.opf_layout.specs.Layout.{active_rank, flagged, column_in, row_in}
use Rattle.opf_assembly.specs.Assembly.{blank, two_sides, branch_own, phase_entries, branch_entries}
use Rattle.opf_program.specs.Walks.{written}
use Rattle.opf_program.proofs.Triplets.{puts_then}

-- a flag that is set, and one that is not
pub flag_on : {n m : ℕ} → (n ≡ 0 → ⊥) → n ≡ m → not (eqb m 0) ≡ true
flag_on {n} h e = rw (← e) (ap not (ne_eqb n 0 h))

pub flag_off : {n m : ℕ} → n ≡ 0 → n ≡ m → not (eqb m 0) ≡ false
flag_off {n} h e = rw (← e) (ap not (eq-eqb n 0 h))

-- a branch's own entries, then its thermal and its angle limits
pub branch_put : (x : OpfLayout) (c : Counts) (w : List ℕ) (r : List Float) {S₀ S₁ S₂ S₃ : Sink} (e : ℕ)
    → Gains (written x c r (branch_own c w r e)) S₀ S₁
    → Gains (written x c r (when (flagged c w ThermalFlags e) (two_sides LineUb LineLb (active_rank (flagged c w ThermalFlags) e) Flow e))) S₁ S₂
    → Gains (written x c r (when (flagged c w AngleFlags e) (phase_entries c w r e))) S₂ S₃
    → Gains (written x c r (branch_entries c w r e)) S₀ S₃
branch_put x c w r e p q s =
    let sides = when (flagged c w ThermalFlags e) (two_sides LineUb LineLb (active_rank (flagged c w ThermalFlags) e) Flow e) in
    let phases = when (flagged c w AngleFlags e) (phase_entries c w r e) in
    puts_then (row_in x) (column_in x) (reading c r) blank (branch_own c w r e) (sides ++ phases) p
    (puts_then (row_in x) (column_in x) (reading c r) blank sides phases q s)
