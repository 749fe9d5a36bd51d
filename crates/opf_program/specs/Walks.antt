-- The triplets of entries by the layout and the readings, and an entry of A by value.
-- Main definitions: `written`, `written_at`, `items_at`, `entry_in`. Assumes nothing.
use Rattle.std.specs.Prelude.{ℕ, ◌+◌, List, map, Float, Option}
use Rattle.sequence.specs.declared.Triplet.{Triplet}
use Rattle.network.specs.declared.Counts.{Counts}
use Rattle.network.specs.Layout.{reading}
use Rattle.opf_layout.specs.declared.OpfColumn.{OpfColumn}
use Rattle.opf_layout.specs.declared.OpfRow.{OpfRow}
use Rattle.opf_layout.specs.declared.OpfLayout.{OpfLayout}
use Rattle.opf_layout.specs.Layout.{column_in, row_in}
use Rattle.program_builder.specs.Builder.{entry}
use Rattle.opf_program.specs.declared.frame.Opf.{Opf}
use Rattle.opf_assembly.specs.Assembly.{blank, Coefficient, item_by, triplets_by}

-- entries by the layout and the readings
abbrev pub written : OpfLayout → Counts → List Float → List Coefficient → List Triplet
written x c r ks = triplets_by (row_in x) (column_in x) (reading c r) blank ks

-- the same at a frame
abbrev pub written_at : Opf → List Coefficient → List Triplet
written_at o = written o.layout o.grid.plan.counts o.grid.plan.readings.now

-- each of them as a triplet or none
abbrev pub items : OpfLayout → Counts → List Float → List Coefficient → List (Option Triplet)
items x c r ks = map (item_by (row_in x) (column_in x) (reading c r) blank) ks

abbrev pub items_at : Opf → List Coefficient → List (Option Triplet)
items_at o = items o.layout o.grid.plan.counts o.grid.plan.readings.now

-- an entry by value: a row and a column by block and index, and what stands there
abbrev pub entry_in : OpfLayout → OpfRow → ℕ → OpfColumn → ℕ → Float → Option Triplet
entry_in x a i k j v = entry (row_in x a + i) (column_in x k + j) v
