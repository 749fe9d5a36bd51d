-- The terms of a linear row as they are put: flows, then dispatch.
-- Main definitions: `term_items`, `row_items`. Assumes nothing.
use Rattle.std.specs.Prelude.{ℕ, ◌+◌, List, ◌++◌, Float, get_or}
use Rattle.std.specs.Float.{binary64, nan}
use Rattle.std.specs.Float.Ieee.{mul}
use Rattle.sequence.specs.Lists.{each}
use Rattle.sequence.specs.declared.Triplet.{Triplet}
use Rattle.sequence.specs.Sheets.{emit}
use Rattle.network.specs.declared.Counts.{Counts}
use Rattle.network.specs.declared.Part.TheVariants.{FlowTerms, GenerationTerms}
use Rattle.network.specs.Layout.{wire, term_start}
use Rattle.opf_layout.specs.declared.OpfColumn.{OpfColumn}
use Rattle.opf_layout.specs.declared.OpfColumn.TheVariants.{Pg, Flow}
use Rattle.opf_layout.specs.declared.OpfRow.{OpfRow}
use Rattle.opf_layout.specs.declared.OpfLayout.{OpfLayout}
use Rattle.opf_program.specs.Walks.{entry_in}

-- terms of a linear row, and all of them in a row of the program
unfoldable pub term_items : OpfLayout → List ℕ → List Float → OpfRow → ℕ → Float → OpfColumn → ℕ → ℕ → List Triplet
term_items x ti tc a row sign k start count =
    each count (λ t. emit (entry_in x a row k (get_or ti (start + t) 0) (mul binary64 sign (get_or tc (start + t) nan))))

abbrev pub row_items : OpfLayout → Counts → List ℕ → List ℕ → List Float → OpfRow → ℕ → Float → ℕ → List Triplet
row_items x c w ti tc a row sign q =
    term_items x ti tc a row sign Flow (term_start c w q) (wire c w FlowTerms q)
    ++ term_items x ti tc a row sign Pg (term_start c w q + wire c w FlowTerms q) (wire c w GenerationTerms q)
