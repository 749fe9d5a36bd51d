-- What is read at a network with its solution sheet. Main definitions: `jacobian_at`, `number_at`. Assumes nothing.
use Rattle.std.specs.Prelude.{ℕ, List, Float}
use Rattle.solution.specs.Sheet.{pieces}
use Rattle.solution.specs.declared.SolvedSite.{SolvedSite}
use Rattle.parameter_column.specs.declared.Served.{Served}
use Rattle.parameter_sheet.specs.Sheet.{jacobian}
use Rattle.sens_parameters.specs.Calls.{served_number}

module _ (x : SolvedSite) where
  -- the columns of the listed elements
  abbrev pub jacobian_at : Served → List ℕ → List Float
  jacobian_at = let g = x.site.grid.plan in jacobian g.counts g.wiring.now x.site.term_index.now x.site.term_coefficient.now (pieces g.counts g.wiring.now) g.readings.now x.sheet.now

  -- the number of a served parameter
  abbrev pub number_at : Served → List ℕ → List Float → ℕ
  number_at = let g = x.site.grid.plan in served_number g.counts g.wiring.now x.site.term_index.now x.site.term_coefficient.now g.readings.now x.sheet.now
