-- What is read at an operating point with its terms: an element's touches and column, the sheet of columns.
-- Main definitions: `touches_in`, `column_in`, `jacobian_in`, `FlowsIn`, `IndexesIn`. Assumes nothing.
use Rattle.std.specs.Prelude.{ℕ, List, Float}
use Rattle.solution.specs.declared.PointSite.{PointSite}
use Rattle.kkt_index.specs.declared.KktIdx.{KktIdx}
use Rattle.parameter_column.specs.declared.Served.{Served}
use Rattle.parameter_column.specs.Columns.{Touch, touches, column_words}
use Rattle.parameter_sheet.specs.Sheet.{jacobian, Flows, Indexes}

module _ (x : PointSite) where
  abbrev pub IndexesIn : KktIdx → Type 0
  IndexesIn = let g = x.point.grid.plan in Indexes g.counts g.wiring.now g.readings.now

  abbrev pub touches_in : Served → ℕ → List Touch
  touches_in = let g = x.point.grid.plan in touches g.counts g.wiring.now x.term_index.now x.term_coefficient.now x.point.pieces g.readings.now x.point.sheet.now

  abbrev pub column_in : Served → ℕ → List Float
  column_in = let g = x.point.grid.plan in column_words g.counts g.wiring.now x.term_index.now x.term_coefficient.now x.point.pieces g.readings.now x.point.sheet.now

  abbrev pub jacobian_in : Served → List ℕ → List Float
  jacobian_in = let g = x.point.grid.plan in jacobian g.counts g.wiring.now x.term_index.now x.term_coefficient.now x.point.pieces g.readings.now x.point.sheet.now

  abbrev pub FlowsIn : List Float → Type 0
  FlowsIn = let g = x.point.grid.plan in Flows g.counts g.wiring.now x.term_index.now x.term_coefficient.now x.point.pieces g.readings.now x.point.sheet.now
