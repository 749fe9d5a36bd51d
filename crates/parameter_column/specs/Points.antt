-- What is read at an operating point: an expression's value, and what a parameter's element moves.
-- Main definitions: `value_at`, `touches_at`, `flow_dual`. Assumes nothing.
use Rattle.std.specs.Prelude.{ℕ, List, Float}
use Rattle.network.specs.Layout.{reading}
use Rattle.solution.specs.Sheet.{solved}
use Rattle.solution.specs.declared.OperatingPoint.{OperatingPoint}
use Rattle.snapping.specs.Expr.{Expr, eval}
use Rattle.snapping.specs.Snap.{nu_flow}
use Rattle.parameter_column.specs.declared.Served.{Served}
use Rattle.parameter_column.specs.Columns.{Mark, Touch, valued, touches}

module _ (x : OperatingPoint) where
  abbrev pub value_at : Expr → Float
  value_at = let c = x.grid.plan.counts in eval (reading c x.grid.plan.readings.now) (solved c x.pieces x.sheet.now)

  abbrev pub valued_at : List Mark → List Touch
  valued_at = let c = x.grid.plan.counts in valued (reading c x.grid.plan.readings.now) (solved c x.pieces x.sheet.now)

  -- with the terms of the linear rows
  module _ (ti : List ℕ) (tc : List Float) where
    abbrev pub touches_at : Served → ℕ → List Touch
    touches_at = touches x.grid.plan.counts x.grid.plan.wiring.now ti tc x.pieces x.grid.plan.readings.now x.sheet.now

    -- the dual of a branch's flow definition
    abbrev pub flow_dual : ℕ → Float
    flow_dual = nu_flow x.grid.plan.counts x.grid.plan.wiring.now ti tc x.pieces x.grid.plan.readings.now x.sheet.now
