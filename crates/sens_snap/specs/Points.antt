-- What is snapped at an operating point: the parts of the sheet, the multipliers and the flow-definition duals.
-- Main definitions: `snap_sheet_at`, `dual_sheet_at`, `nu_flow_sheet_at`. Assumes nothing.
use Rattle.std.specs.Prelude.{ℕ, ◌≡◌, List, Float}
use Rattle.solution.specs.declared.Entry.{Entry}
use Rattle.solution.specs.declared.OperatingPoint.{OperatingPoint}
use Rattle.solution.specs.Sheet.{pieces}
use Rattle.snapping.specs.Snap.{segment_words, plain_words, entry_words, snap_sheet, dual_sheet, nu_flow_row, nu_flow_sheet}

module _ (x : OperatingPoint) where
  -- it has as many pieces as its grid
  abbrev pub PiecesAre : Type 0
  PiecesAre = x.pieces ≡ pieces x.grid.plan.counts x.grid.plan.wiring.now

  abbrev pub segment_words_at : ℕ → List Float
  segment_words_at = segment_words x.grid.plan.counts x.grid.plan.wiring.now x.pieces x.grid.plan.readings.now x.sheet.now

  abbrev pub plain_words_at : Entry → List Float
  plain_words_at = plain_words x.grid.plan.counts x.grid.plan.wiring.now x.pieces x.grid.plan.readings.now x.sheet.now

  abbrev pub entry_words_at : Entry → List Float
  entry_words_at = entry_words x.grid.plan.counts x.grid.plan.wiring.now x.pieces x.grid.plan.readings.now x.sheet.now

  abbrev pub snap_sheet_at : List Float
  snap_sheet_at = snap_sheet x.grid.plan.counts x.grid.plan.wiring.now x.pieces x.grid.plan.readings.now x.sheet.now

  -- with the terms of the linear rows
  module _ (ti : List ℕ) (tc : List Float) where
    abbrev pub dual_sheet_at : List Float
    dual_sheet_at = dual_sheet x.grid.plan.counts x.grid.plan.wiring.now ti tc x.pieces x.grid.plan.readings.now x.sheet.now

    abbrev pub nu_flow_row_at : ℕ → ℕ → Float → Float
    nu_flow_row_at = nu_flow_row x.grid.plan.counts x.grid.plan.wiring.now ti tc x.pieces x.grid.plan.readings.now x.sheet.now

    abbrev pub nu_flow_sheet_at : List Float
    nu_flow_sheet_at = nu_flow_sheet x.grid.plan.counts x.grid.plan.wiring.now ti tc x.pieces x.grid.plan.readings.now x.sheet.now
