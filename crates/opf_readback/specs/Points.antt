-- The readings of a network with raw vectors beside it: the words of a block of the program, of an entry, and of the sheet.
-- Main definitions: `columns_at`, `rows_at`, `entry_words_at`, `sheet_at`. Assumes nothing.
use Rattle.std.specs.Prelude.{ℕ, List, Float}
use Rattle.sequence.specs.Lists.{made}
use Rattle.solution.specs.declared.Entry.{Entry}
use Rattle.solution.specs.Sheet.{size, pieces}
use Rattle.opf_layout.specs.declared.Active.{Active}
use Rattle.opf_layout.specs.declared.OpfColumn.{OpfColumn}
use Rattle.opf_layout.specs.declared.OpfRow.{OpfRow}
use Rattle.opf_layout.specs.declared.raw.RawPoint.{RawPoint}
use Rattle.opf_layout.specs.Layout.{active_of, column_size, row_size}
use Rattle.opf_readback.specs.Readback.{primal, dual, read_at, read_sheet}

module _ (p : RawPoint) where
  abbrev pub active_in : Active
  active_in = active_of p.site.grid.plan.counts p.site.grid.plan.wiring.now p.site.grid.plan.readings.now

  abbrev pub pieces_in : ℕ
  pieces_in = pieces p.site.grid.plan.counts p.site.grid.plan.wiring.now

  abbrev pub primal_at : OpfColumn → ℕ → Float
  primal_at = primal p.site.grid.plan.counts p.site.grid.plan.wiring.now p.site.grid.plan.readings.now p.site.term_index.now p.site.term_coefficient.now p.raw.x.now p.raw.z.now p.raw.objective

  abbrev pub dual_at : OpfRow → ℕ → Float
  dual_at = dual p.site.grid.plan.counts p.site.grid.plan.wiring.now p.site.grid.plan.readings.now p.site.term_index.now p.site.term_coefficient.now p.raw.x.now p.raw.z.now p.raw.objective

  -- x at a block of columns, and z at a block of rows
  abbrev pub columns_at : OpfColumn → List Float
  columns_at b = made (primal_at b) (column_size p.site.grid.plan.counts active_in b)

  abbrev pub rows_at : OpfRow → List Float
  rows_at b = made (dual_at b) (row_size p.site.grid.plan.counts active_in b)

  abbrev pub entry_words_at : Entry → List Float
  entry_words_at e = made (read_at p.site.grid.plan.counts p.site.grid.plan.wiring.now p.site.grid.plan.readings.now p.site.term_index.now p.site.term_coefficient.now p.raw.x.now p.raw.z.now p.raw.objective e) (size p.site.grid.plan.counts pieces_in e)

  abbrev pub sheet_at : List Float
  sheet_at = read_sheet p.site.grid.plan.counts p.site.grid.plan.wiring.now p.site.grid.plan.readings.now p.site.term_index.now p.site.term_coefficient.now p.raw.x.now p.raw.z.now p.raw.objective
