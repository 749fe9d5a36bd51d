-- `change_cells::is_among` meets its contract. Assumes nothing.
use mathlib.Core.Path.{◌∙◌}
use Rattle.std.proofs.Common.{rules, tests}
use Rattle.std.proofs.lemmas.Iterator.{YieldsList-from_slice}
use Rattle.std.proofs.lemmas.Iterator.Search.{any_from_yields_List}
use Rattle.kkt_index.specs.Index.{start_in}
use Rattle.change_table.specs.Table.{Pair, cell_at, same_cell}
use Rattle.change_cells.proofs.Among.{tested}
use Rattle.change_cells.proofs.is_among.Goals as goal

pub returns : goal.returns
returns c = let a = c.args in
    any_from_yields_List (λ (p : Pair). same_cell (a.row, a.col) (cell_at (start_in a.x) p)) _ _ c.any.result c.any.ensures.ran (YieldsList-from_slice a.cells.now cc) (λ x b q k. search (rules, tests)) ∙ tested (a.row, a.col) (start_in a.x) a.cells.now
