-- `kkt_cells::keep_row` meets its contract: the row's sums are the bus's. Assumes nothing.
use native.Mathlib.Omega.{arith}
use Rattle.kkt_sums.proofs.Sums.{unmarked}
use Rattle.kkt_cells.proofs.Cells.{cells_are}
use Rattle.kkt_cells.proofs.keep_row.Goals as goal

pub make_row-requires-clause-row_room : goal.make_row-requires-clause-row_room
make_row-requires-clause-row_room c = omega (arith, c.args.ends.now.grid.plan.readings_laid.few, c.requires.buses_in_bounds)

pub put_sums-requires-clause-n_bound : goal.put_sums-requires-clause-n_bound
put_sums-requires-clause-n_bound c = let f = c.args.ends.now.grid.plan.readings_laid.few in omega (arith, c.make_row.auto, f, c.requires.buses_in_bounds, c.requires.j_lt_buses, c.args.sink.now.room)

pub put_sums-requires-clause-by_index : goal.put_sums-requires-clause-by_index
put_sums-requires-clause-by_index c = unmarked _ _ _ _ c.make_row.ensures

pub returns-clause-puts : goal.returns-clause-puts
returns-clause-puts c = let e = cells_are _ _ _ _ c.make_row.ensures in rw e at c.put_sums.ensures.puts

pub returns-clause-most : goal.returns-clause-most
returns-clause-most c = omega (arith, c.put_sums.ensures.most, c.args.ends.now.grid.plan.readings_laid.few)
