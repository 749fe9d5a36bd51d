-- `parameter_column::constraint_column` meets its contract. Assumes nothing.
use Rattle.parameter_column.proofs.Touching.{shift_room, shift_is}
use Rattle.parameter_column.proofs.constraint_column.Goals as goal

pub shift_column-requires : goal.shift_column-requires
shift_column-requires c = let a = c.args in
    let g = a.site.now.point.grid.plan in
    let e = c.linear_start.ensures in
    (shift_room g.counts g.wiring.now g.readings.now a.q c.requires.q_lt_rows.0 e.0 c.row_limits-limits.ensures c.requires.q_lt_rows.1, e.1)

pub returns : goal.returns
returns c = let s = c.args.site.now in
    let x = s.point in
    let g = x.grid.plan in
    rw (shift_is g.counts g.wiring.now s.term_index.now s.term_coefficient.now x.pieces g.readings.now x.sheet.now c.args.q c.linear_start.ensures.0 c.snap_linear_at-d.ensures c.row_limits-limits.ensures) at c.shift_column.ensures
