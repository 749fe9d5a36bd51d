-- `kkt_rows::put_row` meets its contract, by the row's limits. Assumes nothing.
use Rattle.network.specs.Layout.{reading}
use Rattle.solution.specs.Sheet.{solved}
use Rattle.kkt_index.specs.Index.{start_in}
use Rattle.kkt.proofs.Emitted.{puts_then}
use Rattle.kkt_rows.proofs.Sides.{nothing_put, row_done}
use Rattle.kkt_rows.proofs.Duals.{upper_side, lower_side, both_duals, both_slacks}
use Rattle.kkt_rows.proofs.put_row.Goals as goal

pub invariant_of-above-clause-dual_is : goal.invariant_of-above-clause-dual_is
invariant_of-above-clause-dual_is c = let x = c.args.line.now.site in
    let g = x.kkt.grid.plan in
    (upper_side g.counts g.wiring.now x.term_index.now x.term_coefficient.now x.kkt.index.pieces g.readings.now x.kkt.sheet.now c.args.line.now.q c.snap_linear_at-duals.ensures c.row_limits.ensures c.reading-base.ensures (c.row_value-value.ensures (reading g.counts g.readings.now)) c.in-Upper.is).0

pub invariant_of-above-clause-slack_is : goal.invariant_of-above-clause-slack_is
invariant_of-above-clause-slack_is c = let x = c.args.line.now.site in
    let g = x.kkt.grid.plan in
    (upper_side g.counts g.wiring.now x.term_index.now x.term_coefficient.now x.kkt.index.pieces g.readings.now x.kkt.sheet.now c.args.line.now.q c.snap_linear_at-duals.ensures c.row_limits.ensures c.reading-base.ensures (c.row_value-value.ensures (reading g.counts g.readings.now)) c.in-Upper.is).1

pub invariant_of-below-clause-dual_is : goal.invariant_of-below-clause-dual_is
invariant_of-below-clause-dual_is c = let x = c.args.line.now.site in
    let g = x.kkt.grid.plan in
    (lower_side g.counts g.wiring.now x.term_index.now x.term_coefficient.now x.kkt.index.pieces g.readings.now x.kkt.sheet.now c.args.line.now.q c.snap_linear_at-duals.ensures c.row_limits.ensures c.reading-base.ensures (c.row_value-value.ensures (reading g.counts g.readings.now)) c.in-Lower.is).0

pub invariant_of-below-clause-slack_is : goal.invariant_of-below-clause-slack_is
invariant_of-below-clause-slack_is c = let x = c.args.line.now.site in
    let g = x.kkt.grid.plan in
    (lower_side g.counts g.wiring.now x.term_index.now x.term_coefficient.now x.kkt.index.pieces g.readings.now x.kkt.sheet.now c.args.line.now.q c.snap_linear_at-duals.ensures c.row_limits.ensures c.reading-base.ensures (c.row_value-value.ensures (reading g.counts g.readings.now)) c.in-Lower.is).1

pub invariant_of-first-clause-dual_is : goal.invariant_of-first-clause-dual_is
invariant_of-first-clause-dual_is c = let x = c.args.line.now.site in
    let g = x.kkt.grid.plan in
    (both_duals g.counts g.wiring.now x.term_index.now x.term_coefficient.now x.kkt.index.pieces g.readings.now x.kkt.sheet.now c.args.line.now.q c.snap_linear_at-duals.ensures c.row_limits.ensures c.reading-base.ensures (c.row_value-value.ensures (reading g.counts g.readings.now)) c.in-Both.is).0

pub invariant_of-second-clause-dual_is : goal.invariant_of-second-clause-dual_is
invariant_of-second-clause-dual_is c = let x = c.args.line.now.site in
    let g = x.kkt.grid.plan in
    (both_duals g.counts g.wiring.now x.term_index.now x.term_coefficient.now x.kkt.index.pieces g.readings.now x.kkt.sheet.now c.args.line.now.q c.snap_linear_at-duals.ensures c.row_limits.ensures c.reading-base.ensures (c.row_value-value.ensures (reading g.counts g.readings.now)) c.in-Both.is).1

pub invariant_of-first-clause-slack_is : goal.invariant_of-first-clause-slack_is
invariant_of-first-clause-slack_is c = let x = c.args.line.now.site in
    let g = x.kkt.grid.plan in
    (both_slacks g.counts g.wiring.now x.term_index.now x.term_coefficient.now x.kkt.index.pieces g.readings.now x.kkt.sheet.now c.args.line.now.q c.snap_linear_at-duals.ensures c.row_limits.ensures c.reading-base.ensures (c.row_value-value.ensures (reading g.counts g.readings.now)) c.in-Both.is).0

pub invariant_of-second-clause-slack_is : goal.invariant_of-second-clause-slack_is
invariant_of-second-clause-slack_is c = let x = c.args.line.now.site in
    let g = x.kkt.grid.plan in
    (both_slacks g.counts g.wiring.now x.term_index.now x.term_coefficient.now x.kkt.index.pieces g.readings.now x.kkt.sheet.now c.args.line.now.q c.snap_linear_at-duals.ensures c.row_limits.ensures c.reading-base.ensures (c.row_value-value.ensures (reading g.counts g.readings.now)) c.in-Both.is).1

pub returns-in-None-clause-puts : goal.returns-in-None-clause-puts
returns-in-None-clause-puts c = let x = c.args.line.now.site in
    let g = x.kkt.grid.plan in
    let R = reading g.counts g.readings.now in
    let S = solved g.counts x.kkt.index.pieces x.kkt.sheet.now in
    row_done x.kkt.index R S g.counts g.wiring.now x.term_index.now x.term_coefficient.now g.readings.now c.args.line.now.q c.args.row c.row_limits.ensures c.in-None.is (nothing_put x.kkt.index R S)

pub returns-in-Upper-clause-puts : goal.returns-in-Upper-clause-puts
returns-in-Upper-clause-puts c = let x = c.args.line.now.site in
    let g = x.kkt.grid.plan in
    let R = reading g.counts g.readings.now in
    let S = solved g.counts x.kkt.index.pieces x.kkt.sheet.now in
    row_done x.kkt.index R S g.counts g.wiring.now x.term_index.now x.term_coefficient.now g.readings.now c.args.line.now.q c.args.row c.row_limits.ensures c.in-Upper.is c.put_side.ensures.puts

pub returns-in-Lower-clause-puts : goal.returns-in-Lower-clause-puts
returns-in-Lower-clause-puts c = let x = c.args.line.now.site in
    let g = x.kkt.grid.plan in
    let R = reading g.counts g.readings.now in
    let S = solved g.counts x.kkt.index.pieces x.kkt.sheet.now in
    row_done x.kkt.index R S g.counts g.wiring.now x.term_index.now x.term_coefficient.now g.readings.now c.args.line.now.q c.args.row c.row_limits.ensures c.in-Lower.is c.put_side-in-Lower.ensures.puts

pub returns-in-Both-clause-puts : goal.returns-in-Both-clause-puts
returns-in-Both-clause-puts c = let x = c.args.line.now.site in
    let g = x.kkt.grid.plan in
    let R = reading g.counts g.readings.now in
    let S = solved g.counts x.kkt.index.pieces x.kkt.sheet.now in
    row_done x.kkt.index R S g.counts g.wiring.now x.term_index.now x.term_coefficient.now g.readings.now c.args.line.now.q c.args.row c.row_limits.ensures c.in-Both.is (puts_then (start_in x.kkt.index) R S _ _ c.put_side-in-Both.ensures.puts c.put_side-in-Both-2.ensures.puts)

pub returns-in-Equal-clause-puts : goal.returns-in-Equal-clause-puts
returns-in-Equal-clause-puts c = let x = c.args.line.now.site in
    let g = x.kkt.grid.plan in
    let R = reading g.counts g.readings.now in
    let S = solved g.counts x.kkt.index.pieces x.kkt.sheet.now in
    row_done x.kkt.index R S g.counts g.wiring.now x.term_index.now x.term_coefficient.now g.readings.now c.args.line.now.q c.args.row c.row_limits.ensures c.in-Equal.is c.put_side-in-Equal.ensures.puts
