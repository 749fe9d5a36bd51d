-- `opf_rows::put_linear` meets its contract, by the row's limits. Assumes nothing.
use Rattle.network.specs.Layout.{reading}
use Rattle.snapping.specs.Expr.{unit, less_unit}
use Rattle.opf_layout.specs.Layout.{column_in, row_in}
use Rattle.opf_assembly.specs.Assembly.{blank}
use Rattle.opf_program.proofs.Triplets.{nothing_put}
use Rattle.opf_rows.proofs.Rows.{linear_done, limit_put, both_put, equal_put}
use Rattle.opf_rows.proofs.put_linear.Goals as goal

pub returns-in-None-clause-puts : goal.returns-in-None-clause-puts
returns-in-None-clause-puts c = let a = c.args in linear_done a.row.now.site.opf.layout a.row.now.site.opf.grid.plan.counts a.row.now.site.opf.grid.plan.wiring.now a.row.now.site.opf.grid.plan.readings.now a.row.now.site.term_index.now a.row.now.site.term_coefficient.now a.row.now.q c.row_limits.ensures c.in-None.is (nothing_put (row_in a.row.now.site.opf.layout) (column_in a.row.now.site.opf.layout) (reading a.row.now.site.opf.grid.plan.counts a.row.now.site.opf.grid.plan.readings.now) blank)

pub returns-in-Upper-clause-puts : goal.returns-in-Upper-clause-puts
returns-in-Upper-clause-puts c = let a = c.args in linear_done a.row.now.site.opf.layout a.row.now.site.opf.grid.plan.counts a.row.now.site.opf.grid.plan.wiring.now a.row.now.site.opf.grid.plan.readings.now a.row.now.site.term_index.now a.row.now.site.term_coefficient.now a.row.now.q c.row_limits.ensures c.in-Upper.is (limit_put a.row.now.site.opf.layout a.row.now.site.opf.grid.plan.counts a.row.now.site.opf.grid.plan.wiring.now a.row.now.site.opf.grid.plan.readings.now a.row.now.site.term_index.now a.row.now.site.term_coefficient.now unit a.row.now.q c.requires.equal_value.1 c.put_written.ensures.puts)

pub returns-in-Lower-clause-puts : goal.returns-in-Lower-clause-puts
returns-in-Lower-clause-puts c = let a = c.args in linear_done a.row.now.site.opf.layout a.row.now.site.opf.grid.plan.counts a.row.now.site.opf.grid.plan.wiring.now a.row.now.site.opf.grid.plan.readings.now a.row.now.site.term_index.now a.row.now.site.term_coefficient.now a.row.now.q c.row_limits.ensures c.in-Lower.is (limit_put a.row.now.site.opf.layout a.row.now.site.opf.grid.plan.counts a.row.now.site.opf.grid.plan.wiring.now a.row.now.site.opf.grid.plan.readings.now a.row.now.site.term_index.now a.row.now.site.term_coefficient.now less_unit a.row.now.q c.requires.equal_value.1 c.put_written-in-Lower.ensures.puts)

pub returns-in-Both-clause-puts : goal.returns-in-Both-clause-puts
returns-in-Both-clause-puts c = let a = c.args in linear_done a.row.now.site.opf.layout a.row.now.site.opf.grid.plan.counts a.row.now.site.opf.grid.plan.wiring.now a.row.now.site.opf.grid.plan.readings.now a.row.now.site.term_index.now a.row.now.site.term_coefficient.now a.row.now.q c.row_limits.ensures c.in-Both.is (both_put a.row.now.site.opf.layout a.row.now.site.opf.grid.plan.counts a.row.now.site.opf.grid.plan.wiring.now a.row.now.site.opf.grid.plan.readings.now a.row.now.site.term_index.now a.row.now.site.term_coefficient.now a.row.now.q c.requires.equal_value.1 c.put_both.ensures.puts)

pub returns-in-Equal-clause-puts : goal.returns-in-Equal-clause-puts
returns-in-Equal-clause-puts c = let a = c.args in linear_done a.row.now.site.opf.layout a.row.now.site.opf.grid.plan.counts a.row.now.site.opf.grid.plan.wiring.now a.row.now.site.opf.grid.plan.readings.now a.row.now.site.term_index.now a.row.now.site.term_coefficient.now a.row.now.q c.row_limits.ensures c.in-Equal.is (equal_put a.row.now.site.opf.layout a.row.now.site.opf.grid.plan.counts a.row.now.site.opf.grid.plan.wiring.now a.row.now.site.opf.grid.plan.readings.now a.row.now.site.term_index.now a.row.now.site.term_coefficient.now a.row.now.q c.requires.equal_value.0 c.put_written-in-Equal.ensures.puts)
