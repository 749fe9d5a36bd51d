-- `susceptance::put_susceptance` meets its contract: a row more each turn. Assumes nothing.
use native.Mathlib.Omega.{arith}
use Rattle.sequence.proofs.Sinks.{begin, more, done}
use Rattle.susceptance.specs.Susceptance.{susceptance_coo}
use Rattle.susceptance.proofs.put_susceptance.Goals as goal

pub link_ends-requires-clause-wired : goal.link_ends-requires-clause-wired
link_ends-requires-clause-wired c = c.args.grid.now.wired

pub link_ends-requires-clause-buses_in_bounds : goal.link_ends-requires-clause-buses_in_bounds
link_ends-requires-clause-buses_in_bounds c = (omega (arith, c.args.grid.now.wired), omega (arith, c.args.grid.now.wired))

pub loop-i-init : goal.loop-i-init
loop-i-init c = (begin _, omega arith, omega arith, omega arith, omega arith)

pub invariant_of-ends : goal.invariant_of-ends
invariant_of-ends c = record { chains = record { links = c.link_ends.ensures; heads_fit = omega (arith, c.link_ends.auto, c.args.grid.now.wired); nexts_fit = omega (arith, c.link_ends.auto, c.args.grid.now.wired) } }

pub put_row-requires-clause-row_room : goal.put_row-requires-clause-row_room
put_row-requires-clause-row_room c = omega (arith, c, c.args.grid.now.wired)

pub put_row-requires-clause-i_lt_buses : goal.put_row-requires-clause-i_lt_buses
put_row-requires-clause-i_lt_buses c = omega (arith, c, c, c.args.grid.now.wired)

pub overflow_step-i : goal.overflow_step-i
overflow_step-i c = omega (arith, c, c.args.grid.now.wired)

pub loop-i-preserved : goal.loop-i-preserved
loop-i-preserved c = (more _ _ c.loop-i.invariant.0 c.put_row.ensures.puts, omega (arith, c.put_row.ensures.most, c), omega (arith, c, c), omega (arith, c.put_row.auto, c), omega (arith, c.put_row.auto, c))

pub returns-clause-puts : goal.returns-clause-puts
unfolding susceptance_coo
returns-clause-puts c = done _ c.loop-i.invariant.2 c.loop-i-test.false c.loop-i.invariant.0

pub returns-clause-most : goal.returns-clause-most
unfolding susceptance_coo
returns-clause-most c = omega arith
