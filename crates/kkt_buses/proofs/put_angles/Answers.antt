-- `kkt_buses::put_angles` meets its contract: a bus's column more each turn. Assumes nothing.
use mathlib.Core.Path.{refl}
use native.Mathlib.Omega.{arith}
use Rattle.kkt.proofs.Emitted.{puts_begin, puts_more, puts_done, puts_then}
use Rattle.kkt_buses.proofs.put_angles.Goals as goal

pub link_part-requires-clause-buses_in_bounds : goal.link_part-requires-clause-buses_in_bounds
link_part-requires-clause-buses_in_bounds c = let few = c.args.lines.now.sums.kkt.grid.wired.laid.few in (omega (arith, few), omega (arith, few), omega (arith, few))

pub loop-j-init : goal.loop-j-init
loop-j-init c = (puts_begin _ _ _ _, omega arith, omega arith, refl, omega (arith, c.args.lines.now.sums.kkt.grid.plan.readings_laid.few))

pub put_ends-requires-clause-j_lt_buses : goal.put_ends-requires-clause-j_lt_buses
put_ends-requires-clause-j_lt_buses c = let i = c.loop-j.invariant in (omega (arith, i, c.loop-j-test), omega (arith, i, c.requires))

pub put_angle_rest-requires-clause-buses_in_bounds : goal.put_angle_rest-requires-clause-buses_in_bounds
put_angle_rest-requires-clause-buses_in_bounds c = let i = c.loop-j.invariant in
    (omega (arith, c.link_part.auto, c.args.lines.now.sums.kkt.grid.plan.readings_laid.few), omega (arith, i, c.loop-j-test), omega (arith, i, c.put_ends.ensures.most, c.requires))

pub loop-j-preserved : goal.loop-j-preserved
loop-j-preserved c = let i = c.loop-j.invariant in
    (puts_more _ _ _ _ c.loop-j.j i.0 (puts_then _ _ _ _ _ c.put_ends.ensures.puts c.put_angle_rest.ensures.puts), omega (arith, i, c.put_ends.ensures.most, c.put_angle_rest.ensures.most), omega (arith, i, c.loop-j-test), i.3, i.4)

pub returns-clause-puts : goal.returns-clause-puts
returns-clause-puts c = let i = c.loop-j.invariant in puts_done _ _ _ _ (omega (arith, i)) (omega (arith, i, c.loop-j-test)) i.0
