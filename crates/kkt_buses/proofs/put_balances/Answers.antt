-- `kkt_buses::put_balances` meets its contract: a bus's column more each turn. Assumes nothing.
use mathlib.Core.Path.{refl}
use native.Mathlib.Omega.{arith}
use Rattle.kkt.proofs.Emitted.{puts_begin, puts_more, puts_done, puts_then}
use Rattle.kkt_buses.proofs.put_balances.Goals as goal

pub link_part-requires-clause-buses_in_bounds : goal.link_part-requires-clause-buses_in_bounds
link_part-requires-clause-buses_in_bounds c = let few = c.args.sums.now.kkt.grid.wired.laid.few in (omega (arith, few), omega (arith, few), omega (arith, few))

pub loop-i-init : goal.loop-i-init
loop-i-init c = (puts_begin _ _ _ _, omega arith, omega arith, refl, omega (arith, c.args.sums.now.kkt.grid.plan.readings_laid.few))

pub put_kept-requires : goal.put_kept-requires
put_kept-requires c = let i = c.loop-i.invariant in (omega (arith, i, c.loop-i-test), omega (arith, i, c.requires))

pub put_injections-requires-clause-buses_in_bounds : goal.put_injections-requires-clause-buses_in_bounds
put_injections-requires-clause-buses_in_bounds c = let i = c.loop-i.invariant in
    let few = c.args.sums.now.kkt.grid.plan.readings_laid.few in
    (omega (arith, c.link_part.auto, few), omega (arith, c.link_part.auto, few), omega (arith, i, c.loop-i-test), omega (arith, i, c.put_kept.ensures.most, c.requires))

pub loop-i-preserved : goal.loop-i-preserved
loop-i-preserved c = let i = c.loop-i.invariant in
    (puts_more _ _ _ _ c.loop-i.i i.0 (puts_then _ _ _ _ _ c.put_kept.ensures.puts c.put_injections.ensures.puts), omega (arith, i, c.put_kept.ensures.most, c.put_injections.ensures.most), omega (arith, i, c.loop-i-test), i.3, i.4)

pub returns-clause-puts : goal.returns-clause-puts
returns-clause-puts c = let i = c.loop-i.invariant in puts_done _ _ _ _ (omega (arith, i)) (omega (arith, i, c.loop-i-test)) i.0
