-- `kkt_chains::put_ends` meets its contract: the ends below the chain's next, where they are at the bus. Assumes nothing.
use Prim.Native.Nat.{◌*◌, ◌<◌}
use native.Mathlib.Omega.{arith}
use Rattle.sequence.proofs.Links.{head_of, next_of}
use Rattle.network.specs.Layout.{reading}
use Rattle.susceptance.specs.Incidence.{end_at}
use Rattle.solution.specs.Sheet.{solved}
use Rattle.kkt_index.specs.Index.{start_in}
use Rattle.kkt.proofs.Emitted.{puts_three, chain_begin, chain_more, chain_gained}
use Rattle.kkt_chains.proofs.Ends.{at_end, ends_incident}
use Rattle.kkt_chains.proofs.put_ends.Goals as goal

pub offset_bounds-head-j : goal.offset_bounds-head-j
offset_bounds-head-j c = omega (arith, c.requires.j_lt_buses, c.args.kkt.now.grid.plan.readings_laid.few)

pub bounds-head-j : goal.bounds-head-j
bounds-head-j c = omega (arith, c.requires.j_lt_buses, c.requires.chains)

pub loop-end-init : goal.loop-end-init
loop-end-init c = let f = head_of c.args.j _ c.requires.chains.links c.requires.j_lt_buses.0 c.wide-end.ensures.0 in
    (chain_begin _ _ _ _ _ _ f, omega arith, f.high, f.hit)

pub end_items-requires : goal.end_items-requires
end_items-requires c = (c.requires.j_lt_buses.0, omega (arith, c.loop-end-test))

pub put_all-requires : goal.put_all-requires
put_all-requires c = omega (arith, c.loop-end-test, c.loop-end, c.requires.j_lt_buses, c.args.kkt.now.grid.plan.readings_laid.few)

pub offset_bounds-next-end : goal.offset_bounds-next-end
offset_bounds-next-end c = omega (arith, c.loop-end-test, c.args.kkt.now.grid.plan.readings_laid.few)

pub bounds-next-end : goal.bounds-next-end
bounds-next-end c = omega (arith, c.loop-end-test, c.requires.chains)

pub loop-end-smaller : goal.loop-end-smaller
loop-end-smaller c = let b : c.loop-end.end < 2 * c.args.kkt.now.grid.plan.counts.branches = omega (arith, c.loop-end-test) in
    omega (arith, c.loop-end-test, (next_of c.args.j c.loop-end.end _ c.requires.chains.links b (c.loop-end.invariant.3 b) c.wide-end-in-loop-end.ensures.0).low)

pub loop-end-preserved : goal.loop-end-preserved
loop-end-preserved c = let b : c.loop-end.end < 2 * c.args.kkt.now.grid.plan.counts.branches = omega (arith, c.loop-end-test) in
    let e = c.loop-end.invariant.3 b in
    let f = next_of c.args.j c.loop-end.end _ c.requires.chains.links b e c.wide-end-in-loop-end.ensures.0 in (
      chain_more _ _ _ _ _ _ e f c.loop-end.invariant.0 (puts_three _ _ _ (at_end c.args.kkt.now.grid.plan.counts c.args.kkt.now.grid.plan.wiring.now c.args.j c.loop-end.end) (omega arith) c.end_items.ensures c.put_all.ensures.puts),
      omega (arith, c.put_all.ensures.most, c.loop-end.invariant.1, f.low),
      f.high,
      f.hit,
    )

pub returns-clause-puts : goal.returns-clause-puts
returns-clause-puts c = rw (ends_incident c.args.kkt.now.grid.plan.counts c.args.kkt.now.grid.plan.wiring.now c.args.j c.args.kkt.now.grid.plan.counts.branches) at (chain_gained (start_in c.args.kkt.now.index) (reading c.args.kkt.now.grid.plan.counts c.args.kkt.now.grid.plan.readings.now) (solved c.args.kkt.now.grid.plan.counts c.args.kkt.now.index.pieces c.args.kkt.now.sheet.now) (end_at c.args.kkt.now.grid.plan.counts c.args.kkt.now.grid.plan.wiring.now) c.args.j (at_end c.args.kkt.now.grid.plan.counts c.args.kkt.now.grid.plan.wiring.now c.args.j) c.loop-end.invariant.2 (omega (arith, c.loop-end-test)) c.loop-end.invariant.0)

pub returns-clause-most : goal.returns-clause-most
returns-clause-most c = omega (arith, c.loop-end.invariant.1, c.loop-end.invariant.2, c.args.kkt.now.grid.plan.readings_laid.few)
