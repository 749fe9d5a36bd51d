-- `kkt_chains::put_bus_generators` meets its contract: the generators below j, where they are at the bus. Assumes nothing.
use Prim.Native.Nat.{◌<◌}
use mathlib.Core.List.{[], ◌∷◌}
use native.Mathlib.Omega.{arith}
use Rattle.sequence.proofs.Links.{head_of, next_of}
use Rattle.sequence.proofs.Sinks.{put_of}
use Rattle.network.specs.declared.Part.TheVariants.{GenBus}
use Rattle.network.specs.Layout.{wire}
use Rattle.kkt_index.specs.declared.Block.TheVariants.{NuBal, Pg}
use Rattle.snapping.specs.Expr.{less_unit}
use Rattle.kkt.specs.Slots.{slot}
use Rattle.kkt.proofs.Emitted.{puts_one, chain_begin, chain_more, chain_gained}
use Rattle.kkt_chains.proofs.put_bus_generators.Goals as goal

pub loop-j-init : goal.loop-j-init
loop-j-init c = let f = head_of c.args.i _ c.requires.links c.requires.buses_in_bounds.2 c.wide-j.ensures.0 in
    (chain_begin _ _ _ _ _ _ f, omega arith, f.high, f.hit)

pub entry-requires-clause-i_bound : goal.entry-requires-clause-i_bound
entry-requires-clause-i_bound c = (omega (arith, c.loop-j-test, c.args.kkt.now.grid.plan.readings_laid.few), omega (arith, c.requires.buses_in_bounds, c.args.kkt.now.grid.plan.readings_laid.few))

pub put-requires : goal.put-requires
put-requires c = omega (arith, c.loop-j-test, c.loop-j, c.requires.buses_in_bounds, c.args.kkt.now.grid.plan.readings_laid.few)

pub offset_bounds-next-j : goal.offset_bounds-next-j
offset_bounds-next-j c = omega (arith, c.loop-j-test, c.args.kkt.now.grid.plan.readings_laid.few)

pub bounds-next-j : goal.bounds-next-j
bounds-next-j c = omega (arith, c.loop-j-test, c.requires.buses_in_bounds)

pub loop-j-smaller : goal.loop-j-smaller
loop-j-smaller c = let b : c.loop-j.j < c.args.kkt.now.grid.plan.counts.generators = omega (arith, c.loop-j-test) in
    omega (arith, c.loop-j-test, (next_of c.args.i c.loop-j.j _ c.requires.links b (c.loop-j.invariant.3 b) c.wide-j-in-loop-j.ensures.0).low)

pub loop-j-preserved : goal.loop-j-preserved
loop-j-preserved c = let b : c.loop-j.j < c.args.kkt.now.grid.plan.counts.generators = omega (arith, c.loop-j-test) in
    let e = c.loop-j.invariant.3 b in
    let f = next_of c.args.i c.loop-j.j _ c.requires.links b e c.wide-j-in-loop-j.ensures.0 in (
      chain_more _ _ _ _ _ _ e f c.loop-j.invariant.0 (puts_one _ _ _ _ (put_of c.entry.ensures c.put.ensures.puts)),
      omega (arith, c.put.ensures.most, c.loop-j.invariant.1, f.low),
      f.high,
      f.hit,
    )

pub returns-clause-puts : goal.returns-clause-puts
returns-clause-puts c = chain_gained _ _ _ (wire c.args.kkt.now.grid.plan.counts c.args.kkt.now.grid.plan.wiring.now GenBus) c.args.i (λ y. slot (Pg, y) (NuBal, c.args.i) less_unit ∷ []) c.loop-j.invariant.2 (omega (arith, c.loop-j-test)) c.loop-j.invariant.0

pub returns-clause-most : goal.returns-clause-most
returns-clause-most c = omega (arith, c.loop-j.invariant.1, c.loop-j.invariant.2, c.args.kkt.now.grid.plan.readings_laid.few)
