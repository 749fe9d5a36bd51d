-- `kkt_chains::put_reference` meets its contract: the first place's slot, or none. Assumes nothing.
use native.Mathlib.Omega.{arith}
use Rattle.sequence.proofs.Links.{head_of}
use Rattle.sequence.proofs.Sinks.{none, put_of}
use Rattle.kkt.specs.Matrix.{emitted}
use Rattle.kkt.proofs.Emitted.{puts_one}
use Rattle.kkt_chains.proofs.References.{first_reference, no_reference}
use Rattle.kkt_chains.proofs.put_reference.Goals as goal

pub returns-then-place-kkt-clause-puts : goal.returns-then-place-kkt-clause-puts
unfolding emitted
returns-then-place-kkt-clause-puts c = let f = head_of c.args.j _ c.requires.links c.requires.buses_in_bounds.1 c.wide-place.ensures.0 in rw (no_reference c.args.kkt.now.grid.plan.counts c.args.kkt.now.grid.plan.wiring.now c.args.j f c.if-place-kkt.true) none

pub returns-clause-puts : goal.returns-clause-puts
returns-clause-puts c = let f = head_of c.args.j _ c.requires.links c.requires.buses_in_bounds.1 c.wide-place.ensures.0 in rw (first_reference c.args.kkt.now.grid.plan.counts c.args.kkt.now.grid.plan.wiring.now c.args.j f (omega (arith, c.if-place-kkt))) (puts_one _ _ _ _ (put_of c.entry.ensures c.put.ensures.puts))
