-- `network::site::Wiring::segment_sum` meets its contract. The loop's invariant: the sum of the words passed, far from wrapping. Assumes nothing.
use mathlib.Core.Path.{◌≡◌, refl}
use native.Mathlib.Omega.{arith}
use Rattle.sequence.proofs.Lists.{before_none, before_more}
use Rattle.network.proofs.site.Wiring.segment_sum.Goals as goal

pub loop-j-preserved : goal.loop-j-preserved
loop-j-preserved c = (omega arith, refl, rw before_more (omega (arith, c.loop-j.invariant.2)), omega arith)

pub returns : goal.returns
returns c = let e : c.loop-j.j ≡ c.args.self.now.counts.generators = omega arith in
    rw e at c.loop-j.invariant.2

pub loop-j-init : goal.loop-j-init
loop-j-init c = (omega arith, refl, before_none _, omega arith)
