-- `network::site::Wiring::term_sum` meets its contract. The loop's invariant: the sum of the words passed, far from wrapping. Assumes nothing.
use mathlib.Core.Path.{◌≡◌, refl}
use native.Mathlib.Omega.{arith}
use Rattle.sequence.proofs.Lists.{before_none, before_more}
use Rattle.network.proofs.site.Wiring.term_sum.Goals as goal

pub loop-q-preserved : goal.loop-q-preserved
loop-q-preserved c = (omega arith, refl, rw (before_more, ← c.loop-q.invariant.2, c.row_terms-sum.ensures.0), omega arith)

pub returns : goal.returns
returns c = let e : c.loop-q.q ≡ c.args.self.now.counts.rows = omega arith in
    rw e at c.loop-q.invariant.2

pub loop-q-init : goal.loop-q-init
loop-q-init c = (omega arith, refl, before_none _, omega arith)
