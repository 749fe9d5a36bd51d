-- `network::check::indexes_below` meets its contract. The loop's invariant: each index passed is below the limit. Assumes nothing.
use mathlib.Core.Path.{◌≡◌, sym}
use native.Mathlib.Omega.{arith}
use borrow.Author.Tests.{le-ltb, lt-ltb}
use Rattle.sequence.proofs.Lists.{every_none, every_more, every_fails}
use Rattle.network.proofs.check.indexes_below.Goals as goal

pub returns-then-limit-wide : goal.returns-then-limit-wide
returns-then-limit-wide c = sym (every_fails _ c.loop-t.t _ (omega arith) (le-ltb _ _ (rw c.wide.ensures.0 at c.if-limit-wide.true)))

pub loop-t-preserved : goal.loop-t-preserved
loop-t-preserved c = (omega arith, every_more _ c.loop-t.t c.loop-t.invariant.1 (lt-ltb _ _ (rw c.wide.ensures.0 at c.if-limit-wide.false)))

pub returns : goal.returns
returns c = let e : c.loop-t.t ≡ c.args.count = omega arith in
    sym (rw e at c.loop-t.invariant.1)

pub loop-t-init : goal.loop-t-init
loop-t-init c = (omega arith, every_none _)
