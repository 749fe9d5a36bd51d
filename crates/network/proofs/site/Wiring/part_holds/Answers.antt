-- `network::site::Wiring::part_holds` meets its contract. The loop's invariant: each word passed is below the limit. Assumes nothing.
use mathlib.Core.Path.{◌≡◌, sym}
use Prim.Native.Nat.{◌≤◌, ◌<◌}
use native.Mathlib.Omega.{arith}
use borrow.Author.Tests.{le-ltb, lt-ltb}
use Rattle.sequence.proofs.Lists.{every_none, every_more, every_fails}
use Rattle.network.specs.Layout.{part_size}
use Rattle.network.specs.Numbers.{part_limit, part_holds}
use Rattle.network.proofs.site.Wiring.part_holds.Goals as goal

pub returns-then-limit-word : goal.returns-then-limit-word
unfolding part_holds
returns-then-limit-word c = let h : part_limit c.args.self.now.counts c.args.p ≤ c.word.result = omega arith in
    sym (every_fails _ c.loop-i.i _ (omega arith) (le-ltb _ _ (rw c.word.ensures.0 at h)))

pub loop-i-preserved : goal.loop-i-preserved
loop-i-preserved c = let h : c.word.result < part_limit c.args.self.now.counts c.args.p = omega arith in
    (omega arith, c.loop-i.invariant.1, c.loop-i.invariant.2, every_more _ c.loop-i.i c.loop-i.invariant.3 (lt-ltb _ _ (rw c.word.ensures.0 at h)))

pub returns : goal.returns
unfolding part_holds
returns c = let e : c.loop-i.i ≡ part_size c.args.self.now.counts c.args.p = omega arith in
    sym (rw e at c.loop-i.invariant.3)

pub loop-i-init : goal.loop-i-init
loop-i-init c = (omega arith, c.part_size-to.ensures, c.part_limit-limit.ensures, every_none _)
