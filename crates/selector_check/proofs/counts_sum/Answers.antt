-- `selector_check::counts_sum` meets its contract. The loop's invariant: what is left, with the counts passed, is n. Assumes nothing.
use mathlib.Core.Path.{◌≡◌}
use native.Mathlib.Omega.{arith}
use lib.ListN.{length, get_or}
use Rattle.sequence.proofs.Lists.{before_none, before_more}
use Rattle.selector_check.proofs.Numbers.{too_many, left_over}
use Rattle.selector_check.proofs.counts_sum.Goals as goal

pub loop-count-init : goal.loop-count-init
loop-count-init c = omega (arith, before_none (λ i. get_or c.args.counts.now i 0))

pub returns-in_default : goal.returns-in_default
returns-in_default c = let n = c.args.counts.now in
    too_many (λ i. get_or n i 0) c.loop-count.count-index (length n) _ _ c.loop-count-test.true c.loop-count.invariant (omega (arith, c.wide.ensures.0, c.in_default.ensures))

pub loop-count-preserved : goal.loop-count-preserved
loop-count-preserved c = let n = c.args.counts.now in
    omega (arith, before_more (λ i. get_or n i 0) c.loop-count.count-index, c.loop-count.invariant, c.wide.ensures.0, c.in-Some.ensures)

pub returns : goal.returns
returns c = let l = c.loop-count in
    let e : l.count-index ≡ length c.args.counts.now = omega arith in
    left_over _ _ _ (rw e at l.invariant)
