-- `model::terms::term_sum` meets its contract. The loop's invariant: the sum of the first t terms. Assumes nothing.
use mathlib.Core.Path.{◌≡◌}
use Prim.Native.Nat.{◌+◌}
use native.Mathlib.Omega.{arith}
use Rattle.sequence.proofs.Lists.{turns_none, turns_more}
use Rattle.model.specs.Quantities.{term_sum}
use Rattle.model.proofs.terms.term_sum.Goals as goal

pub loop-t-init : goal.loop-t-init
unfolding term_sum
loop-t-init c = (turns_none _ _, omega arith)

pub overflow_cast-i : goal.overflow_cast-i
overflow_cast-i c = omega (arith, c.shared_slice_known-1.given (c.args.at + c.loop-t.t))

pub offset_bounds-xs-i : goal.offset_bounds-xs-i
offset_bounds-xs-i c = omega (arith, c.requires.by_index c.loop-t.t c.loop-t-test.true)

pub bounds-xs-i : goal.bounds-xs-i
bounds-xs-i c = c.requires.by_index c.loop-t.t c.loop-t-test.true

pub loop-t-preserved : goal.loop-t-preserved
unfolding term_sum
loop-t-preserved c = (rw (turns_more, c.loop-t.invariant.0), omega arith)

pub returns : goal.returns
returns c = let e : c.loop-t.t ≡ c.args.count = omega arith in
    rw e at c.loop-t.invariant.0
