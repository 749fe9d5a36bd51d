-- `contraction::Terms::word` meets its contract. The loop's invariant: the sum of the first t terms. Assumes nothing.
use mathlib.Core.Path.{◌≡◌}
use native.Mathlib.Nat.{zero-add}
use native.Mathlib.Omega.{arith}
use lib.ListN.{length}
use Rattle.sequence.proofs.Lists.{turns_none, turns_more}
use Rattle.model.specs.Quantities.{term_sum}
use Rattle.contraction.specs.Contraction.{forward_word}
use Rattle.contraction.proofs.Terms.word.Goals as goal

pub loop-t-init : goal.loop-t-init
unfolding term_sum
loop-t-init c = turns_none _ _

pub loop-t-preserved : goal.loop-t-preserved
unfolding term_sum
loop-t-preserved c = rw (turns_more, zero-add, c.loop-t.invariant)

pub returns : goal.returns
unfolding forward_word
returns c = let e : c.loop-t.t ≡ length c.args.self.rows.now = omega arith in
    rw (rw e at c.loop-t.invariant)
