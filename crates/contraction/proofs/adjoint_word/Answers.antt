-- `contraction::adjoint_word` meets its contract. The loop's invariant: the sum over the first r words. Assumes nothing.
use mathlib.Core.Path.{◌≡◌, ◌∙◌}
use native.Mathlib.Omega.{arith}
use lib.ListN.{length}
use Rattle.sequence.proofs.Lists.{turns_none, turns_more}
use Rattle.contraction.specs.Contraction.{gathered, adjoint_word}
use Rattle.contraction.proofs.adjoint_word.Goals.{then-v, else-v}
use Rattle.contraction.proofs.adjoint_word.Goals as goal

pub loop-r-init : goal.loop-r-init
unfolding gathered
loop-r-init c = turns_none _ _

pub loop-r-preserved : goal.loop-r-preserved
unfolding gathered
loop-r-preserved c = let l = c.loop-r in
    elim c.if-v.branch [ then-v w ↦ w.sum-is ∙ rw (turns_more, l.invariant, w.if-v.true) | else-v w ↦ w.sum-is ∙ rw (turns_more, l.invariant, w.if-v.false) ]

pub returns : goal.returns
unfolding adjoint_word
returns c = let e : c.loop-r.r ≡ length c.args.parameter.now = omega arith in
    rw (rw e at c.loop-r.invariant)
