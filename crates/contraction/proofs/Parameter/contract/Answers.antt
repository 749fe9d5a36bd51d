-- `contraction::Parameter::contract` meets its contract. The loop's invariant: word c is stored of each element passed. Assumes nothing.
use mathlib.Core.Path.{◌≡◌, refl, ◌∙◌}
use native.Mathlib.Omega.{arith}
use lib.ListN.{length-set}
use Rattle.sequence.proofs.Lists.{turns_none, turns_more}
use Rattle.contraction.proofs.Parameter.contract.Goals as goal

pub loop-element-init : goal.loop-element-init
loop-element-init c = (turns_none _ _, refl)

pub word-requires : goal.word-requires
word-requires c = c.column.ensures.long ∙ c.requires.dim

pub loop-element-preserved : goal.loop-element-preserved
loop-element-preserved c = let l = c.loop-element in
    (rw (turns_more, ← l.invariant.0, ← c.column.ensures.is, ← c.word.ensures), simp length-set l.invariant.1)

pub returns : goal.returns
returns c = let e : c.loop-element.element ≡ c.args.solved.columns = omega arith in
    rw e at c.loop-element.invariant.0
