-- `contraction::Terms::contract` meets its contract. The loop's invariant: the first c words are stored. Assumes nothing.
use mathlib.Core.Path.{◌≡◌, ◌∙◌}
use native.Mathlib.Omega.{arith}
use lib.ListN.{length}
use Rattle.sequence.proofs.Fronts.{none, more}
use Rattle.contraction.proofs.Columns.{front_whole}
use Rattle.contraction.proofs.Terms.contract.Goals as goal

pub loop-c-init : goal.loop-c-init
loop-c-init c = none _ _

pub loop-c-preserved : goal.loop-c-preserved
loop-c-preserved c = more _ (omega arith) c.loop-c.invariant (rw (← c.column.ensures.is) c.word.ensures)

pub returns : goal.returns
returns c = let e : c.loop-c.c ≡ length c.args.out.now = omega arith in
    (rw e at c.loop-c.invariant.is) ∙ front_whole _ c.args.out.now
