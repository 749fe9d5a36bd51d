-- `sens_operands::put_rows` meets its contract, word by word. Assumes nothing.
use mathlib.Core.Path.{◌≡◌, refl, ◌∙◌}
use native.Mathlib.Omega.{arith}
use lib.ListN.{length}
use Rattle.sequence.proofs.Fronts.{none, more}
use Rattle.sens_operands.proofs.Returns.{whole}
use Rattle.sens_operands.proofs.put_rows.Goals as goal

pub loop-i-init : goal.loop-i-init
loop-i-init c = none _ _

pub loop-i-preserved : goal.loop-i-preserved
loop-i-preserved c = let l = c.loop-i in more _ (omega arith) l.invariant refl

pub returns : goal.returns
returns c = let l = c.loop-i in
    let e : l.i ≡ length c.args.rows.now = omega arith in
    (rw e at l.invariant.is) ∙ whole _ c.args.rows.now
