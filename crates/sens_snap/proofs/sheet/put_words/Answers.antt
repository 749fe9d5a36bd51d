-- `sens_snap::sheet::put_words` meets its contract: a word more each turn. Assumes nothing.
use mathlib.Core.Path.{◌≡◌}
use native.Mathlib.Omega.{arith}
use Rattle.solution.specs.Sheet.{size}
use Rattle.snapping.specs.Snap.{plain_words}
use Rattle.sequence.proofs.Fronts.{none, more}
use Rattle.sens_snap.proofs.Stores.{all_made}
use Rattle.sens_snap.proofs.sheet.put_words.Goals as goal

pub loop-i-init : goal.loop-i-init
loop-i-init c = none _ _

pub loop-i-preserved : goal.loop-i-preserved
loop-i-preserved c = more _ c.loop-i-test.true c.loop-i.invariant c.snapped_at.ensures

pub returns : goal.returns
unfolding plain_words
returns c = let l = c.loop-i in
    let e : l.i ≡ size c.args.point.now.grid.plan.counts c.args.point.now.pieces c.args.e = omega arith in
    all_made (rw e at l.invariant) c.requires
