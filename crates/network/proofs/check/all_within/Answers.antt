-- `network::check::all_within` meets its contract. Assumes nothing.
use mathlib.Core.Path.{◌≡◌, refl, sym}
use native.Mathlib.Omega.{arith}
use Rattle.sequence.proofs.Lists.{every_none, every_turn}
use lib.ListN.{length}
use Rattle.network.specs.Numbers.{all_within}
use Rattle.network.proofs.check.all_within.Goals as goal

pub loop-i-init : goal.loop-i-init
loop-i-init c = (omega arith, refl, sym (every_none _))

pub loop-i-preserved : goal.loop-i-preserved
loop-i-preserved c = let l = c.loop-i in
    (omega arith, refl, every_turn _ l.i l.invariant.2 c.within-ok.ensures refl)

pub returns : goal.returns
unfolding all_within
returns c = let e : c.loop-i.i ≡ length c.args.xs.now = omega arith in
    rw e at c.loop-i.invariant.2
