-- `words::decode` meets its contract: one number more stands in front, and all do. Assumes nothing.
use mathlib.Core.Path.{◌≡◌, refl, ◌∙◌}
use native.Mathlib.Omega.{arith}
use lib.ListN.{length}
use Rattle.sequence.specs.Lists.{made, front}
use Rattle.sequence.proofs.Fronts.{made_turn}
use Rattle.words.proofs.Stored.{front_whole}
use Rattle.words.proofs.decode.Goals as goal

pub loop-i-init : goal.loop-i-init
unfolding made front
loop-i-init g c = refl

pub loop-i-preserved : goal.loop-i-preserved
loop-i-preserved g c = made_turn (g.T.FromBytes.nth c.args.bytes.now) c.loop-i.i _ _ _ c.get.ensures (omega arith) c.loop-i.invariant

pub returns : goal.returns
returns g c = let e : c.loop-i.i ≡ length c.args.into.now = omega arith in
    (rw e at c.loop-i.invariant) ∙ front_whole (g.T.FromBytes.nth c.args.bytes.now) c.args.into.now
