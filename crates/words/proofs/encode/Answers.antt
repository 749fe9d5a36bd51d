-- `words::encode` meets its contract: the bytes of one number more stand in front. Assumes nothing.
use mathlib.Core.Path.{◌≡◌, refl, ap}
use mathlib.Core.List.{[]}
use native.Mathlib.Omega.{arith}
use lib.ListN.{length}
use Rattle.sequence.specs.Lists.{front}
use Rattle.words.specs.Words.{joined}
use Rattle.words.proofs.Laws.{joined_turn}
use Rattle.words.proofs.Stored.{place}
use Rattle.words.proofs.encode.Goals as goal

pub loop-i-init : goal.loop-i-init
unfolding joined front
loop-i-init g c = refl

pub loop-i-preserved : goal.loop-i-preserved
loop-i-preserved g c = let own = c.args in let t = g.T.ToBytes in
    joined_turn t.bytes g.T.FromBytes.SIZE g.met.T.ToBytes.sized own.from.now c.loop-i.i c.index-from-i.result own.out.now c.loop-i.out (t.bytes c.index-from-i.result) c.put.new.out (omega arith) (place g.T.FromBytes.SIZE _ _ c.loop-i-test.true c.requires) c.loop-i.invariant (ap t.bytes c.index-from-i.is) c.put.ensures
