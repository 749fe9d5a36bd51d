-- `words::decode` meets its contract. The loop's invariant: i numbers stand in front, and the rest is as it was. Assumes nothing.
use Rattle.std.proofs.Common.{◌≡◌}
use Rattle.sequence.specs.Lists.{made, front}
use Rattle.words.proofs.decode.Given as goal

abbrev pub invariant-loop-i : goal.invariant-loop-i
invariant-loop-i g l = l.into ≡ front (made (g.T.FromBytes.nth l.bytes) l.i) l.fn.into
