-- `words::encode` meets its contract. The loop's invariant: the bytes of i numbers stand in front, and the rest is as it was. Assumes nothing.
use Rattle.std.proofs.Common.{◌≡◌, take}
use Rattle.sequence.specs.Lists.{front}
use Rattle.words.specs.Words.{joined}
use Rattle.words.proofs.encode.Given as goal

abbrev pub invariant-loop-i : goal.invariant-loop-i
invariant-loop-i g l = l.out ≡ front (joined g.T.ToBytes.bytes (take l.i l.from)) l.fn.out
