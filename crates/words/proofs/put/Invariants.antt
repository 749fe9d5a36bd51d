-- `words::put` meets its contract. The loop's invariant: with the bytes that are left stored too, out is as it is to be. Assumes nothing.
use mathlib.Core.Path.{◌≡◌}
use Prim.Native.Nat.{◌-◌, ◌+◌}
use lib.Seq.{sets}
use Rattle.words.specs.Words.{bytes_of}
use Rattle.words.proofs.put.Given as goal

abbrev pub invariant-loop-i : goal.invariant-loop-i
invariant-loop-i l = sets l.out (l.at + l.i) (bytes_of (l.k - l.i) l.rest) ≡ sets l.initial.out l.at (bytes_of l.k l.v)
