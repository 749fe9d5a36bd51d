-- `kkt::put_all` meets its contract: a triplet more each turn. Assumes nothing.
use Prim.Native.Nat.{◌+◌, ◌≤◌}
use lib.ListN.{take}
use Rattle.sequence.specs.Sinks.{Gains}
use Rattle.kkt.specs.Walks.{emits}
use Rattle.kkt.proofs.put_all.Given as goal

abbrev pub invariant-loop-triplet : goal.invariant-loop-triplet
invariant-loop-triplet n l = Gains (emits (take l.triplet-index l.triplet-items)) l.initial.sink l.sink × (l.sink.count ≤ l.initial.sink.count + l.triplet-index)
