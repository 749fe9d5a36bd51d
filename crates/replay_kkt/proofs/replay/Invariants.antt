-- `replay_kkt::replay` ends within its slice: the place stays in it, and no more cases are counted than bytes. Assumes nothing.
use Prim.Native.Nat.{◌≤◌}
use lib.ListN.{length}
use Rattle.replay_kkt.proofs.replay.Given as goal

abbrev pub invariant-loop : goal.invariant-loop
invariant-loop l = (l.at ≤ length l.b) × (l.cases ≤ l.at) × (l.wrong ≤ l.at)
