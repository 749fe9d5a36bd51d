-- `opf_readback::put_picked` meets its contract: a word more each turn, the rank carried along. Assumes nothing.
use mathlib.Core.Path.{◌≡◌}
use Prim.Native.Nat.{◌≤◌}
use Rattle.sequence.proofs.Fronts.{Fronted}
use Rattle.opf_layout.specs.Layout.{active_rank}
use Rattle.opf_readback.specs.Walks.{Tells, Gives, picked_at}
use Rattle.opf_readback.proofs.put_picked.Given as goal

abbrev pub invariant-loop-i : goal.invariant-loop-i
invariant-loop-i v l = ((on : _) (f : _) → Tells (goal.A-post v l.active) on → Gives (goal.O-post v l.other) f → Fronted (picked_at on l.block f) l.i l.initial.out l.out)
    × ((on : _) → Tells (goal.A-post v l.active) on → l.k ≡ active_rank on l.i)
    × (l.k ≤ l.i)
