-- `sens_snap::sheet::put_segment_duals` meets its contract: a generator more each turn, its rank and its first segment carried along. Assumes nothing.
use Prim.Native.Nat.{◌-◌, ◌≤◌}
use mathlib.Core.Path.{◌≡◌}
use Rattle.network.specs.Layout.{segment_start}
use Rattle.solution.specs.Sheet.{piece_rank}
use Rattle.snapping.specs.Snap.{segment_words}
use Rattle.sens_snap.proofs.Stores.{Runs}
use Rattle.sens_snap.proofs.sheet.put_segment_duals.Given as goal

abbrev pub invariant-loop-j : goal.invariant-loop-j
invariant-loop-j l = Runs (segment_words l.counted.point.grid.plan.counts l.counted.point.grid.plan.wiring.now l.counted.point.pieces l.counted.point.grid.plan.readings.now l.counted.point.sheet.now) 0 l.j l.start l.initial.out l.out
    × (l.j ≤ l.to)
    × (l.to ≡ l.counted.point.grid.plan.counts.generators)
    × (l.to ≤ 256)
    × (l.g ≡ piece_rank l.counted.point.grid.plan.counts l.counted.point.grid.plan.wiring.now l.j)
    × (l.g ≤ l.j)
    × (l.start ≡ segment_start l.counted.point.grid.plan.counts l.counted.point.grid.plan.wiring.now l.j)
    × (l.start ≤ 1024)

abbrev pub decreases-loop-j : goal.decreases-loop-j
decreases-loop-j l = l.to - l.j
