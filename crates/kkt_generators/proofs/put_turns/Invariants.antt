-- `kkt_generators::put_turns` meets its contract: a generator more each turn, its rank and its first segment carried along, and within it a segment more. Assumes nothing.
use mathlib.Core.Path.{◌≡◌}
use Prim.Native.Nat.{◌+◌, ◌*◌, ◌≤◌}
use Rattle.sequence.specs.Lists.{each}
use Rattle.sequence.specs.Sinks.{Gains}
use Rattle.network.specs.Layout.{segment_start}
use Rattle.solution.specs.Sheet.{piece_rank}
use Rattle.kkt_generators.specs.Turns.{OwnIs, SegmentIs, turn}
use Rattle.kkt_generators.proofs.put_turns.Given as goal

abbrev pub invariant-loop-t : goal.invariant-loop-t
invariant-loop-t v l = ((g : _) → SegmentIs (goal.S-post v l.of_segment) g → Gains (each l.t (λ t. g l.j l.rank (l.start + t))) l.initial.sink l.sink)
    × (l.sink.count ≤ l.initial.sink.count + 3 * l.t)
    × (l.t ≤ l.count)

abbrev pub invariant-loop-j : goal.invariant-loop-j
invariant-loop-j v l = ((f : _) (g : _) → OwnIs (goal.O-post v l.own) f → SegmentIs (goal.S-post v l.of_segment) g → Gains (each l.j (turn l.grid.plan.counts l.grid.plan.wiring.now f g)) l.initial.sink l.sink)
    × (l.sink.count ≤ l.initial.sink.count + 4 * l.j + 3 * l.start)
    × (l.j ≤ l.grid.plan.counts.generators)
    × (l.grid.plan.counts.generators ≤ 256)
    × (l.rank ≡ piece_rank l.grid.plan.counts l.grid.plan.wiring.now l.j)
    × (l.rank ≤ l.j)
    × (l.start ≡ segment_start l.grid.plan.counts l.grid.plan.wiring.now l.j)
    × (l.start ≤ 1024)
