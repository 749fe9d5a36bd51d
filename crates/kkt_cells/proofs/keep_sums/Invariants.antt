-- `kkt_cells::keep_sums` meets its contract: a bus's sums more each turn, and where the next one's start. Assumes nothing.
use Prim.Native.Nat.{ℕ, ◌-◌, ◌*◌, ◌≤◌, ◌<◌}
use mathlib.Core.Path.{◌≡◌}
use lib.ListN.{length, get_or}
use Rattle.sequence.specs.Lists.{each}
use Rattle.sequence.specs.Sinks.{Gains}
use Rattle.kkt_cells.specs.Cells.{cells_of, cell_start}
use Rattle.kkt_cells.proofs.keep_sums.Given as goal

abbrev pub invariant-loop-j : goal.invariant-loop-j
invariant-loop-j l = Gains (each l.j (cells_of l.ends.grid.plan.counts l.ends.grid.plan.wiring.now l.ends.grid.plan.readings.now)) l.initial.sink l.sink
    × ((i : ℕ) → i ≤ l.j → get_or l.starts i 0 ≡ cell_start l.ends.grid.plan.counts l.ends.grid.plan.wiring.now l.ends.grid.plan.readings.now i)
    × (l.sink.count ≤ 256 * l.j)
    × (l.j ≤ l.ends.grid.plan.counts.buses)
    × (length l.acc ≡ length l.initial.acc)
    × (length l.hit ≡ length l.initial.hit)
    × (length l.starts ≡ length l.initial.starts)
    × (l.ends.grid.plan.counts.buses < length l.starts)
    × (l.ends.grid.plan.counts.buses ≤ 256)

abbrev pub decreases-loop-j : goal.decreases-loop-j
decreases-loop-j l = l.ends.grid.plan.counts.buses - l.j
