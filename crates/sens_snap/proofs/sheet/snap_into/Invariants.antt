-- `sens_snap::sheet::snap_into` meets its contract: an entry more each turn, its place carried along. Assumes nothing.
use mathlib.Core.Path.{◌≡◌}
use lib.ListN.{get_or}
use Rattle.sequence.specs.Layout.{start}
use Rattle.solution.specs.declared.Entry.TheVariants.{Va}
use Rattle.solution.specs.Sheet.{entries, sizes}
use Rattle.snapping.specs.Snap.{entry_words}
use Rattle.sens_snap.proofs.Stores.{Runs}
use Rattle.sens_snap.proofs.sheet.snap_into.Given as goal

abbrev pub invariant-loop-e : goal.invariant-loop-e
invariant-loop-e l = Runs (λ k. entry_words l.counted.point.grid.plan.counts l.counted.point.grid.plan.wiring.now l.counted.point.pieces l.counted.point.grid.plan.readings.now l.counted.point.sheet.now (get_or entries k Va)) 0 l.e-index l.at l.initial.out l.out × (l.at ≡ start (sizes l.counted.point.grid.plan.counts l.counted.point.pieces) l.e-index)
