-- `model::cost::piecewise` meets its contract. The loop's invariant: the best of the first s segments, from minus infinity on. Assumes nothing.
use mathlib.Core.Path.{◌≡◌}
use mathlib.Core.Bool.{true}
use Prim.Native.Nat.{◌+◌, ◌-◌, ◌≤◌}
use lib.Ieee.{inf}
use Rattle.sequence.specs.Lists.{turns}
use Rattle.model.specs.Quantities.{segment_value, larger}
use Rattle.model.proofs.cost.piecewise.Given as goal

abbrev pub invariant-loop-s : goal.invariant-loop-s
invariant-loop-s l = (l.best ≡ turns (λ k a. larger a (segment_value l.grid.plan.counts l.grid.plan.readings.now l.power (l.at + k))) (inf true) l.s) × (l.s ≤ l.count)

abbrev pub decreases-loop-s : goal.decreases-loop-s
decreases-loop-s l = l.count - l.s
