-- `opf_readback::cost_sum` meets its contract. The loop's invariant: the cost of the generators passed. Assumes nothing.
use mathlib.Core.Path.{◌≡◌}
use Rattle.opf_readback.specs.Walks.{cost_sum}
use Rattle.opf_readback.proofs.cost_sum.Given as goal

abbrev pub invariant-loop-j : goal.invariant-loop-j
invariant-loop-j l = l.sum ≡ cost_sum l.grid.plan.counts l.grid.plan.wiring.now l.grid.plan.readings.now l.pg l.j
