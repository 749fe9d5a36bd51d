-- `model::terms::term_sum` meets its contract. The loop's invariant: the sum of the first t terms. Assumes nothing.
use mathlib.Core.Path.{◌≡◌}
use Prim.Native.Nat.{◌-◌, ◌≤◌}
use Rattle.model.specs.Quantities.{term_sum}
use Rattle.model.proofs.terms.term_sum.Given as goal

abbrev pub invariant-loop-t : goal.invariant-loop-t
invariant-loop-t l = (l.sum ≡ term_sum l.term_index l.term_coefficient l.xs l.at l.t) × (l.t ≤ l.count)

abbrev pub decreases-loop-t : goal.decreases-loop-t
decreases-loop-t l = l.count - l.t
