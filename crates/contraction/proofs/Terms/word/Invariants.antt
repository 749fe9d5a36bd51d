-- `contraction::Terms::word` meets its contract. The loop's invariant: the sum of the first t terms. Assumes nothing.
use mathlib.Core.Path.{◌≡◌}
use Rattle.model.specs.Quantities.{term_sum}
use Rattle.contraction.proofs.Terms.word.Given as goal

abbrev pub invariant-loop-t : goal.invariant-loop-t
invariant-loop-t l = l.sum ≡ term_sum l.fn.self.rows.now l.fn.self.weights.now l.solved 0 l.t
