-- `contraction::adjoint_word` meets its contract. The loop's invariant: the sum over the first r words. Assumes nothing.
use mathlib.Core.Path.{◌≡◌}
use Rattle.contraction.specs.Contraction.{gathered}
use Rattle.contraction.proofs.adjoint_word.Given as goal

abbrev pub invariant-loop-r : goal.invariant-loop-r
invariant-loop-r l = l.sum ≡ gathered l.parameter l.solved l.r
