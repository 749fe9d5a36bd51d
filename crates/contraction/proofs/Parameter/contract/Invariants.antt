-- `contraction::Parameter::contract` meets its contract. The loop's invariant: word c is stored of each element passed. Assumes nothing.
use mathlib.Core.Path.{◌≡◌}
use lib.ListN.{length}
use Rattle.contraction.specs.Contraction.{column, adjoint_word}
use Rattle.contraction.proofs.Strides.{down}
use Rattle.contraction.proofs.Parameter.contract.Given as goal

abbrev pub invariant-loop-element : goal.invariant-loop-element
invariant-loop-element l = (l.out ≡ down (λ o c. adjoint_word l.fn.sign (length l.fn.self.words.now) l.fn.self.words.now (column l.fn.solved.dim l.fn.solved.words.now o)) l.fn.columns l.fn.c l.element l.initial.out)
    × (length l.out ≡ length l.initial.out)
