-- `contraction::contract_columns` meets its contract. The loop's invariant: each element's first c words are stored. Assumes nothing.
use mathlib.Core.Path.{◌≡◌}
use lib.ListN.{length}
use Rattle.contraction.specs.Contraction.{column, adjoint_word}
use Rattle.contraction.proofs.Strides.{rows}
use Rattle.contraction.proofs.contract_columns.Given as goal

abbrev pub invariant-loop-c : goal.invariant-loop-c
invariant-loop-c l = (l.out ≡ rows (λ o c. adjoint_word l.fn.sign l.fn.parameter.dim (column l.fn.parameter.dim l.fn.parameter.words.now c) (column l.fn.parameter.dim l.fn.solved.words.now o)) l.fn.parameter.columns l.fn.solved.columns l.c l.initial.out) × (length l.out ≡ length l.initial.out)
