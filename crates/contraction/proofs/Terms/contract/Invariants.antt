-- `contraction::Terms::contract` meets its contract. The loop's invariant: the first c words are stored. Assumes nothing.
use lib.ListN.{length}
use Rattle.sequence.proofs.Fronts.{Fronted}
use Rattle.contraction.specs.Contraction.{column, forward_word}
use Rattle.contraction.proofs.Terms.contract.Given as goal

abbrev pub invariant-loop-c : goal.invariant-loop-c
invariant-loop-c l = Fronted (λ c. forward_word l.fn.sign l.fn.self.rows.now l.fn.self.weights.now 0 (length l.fn.self.rows.now) (column l.fn.solved.dim l.fn.solved.words.now c)) l.c l.initial.out l.out
