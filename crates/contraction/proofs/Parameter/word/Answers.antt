-- `contraction::Parameter::word` meets its contract: the terms that stand for a column have its sum. Assumes nothing.
use mathlib.Core.Path.{sym, ◌∙◌}
use Rattle.contraction.specs.Contraction.{forward_word, adjoint_word}
use Rattle.contraction.proofs.Parameter.word.Goals as goal

pub word-requires : goal.word-requires
word-requires c = c.requires ∙ sym (c.args.self.of_dim _ c.in-Some.is)

pub returns-in-Some : goal.returns-in-Some
unfolding forward_word adjoint_word
returns-in-Some c = rw (← (c.args.self.gathers _ c.in-Some.is).sum c.args.solved.now) c.word.ensures
