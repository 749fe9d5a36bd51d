-- `contraction::gather_word` meets its contract: an entry more, or the same entries. Assumes nothing.
use Rattle.contraction.proofs.Gathers.{skip, more}
use Rattle.contraction.proofs.gather_word.Goals as goal

pub returns-then-v-clause-gathers_2 : goal.returns-then-v-clause-gathers_2
returns-then-v-clause-gathers_2 c = more c.requires.gathers c.requires.n_in_bounds.0 c.requires.n_in_bounds.1 c.if-v.true

pub returns-clause-gathers_2 : goal.returns-clause-gathers_2
returns-clause-gathers_2 c = skip c.requires.gathers c.if-v.false
