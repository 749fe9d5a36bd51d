-- `decoding::answer::answered` meets its contract. Assumes nothing.
use Rattle.decoding.specs.Exports.{filled_out}
use Rattle.decoding.proofs.answer.answered.Goals as goal

pub returns : goal.returns
unfolding filled_out
returns c = rw (c.pack.ensures, c.encode.ensures.out_after)
