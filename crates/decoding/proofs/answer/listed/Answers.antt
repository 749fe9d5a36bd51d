-- `decoding::answer::listed` meets its contract. Assumes nothing.
use Rattle.decoding.specs.Exports.{laid_out}
use Rattle.decoding.proofs.answer.listed.Goals as goal

pub returns : goal.returns
unfolding laid_out
returns c = rw (c.pack.ensures, c.encode-3.ensures.out_after, c.encode-2.ensures.out_after, c.encode.ensures.out_after)
