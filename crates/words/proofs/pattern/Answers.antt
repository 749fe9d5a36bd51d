-- `words::pattern` meets its contract: only the NaN differs from itself. Assumes nothing.
use lib.Ieee.{to_bits}
use Rattle.words.proofs.Nan.{nan_of, no_nan_of}
use Rattle.words.proofs.pattern.Goals as goal

pub float_to_bits-result : goal.float_to_bits-result
float_to_bits-result c = no_nan_of c.args.x c.if-x.false

pub returns-then-x : goal.returns-then-x
unfolding to_bits
returns-then-x c = rw (nan_of c.args.x c.if-x.true)
