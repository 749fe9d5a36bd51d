-- `words::number` meets its contract: 0 / 0 is the one NaN, which `of_bits` gives at each of its patterns. Assumes nothing.
use mathlib.Core.Path.{sym}
use lib.Ieee.{div, of_bits}
use Rattle.words.proofs.Nan.{nan_above, no_nan_below}
use Rattle.words.proofs.number.Goals as goal

pub float_from_bits-result : goal.float_from_bits-result
float_from_bits-result c = no_nan_below c.args.bits c.if-bits-gt9218868437227405312.false

pub returns-then-bits-gt9218868437227405312 : goal.returns-then-bits-gt9218868437227405312
unfolding div of_bits
returns-then-bits-gt9218868437227405312 c = sym (nan_above c.args.bits c.if-bits-gt9218868437227405312.true)
