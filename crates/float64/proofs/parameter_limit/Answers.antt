-- `float64::parameter_limit` meets its contract: the literals' bits. Assumes nothing.
use mathlib.Core.Path.{sym}
use lib.Ieee.{of_bits}
use Rattle.float64.proofs.Bits.{parameter_limit-bits}
use Rattle.float64.proofs.parameter_limit.Goals as goal

pub returns : goal.returns
unfolding of_bits
returns c = (sym parameter_limit-bits, tt)
