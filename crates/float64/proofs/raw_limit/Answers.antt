-- `float64::raw_limit` meets its contract: the literals' bits. Assumes nothing.
use mathlib.Core.Path.{sym}
use lib.Ieee.{of_bits}
use Rattle.float64.proofs.Bits.{raw_limit-bits}
use Rattle.float64.proofs.raw_limit.Goals as goal

pub returns : goal.returns
unfolding of_bits
returns c = (sym raw_limit-bits, tt)
