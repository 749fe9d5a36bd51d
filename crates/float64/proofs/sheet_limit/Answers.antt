-- `float64::sheet_limit` meets its contract: the literals' bits. Assumes nothing.
use mathlib.Core.Path.{sym}
use lib.Ieee.{of_bits}
use Rattle.float64.proofs.Bits.{sheet_limit-bits}
use Rattle.float64.proofs.sheet_limit.Goals as goal

pub returns : goal.returns
unfolding of_bits
returns c = (sym sheet_limit-bits, tt)
