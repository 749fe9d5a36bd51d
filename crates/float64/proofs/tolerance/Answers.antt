-- `float64::tolerance` meets its contract: the literals' bits. Assumes nothing.
use mathlib.Core.Path.{sym}
use lib.Ieee.{div, of_bits}
use Rattle.float64.proofs.Bits.{tolerance_bits}
use Rattle.float64.proofs.tolerance.Goals as goal

pub returns : goal.returns
unfolding div of_bits
returns c = sym tolerance_bits
