-- `float64::base_low` meets its contract: the literals' bits. Assumes nothing.
use mathlib.Core.Path.{sym}
use lib.Ieee.{div, of_bits}
use Rattle.float64.proofs.Bits.{base_low-bits}
use Rattle.float64.proofs.base_low.Goals as goal

pub returns : goal.returns
unfolding div of_bits
returns c = sym base_low-bits
