-- `float64::base_high` meets its contract: the literals' bits. Assumes nothing.
use mathlib.Core.Path.{sym}
use Rattle.float64.proofs.Bits.{base_high-bits}
use Rattle.float64.proofs.base_high.Goals as goal

pub returns : goal.returns
returns c = sym base_high-bits
