-- `kkt_index::KktIdx::snap_tol` meets its contract: the constant's bits. Assumes nothing.
use mathlib.Core.Path.{sym}
use Rattle.float64.proofs.Bits.{tolerance_bits}
use Rattle.kkt_index.proofs.KktIdx.snap_tol.Goals as goal

pub returns : goal.returns
returns c = sym tolerance_bits
