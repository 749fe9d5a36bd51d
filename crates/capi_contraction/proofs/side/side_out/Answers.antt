-- `capi_contraction::side::side_out` meets its contract: the part's length, and its bytes where they have room. Assumes nothing.
use native.Mathlib.Omega.{arith}
use Rattle.capi_contraction.proofs.Sided.{part_written, part_kept}
use Rattle.capi_contraction.proofs.side.side_out.Goals as goal

pub returns-then-n-sheet : goal.returns-then-n-sheet
returns-then-n-sheet c = part_written _ _ _ c.right_side-part.ensures (omega (arith, c.if-n-sheet.true)) c.encode.ensures.out_after

pub returns-else-n-sheet : goal.returns-else-n-sheet
returns-else-n-sheet c = part_kept _ _ _ c.right_side-part.ensures (omega (arith, c.if-n-sheet.false))
