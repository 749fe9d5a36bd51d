-- `kkt_list::keep_in` meets its contract: the sink's arrays are the lent ones. Assumes nothing.
use mathlib.Core.Path.{sym}
use Rattle.kkt_list.proofs.keep_in.Goals as goal

pub returns : goal.returns
returns c = let q = c.keep_sums.ensures.cells in
    rw (c.buses-1.given.1.1 (sym q.same_rows), c.sums-1.given.1.1 (sym q.same_values)) c.keep_sums.ensures.kept
