-- `sequence::laying::written` meets its contract: one pass below the limit. Assumes nothing.
use mathlib.Core.Path.{refl, sym}
use Rattle.sequence.proofs.Sheets.{once}
use Rattle.sequence.proofs.laying.written.Goals as goal

pub returns : goal.returns
returns g c ts h l = let q = h _ _ _ refl c.put.ensures in
    rw (c.rows-1.given.1.1 (sym q.same_rows), c.cols-1.given.1.1 (sym q.same_cols), c.values-1.given.1.1 (sym q.same_values))
    (once refl q.puts l c.requires.limit_in_bounds)
