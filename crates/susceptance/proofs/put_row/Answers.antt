-- `susceptance::put_row` meets its contract: the row's cells are the definition's. Assumes nothing.
use Rattle.std.proofs.Common.{rules}
use mathlib.Core.Bool.{not}
use lib.Dec.{eqb}
use lib.ListN.{get_or}
use lib.Ieee.{nan}
use Rattle.sequence.specs.Sheets.{item}
use Rattle.susceptance.specs.Incidence.{mark_at, cell_at}
use Rattle.susceptance.proofs.Incidence.{row_is}
use Rattle.susceptance.proofs.put_row.Goals as goal

pub make_row-requires-clause-row_room : goal.make_row-requires-clause-row_room
make_row-requires-clause-row_room c = c.requires.row_room

pub make_row-requires-clause-i_lt_buses : goal.make_row-requires-clause-i_lt_buses
make_row-requires-clause-i_lt_buses c = c.requires.i_lt_buses.0

pub returns-clause-puts : goal.returns-clause-puts
unfolding cell_at
returns-clause-puts c = let m = c.make_row.ensures in
    let a = c.make_row.new.acc in let h = c.make_row.new.hit in
    rw (row_is _ _ _ _ m) at
    (c.put_marked.ensures.puts (λ j. item (not (eqb (mark_at h j) 0)) c.args.i j (get_or a j nan)) (λ j t l p. search rules) (λ j l z. rw (m.covers j l z)))
