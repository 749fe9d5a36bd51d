-- `site_text::put_named` meets its contract. The loop's invariant: the lines of the first t triplets are written. Assumes nothing.
use Prim.Native.Nat.{◌+◌, ◌*◌, ◌≤◌}
use Rattle.kkt_index.specs.Index.{start_in}
use Rattle.change_table.specs.Table.{cells_of, cells_at}
use Rattle.site_text.specs.Writing.{Adds}
use Rattle.site_text.proofs.Named.{lines_of}
use Rattle.site_text.proofs.put_named.Given as goal

abbrev pub invariant-loop-t : goal.invariant-loop-t
invariant-loop-t l = Adds (lines_of (cells_at (start_in l.places.index) (cells_of l.places.wiring.counts l.places.wiring.words.now l.f l.i)) l.rows l.cols l.values l.t) l.initial.text l.text
    × (l.text.len ≤ l.initial.text.len + 59 * l.t)
