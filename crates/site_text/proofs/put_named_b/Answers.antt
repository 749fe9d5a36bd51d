-- `site_text::put_named_b` meets its contract. Assumes nothing.
use mathlib.Core.Path.{refl, ap}
use mathlib.Core.List.{List}
use lib.ListN.{take}
use Rattle.words.specs.Words.{joined}
use Rattle.change_table.specs.Table.{Cell}
use Rattle.job_book.specs.Run.{triplets}
use Rattle.site_text.specs.Text.{triplet_line, triplets_in}
use Rattle.site_text.proofs.Writing.{told}
use Rattle.site_text.proofs.Network.{wired_b, narrow_b, cells_b}
use Rattle.site_text.proofs.put_named_b.Goals as goal

pub invariant_of-plan-clause-wiring_laid : goal.invariant_of-plan-clause-wiring_laid
invariant_of-plan-clause-wiring_laid c = (wired_b c.wiring_b-wiring.ensures c.counts-c.ensures).laid

pub invariant_of-places : goal.invariant_of-places
invariant_of-places c = record { laid = (wired_b c.wiring_b-wiring.ensures c.counts-c.ensures).laid }

pub invariant_of-places-2 : goal.invariant_of-places-2
invariant_of-places-2 c = record { wired = wired_b c.wiring_b-wiring.ensures c.counts-c.ensures; narrow = narrow_b c.wiring_b-wiring.ensures c.counts-c.ensures c.readings_b-readings.ensures c.of.ensures.indexed }

pub returns-clause-wrote : goal.returns-clause-wrote
returns-clause-wrote c = let a = c.args in
    told
    (ap (λ (cells : List Cell). joined triplet_line (triplets_in cells (triplets (take a.count a.rows.now) (take a.count a.cols.now) (take a.count a.values.now))))
    (cells_b c.wiring_b-wiring.ensures c.counts-c.ensures c.readings_b-readings.ensures c.of.ensures.indexed a.asked.kind c.field_of-f.ensures refl))
    c.put_named.ensures.wrote
