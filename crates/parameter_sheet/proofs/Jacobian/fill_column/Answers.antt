-- `Jacobian::fill_column` meets its contract: blank, then touched. Assumes nothing.
use mathlib.Core.Path.{sym, ◌∙◌}
use lib.Ieee.{of_bits, of_int}
use Rattle.float64.specs.Values.{whole}
use Rattle.parameter_sheet.proofs.Filling.{column_is}
use Rattle.parameter_sheet.proofs.Jacobian.fill_column.Goals as goal

pub returns : goal.returns
unfolding whole of_int of_bits
returns c = let j = c.args.self.now in
    let s = j.site in
    let g = s.point.grid.plan in
    let x = j.indexes in
    let q = c.mark_column.ensures in
    rw (c.words-2-1.given.1.1 (sym q.same_words))
    (column_is g.counts g.wiring.now s.term_index.now s.term_coefficient.now g.readings.now s.point.sheet.now j.index j.parameter c.args.i c.args.words.now x.indexed x.linear (c.requires.1 ∙ x.indexed.dim_is) j.same_pieces (c.fill.ensures.after (λ y e. e)) q.touched)
