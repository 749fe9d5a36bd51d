-- `sens_parameters::lay_columns` meets its contract: a law for each return. Assumes nothing.
use mathlib.Core.Path.{refl}
use Rattle.sens_parameters.proofs.Laying.{indexes_of, flows_of, laid_short, laid_done}
use Rattle.sens_parameters.proofs.lay_columns.Goals as goal

pub returns-then-not-fits : goal.returns-then-not-fits
returns-then-not-fits c = let a = c.args in
    let s = a.solved.now.site in
    let g = s.grid.plan in
    rw c.of-index.ensures.indexed.pieces_is at (laid_short g.counts g.wiring.now s.term_index.now s.term_coefficient.now g.readings.now a.solved.now.sheet.now c.of-index.result a.parameter a.columns.now (indexes_of c.of-index.ensures.indexed c.of-index.ensures.narrow g.wiring_laid.few) a.sheet.now c.fits.ensures c.if-not-fits.true)

pub invariant_of-jacobian : goal.invariant_of-jacobian
invariant_of-jacobian c = let a = c.args in
    let s = a.solved.now.site in
    let g = s.grid.plan in
    record {
      same_pieces = refl;
      flows = flows_of g.counts g.wiring.now s.term_index.now s.term_coefficient.now c.of-index.result.pieces g.readings.now a.solved.now.sheet.now _ c.nu_flow_into.ensures.out_after (rw c.nu_flow_into.ensures.out_len_unchanged g.wiring_laid.few.branches);
      indexes = indexes_of c.of-index.ensures.indexed c.of-index.ensures.narrow g.wiring_laid.few;
    }

pub returns : goal.returns
returns c = let a = c.args in
    let s = a.solved.now.site in
    let g = s.grid.plan in
    rw c.of-index.ensures.indexed.pieces_is at (laid_done g.counts g.wiring.now s.term_index.now s.term_coefficient.now g.readings.now a.solved.now.sheet.now c.of-index.result a.parameter a.columns.now (indexes_of c.of-index.ensures.indexed c.of-index.ensures.narrow g.wiring_laid.few) a.sheet.now c.fits.ensures c.if-not-fits.false c.fill_sheet.ensures)
