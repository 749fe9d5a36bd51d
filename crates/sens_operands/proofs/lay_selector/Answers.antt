-- `sens_operands::lay_selector` meets its contract: a law for each return. Assumes nothing.
use mathlib.Core.Path.{◌∙◌}
use Rattle.sens_operands.specs.Calls.{selection}
use Rattle.sens_operands.proofs.Returns.{short_of_lem, same_rows, lay_short, lay_done}
use Rattle.sens_operands.proofs.lay_selector.Goals as goal

pub returns-then-is_short : goal.returns-then-is_short
returns-then-is_short c = let a = c.args in
    let t = a.site.grid.plan in
    lay_short t.counts t.wiring.now t.readings.now a.k (selection a.sign.now a.counts.now a.rows.now a.weights.now) (short_of_lem t.counts t.wiring.now t.readings.now a.k a.sign.now a.counts.now a.rows.now a.weights.now c.elements-n.ensures c.is_short.ensures) c.if-is_short.true

pub returns : goal.returns
returns c = let a = c.args in
    let t = a.site.grid.plan in
    let s = selection a.sign.now a.counts.now a.rows.now a.weights.now in
    lay_done t.counts t.wiring.now t.readings.now a.k s (short_of_lem t.counts t.wiring.now t.readings.now a.k a.sign.now a.counts.now a.rows.now a.weights.now c.elements-n.ensures c.is_short.ensures) c.if-is_short.false
    (c.put_selector.ensures ∙ same_rows t.counts t.wiring.now t.readings.now a.k s c.start_of.ensures.0 c.elements-n.ensures)
    c.elements-n.ensures
