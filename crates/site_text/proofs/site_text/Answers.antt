-- `site_text::site_text` meets its contract. Assumes nothing.
use mathlib.Core.Path.{◌∙◌}
use native.Mathlib.Omega.{arith}
use Rattle.site_text.proofs.Printed.{printed_other, printed_change}
use Rattle.site_text.proofs.site_text.Goals as goal

pub returns-then-input-ne12-clause-out_after : goal.returns-then-input-ne12-clause-out_after
returns-then-input-ne12-clause-out_after c = c.put_first_line.ensures.wrote.text ∙ printed_other c.args.input.now (λ e. omega (arith, e, c.if-input-ne12.true))

pub returns-clause-out_after : goal.returns-clause-out_after
returns-clause-out_after c = c.put_change.ensures.wrote.text ∙ printed_change c.args.input.now (omega (arith, c.if-input-ne12.false)) c.of.ensures c.word32-head.ensures c.word32-low.ensures c.word32-high.ensures
