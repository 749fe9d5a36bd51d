-- `snapping::row_value` meets its contract: the two parts are as long as the row's indexes ask, and hold the sheet's words. Assumes nothing.
use mathlib.Core.Path.{◌∙◌}
use Rattle.snapping.proofs.Rows.{flows_length, powers_length, row_is}
use Rattle.snapping.proofs.row_value.Goals as goal

pub evaluate_at-requires-clause-wired : goal.evaluate_at-requires-clause-wired
evaluate_at-requires-clause-wired c = c.requires.wired

pub evaluate_at-requires-clause-termed : goal.evaluate_at-requires-clause-termed
evaluate_at-requires-clause-termed c = c.requires.termed

pub evaluate_at-requires-clause-q_lt_rows : goal.evaluate_at-requires-clause-q_lt_rows
evaluate_at-requires-clause-q_lt_rows c = c.requires.q_lt_rows

pub evaluate_at-requires-clause-f_len : goal.evaluate_at-requires-clause-f_len
evaluate_at-requires-clause-f_len c = flows_length c.requires.sheet_laid

pub evaluate_at-requires-clause-pg_len : goal.evaluate_at-requires-clause-pg_len
evaluate_at-requires-clause-pg_len c = powers_length c.requires.sheet_laid

pub returns : goal.returns
returns c = λ R. c.evaluate_at.ensures ∙ row_is R c.args.c c.args.p c.args.sheet.now c.args.q c.requires.termed c.requires.q_lt_rows
