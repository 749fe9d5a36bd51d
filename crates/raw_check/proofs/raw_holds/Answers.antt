-- `raw_check::raw_holds` meets its contract: each vector's words, then the raw objective. Assumes nothing.
use mathlib.Core.Path.{sym, ◌∙◌}
use Rattle.sequence.proofs.Lists.{failed, held, never}
use Rattle.raw_check.specs.Tests.{raw_holds}
use Rattle.raw_check.proofs.raw_holds.Goals.{then-all_within, else-all_within}
use Rattle.raw_check.proofs.raw_holds.Goals as goal

pub returns-then-all_within-2 : goal.returns-then-all_within-2
unfolding raw_holds
returns-then-all_within-2 c = let l = c.raw_limit-limit.ensures.0 in
    elim c.if-all_within.branch [
      | then-all_within w ↦ rw (rw l at (held c.all_within.ensures w.if-all_within.true), rw l at (held w.all_within-then-all_within.ensures (sym w.value-is ∙ c.if-all_within-2.true))) (rw l at c.within.ensures)
      | else-all_within w ↦ never (sym w.if-all_within.false ∙ sym w.value-is ∙ c.if-all_within-2.true)
    ]

pub returns-else-all_within-2 : goal.returns-else-all_within-2
unfolding raw_holds
returns-else-all_within-2 c = let l = c.raw_limit-limit.ensures.0 in
    elim c.if-all_within.branch [
      | then-all_within w ↦ rw (rw l at (held c.all_within.ensures w.if-all_within.true), rw l at (failed w.all_within-then-all_within.ensures (sym w.value-is ∙ c.if-all_within-2.false))) c.if-all_within-2.false
      | else-all_within w ↦ rw (rw l at (failed c.all_within.ensures w.if-all_within.false)) c.if-all_within-2.false
    ]
