-- `susceptance::end_at` meets its contract. Assumes nothing.
use Rattle.susceptance.specs.Incidence.{end_at}
use Rattle.susceptance.proofs.end_at.Goals as goal
use Rattle.susceptance.proofs.end_at.Goals.{then-is_from, else-is_from}

pub returns : goal.returns
unfolding end_at
returns c =
    elim c.if-is_from.branch [
      | then-is_from w ↦ rw (← c.is_from.ensures, w.if-is_from.true) (rw (w.part-is, c.branch_of.ensures) at c.word.ensures.0)
      | else-is_from w ↦ rw (← c.is_from.ensures, w.if-is_from.false) (rw (w.part-is, c.branch_of.ensures) at c.word.ensures.0)
    ]
