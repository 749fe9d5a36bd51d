-- `solution_check::sheet_is_long` meets its contract: where the network's sizes hold, the lengths are compared. Assumes nothing.
use Rattle.sequence.proofs.Lists.{failed, held}
use Rattle.network.proofs.Tests.{sized_nine, sized_few, sized_wiring}
use Rattle.solution_check.specs.Tests.{solution_long}
use Rattle.solution_check.proofs.Own.{apart}
use Rattle.solution_check.proofs.sheet_is_long.Goals as goal

pub returns-then-not-sizes_hold : goal.returns-then-not-sizes_hold
returns-then-not-sizes_hold c = λ e. absurd (apart _ e (failed c.sizes_hold.ensures c.if-not-sizes_hold.true))

pub counts-c-requires : goal.counts-c-requires
counts-c-requires c = sized_nine _ (held c.sizes_hold.ensures c.if-not-sizes_hold.false)

pub piece_count-requires : goal.piece_count-requires
piece_count-requires c = rw c.counts-c.ensures (sized_wiring _ (held c.sizes_hold.ensures c.if-not-sizes_hold.false))

pub sheet_length-requires-clause-few : goal.sheet_length-requires-clause-few
sheet_length-requires-clause-few c = rw c.counts-c.ensures (sized_few _ (held c.sizes_hold.ensures c.if-not-sizes_hold.false))

pub sheet_length-requires-clause-p_le_generators : goal.sheet_length-requires-clause-p_le_generators
sheet_length-requires-clause-p_le_generators c = c.piece_count.ensures.1

pub returns : goal.returns
unfolding solution_long
returns c = λ e. rw (c.sheet_length.ensures, c.piece_count.ensures.0, c.counts-c.ensures)
