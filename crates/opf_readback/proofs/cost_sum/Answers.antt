-- `opf_readback::cost_sum` meets its contract. The loop's invariant: the cost of the generators passed. Assumes nothing.
use Rattle.sequence.proofs.Lists.{turns_none, turns_more}
use Rattle.opf_readback.proofs.cost_sum.Goals as goal

pub loop-j-init : goal.loop-j-init
loop-j-init c = turns_none _ _

pub loop-j-preserved : goal.loop-j-preserved
loop-j-preserved c = rw (turns_more, c.loop-j.invariant, c.generator_cost_at-sum.ensures)
