-- `model::cost::piecewise` meets its contract. The loop's invariant: the best of the first s segments, from minus infinity on. Assumes nothing.
use mathlib.Core.Path.{◌≡◌}
use native.Mathlib.Omega.{arith}
use lib.Ieee.{div, neg, of_bits}
use Rattle.sequence.proofs.Lists.{turns_none, turns_more}
use Rattle.model.specs.Quantities.{piecewise}
use Rattle.model.proofs.Runs.{segments_inside}
use Rattle.model.proofs.cost.piecewise.Goals as goal

pub word-count-requires : goal.word-count-requires
word-count-requires c = c.requires

pub loop-s-init : goal.loop-s-init
unfolding div neg of_bits
loop-s-init c = (turns_none _ _, omega arith)

pub overflow_add-at : goal.overflow_add-at
overflow_add-at c = omega (arith, segments_inside c.args.grid.now.wired c.args.j c.requires, c.word-count.ensures, c.segment_start-at.ensures)

pub segment_value-requires : goal.segment_value-requires
segment_value-requires c = omega (arith, segments_inside c.args.grid.now.wired c.args.j c.requires, c.word-count.ensures, c.segment_start-at.ensures)

pub overflow_step-s : goal.overflow_step-s
overflow_step-s c = omega (arith, c.word-count.ensures)

pub loop-s-preserved : goal.loop-s-preserved
loop-s-preserved c = (rw (turns_more, c.larger-best.ensures, c.segment_value.ensures, c.loop-s.invariant.0), omega arith)

pub returns : goal.returns
unfolding piecewise
returns c = let e : c.loop-s.s ≡ c.word-count.result = omega arith in
    rw (c.loop-s.invariant.0, e, c.word-count.ensures.0, c.segment_start-at.ensures.0)
