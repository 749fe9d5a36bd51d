-- `opf_sides::put_q` meets its contract: a block more each turn, and in it an element more. Assumes nothing.
use lib.ListN.{get_or}
use Rattle.sequence.specs.Lists.{each}
use Rattle.opf_layout.specs.declared.OpfColumn.TheVariants.{Va}
use Rattle.opf_layout.specs.Layout.{columns}
use Rattle.opf_assembly.specs.Assembly.{linear, column_words}
use Rattle.opf_sides.specs.Walks.{Adds}
use Rattle.opf_sides.proofs.put_q.Given as goal

abbrev pub invariant-loop-block : goal.invariant-loop-block
invariant-loop-block l = Adds (each l.block-index (λ t. column_words l.plan.counts l.plan.wiring.now l.plan.readings.now (get_or columns t Va))) l.initial.words l.words

abbrev pub invariant-loop-i : goal.invariant-loop-i
invariant-loop-i l = Adds (each l.i (linear l.plan.counts l.plan.wiring.now l.plan.readings.now l.block)) l.initial.words l.words
