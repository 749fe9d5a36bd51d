-- `opf_sides::put_b` meets its contract: the balances, then a block more each turn, and in it an element more. Assumes nothing.
use Prim.Native.Nat.{suc}
use lib.ListN.{get_or}
use Rattle.sequence.specs.Lists.{each}
use Rattle.opf_layout.specs.declared.OpfRow.TheVariants.{Balance}
use Rattle.opf_layout.specs.Layout.{rows}
use Rattle.opf_assembly.specs.Assembly.{right_sides, row_words}
use Rattle.opf_sides.specs.Walks.{Adds}
use Rattle.opf_sides.proofs.put_b.Given as goal

abbrev pub invariant-loop-block : goal.invariant-loop-block
invariant-loop-block l = Adds (each l.block-index (λ k. row_words l.grid.plan.counts l.grid.plan.wiring.now l.grid.plan.readings.now (get_or rows (suc k) Balance))) l.initial.words l.words

abbrev pub invariant-loop-i : goal.invariant-loop-i
invariant-loop-i l = Adds (each l.i (right_sides l.grid.plan.counts l.grid.plan.wiring.now l.grid.plan.readings.now l.block)) l.initial.words l.words
