-- `opf_sides::put_q` meets its contract: a block more each turn, and in it an element more. Assumes nothing.
use mathlib.Core.Path.{◌≡◌, sym}
use native.Mathlib.Omega.{arith}
use lib.ListN.{length, get_or}
use Rattle.opf_layout.specs.declared.OpfColumn.TheVariants.{Va}
use Rattle.opf_layout.specs.Layout.{columns}
use Rattle.opf_assembly.specs.Assembly.{linear, column_elements, column_words, q_sheet}
use Rattle.opf_sides.proofs.Storing.{words_begin, words_more, turn_room, from_begin, whole}
use Rattle.opf_sides.proofs.put_q.Goals as goal

pub loop-block-init : goal.loop-block-init
loop-block-init c = words_begin _ _

pub loop-i-init : goal.loop-i-init
loop-i-init c = words_begin _ _

pub put_added-requires : goal.put_added-requires
unfolding q_sheet
put_added-requires c = let a = c.args in
    let o = c.loop-block in
    let l = c.loop-i in
    let b = get_or columns o.block-index Va in
    let h = turn_room (λ t. column_words a.plan.now.counts a.plan.now.wiring.now a.plan.now.readings.now (get_or columns t Va)) o.block-index 5 0 (length o.words.sheet.now) c.loop-block-test.true
    (from_begin (q_sheet a.plan.now.counts a.plan.now.wiring.now a.plan.now.readings.now) (rw o.invariant.stores.kept c.requires)) o.invariant.stores.next in
    rw c.linear_of.ensures (turn_room (linear a.plan.now.counts a.plan.now.wiring.now a.plan.now.readings.now b) l.i (column_elements a.plan.now.counts b) o.words.at (length l.words.sheet.now) (omega (arith, c.loop-i-test.true, c.column_elements-i-end.ensures)) (rw l.invariant.stores.kept h) l.invariant.stores.next)

pub loop-i-preserved : goal.loop-i-preserved
loop-i-preserved c = let q = rw c.linear_of.ensures at c.put_added.ensures in
    words_more _ c.loop-i.i c.loop-i.invariant q

pub loop-block-preserved : goal.loop-block-preserved
loop-block-preserved c = let e : c.loop-i.i ≡ column_elements c.args.plan.now.counts (get_or columns c.loop-block.block-index Va) = omega (arith, c.column_elements-i-end.ensures) in
    words_more _ c.loop-block.block-index c.loop-block.invariant (rw e at c.loop-i.invariant)

pub returns : goal.returns
unfolding q_sheet
returns c = let l = c.loop-block in
    let e : l.block-index ≡ 5 = omega arith in
    rw (c.q-1.given.1.1 (sym l.invariant.same)) (whole (rw e at l.invariant.stores) c.requires)
