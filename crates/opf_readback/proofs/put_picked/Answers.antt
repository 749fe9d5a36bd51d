-- `opf_readback::put_picked` meets its contract: a word more each turn, the rank carried along. Assumes nothing.
use mathlib.Core.Path.{sym, ◌∙◌}
use native.Mathlib.Omega.{arith}
use lib.ListN.{length}
use lib.Ieee.{nan}
use Rattle.sequence.proofs.Fronts.{none, more}
use Rattle.opf_layout.proofs.Counting.{rank_none}
use Rattle.opf_layout.proofs.Ranks.{rank_below}
use Rattle.opf_readback.proofs.Reading.{whole, picked_word, other_word, rank_next, rank_same}
use Rattle.opf_readback.proofs.put_picked.Goals.{then-active, else-active}
use Rattle.opf_readback.proofs.put_picked.Goals as goal

pub loop-i-init : goal.loop-i-init
loop-i-init v c = (λ on f p q. none _ _, λ on p. rank_none on, omega arith)

pub bounds-block-k : goal.bounds-block-k
bounds-block-k v c = let h = c.requires.block_long in
    let l = c.loop-i in
    omega (arith, rank_below h.0 l.i (length c.args.out.now) (sym (h.1 _ _ c.active.ensures) ∙ c.if-active.true) (omega arith), h.2, l.invariant.1 h.0 h.1)

pub loop-i-preserved : goal.loop-i-preserved
loop-i-preserved v c = let l = c.loop-i in
    let i = l.invariant in
    elim c.if-active.branch [
      | then-active w ↦ rw (w.out-is, w.k-is) (
        λ on f p q. more _ (omega (arith, (i.0 on f p q).kept)) (i.0 on f p q) (picked_word on c.args.block.now f l.i (p _ _ c.active.ensures) w.if-active.true (i.1 on p)),
        λ on p. rank_next on c.args.block.now (λ i. nan) l.i (p _ _ c.active.ensures) w.if-active.true (i.1 on p),
        omega (arith, i.2),
      )
      | else-active w ↦ rw (w.out-is, w.k-is) (
        λ on f p q. more _ (omega (arith, (i.0 on f p q).kept)) (i.0 on f p q) (other_word on c.args.block.now f l.i (p _ _ c.active.ensures) w.if-active.false (q _ _ w.other.ensures)),
        λ on p. rank_same on c.args.block.now (λ i. nan) l.i (p _ _ c.active.ensures) w.if-active.false (i.1 on p),
        omega (arith, i.2),
      )
    ]

pub returns : goal.returns
returns v c = λ on f p q. whole _ _ (c.loop-i.invariant.0 on f p q) (omega (arith, (c.loop-i.invariant.0 on f p q).kept))
