-- `kkt_list::put_blocks` meets its contract: a block more each turn. Assumes nothing.
use native.Mathlib.Omega.{arith}
use Rattle.kkt.proofs.Emitted.{puts_begin, puts_more, puts_done}
use Rattle.kkt_list.proofs.put_blocks.Goals as goal

pub loop-b-init : goal.loop-b-init
loop-b-init c = (puts_begin _ _ _ _, omega arith, omega arith)

pub put_block-requires : goal.put_block-requires
put_block-requires c = let i = c.loop-b.invariant in
    let t = c.loop-b-test in omega (arith, i, t)

pub loop-b-preserved : goal.loop-b-preserved
loop-b-preserved c = let i = c.loop-b.invariant in
    (puts_more _ _ _ _ c.loop-b.b-index i.0 c.put_block.ensures.puts, omega (arith, i, c.put_block.ensures.most), omega (arith, i, c.loop-b-test))

pub returns-clause-puts : goal.returns-clause-puts
returns-clause-puts c = let i = c.loop-b.invariant in puts_done _ _ _ _ (omega (arith, i)) (omega (arith, i, c.loop-b-test)) i.0

pub returns-clause-most : goal.returns-clause-most
returns-clause-most c = let i = c.loop-b.invariant in omega (arith, i)
