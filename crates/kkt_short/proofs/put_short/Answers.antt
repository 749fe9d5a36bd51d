-- `kkt_short::put_short` meets its contract: a column more each turn. Assumes nothing.
use native.Mathlib.Omega.{arith}
use Rattle.kkt.proofs.Emitted.{puts_begin, puts_more, puts_done, puts_three}
use Rattle.kkt_short.proofs.Columns.{few_turns, few_slots}
use Rattle.kkt_short.proofs.put_short.Goals as goal

pub loop-i-init : goal.loop-i-init
loop-i-init c = (λ s n w. puts_begin _ _ _ _, omega arith, omega arith)

pub put_all-requires : goal.put_all-requires
put_all-requires c = omega (arith, c.loop-i.invariant, c.turns_of-to.ensures, few_turns c.args.kkt.now.grid.plan.counts c.args.b c.args.kkt.now.grid.plan.readings_laid.few, c.args.sink.now.room, c.requires.at_bound)

pub loop-i-preserved : goal.loop-i-preserved
loop-i-preserved c = (
  λ s n w. puts_more _ _ _ _ _ (c.loop-i.invariant.0 s n w) (puts_three _ _ _ _ (few_slots s c.args.b _ c.requires.b_value) (c.short_column.ensures s n w) c.put_all.ensures.puts),
  omega (arith, c.put_all.ensures.most, c.loop-i.invariant.1),
  omega (arith, c.loop-i-test.true),
)

pub returns-clause-puts : goal.returns-clause-puts
returns-clause-puts c = let h = few_turns c.args.kkt.now.grid.plan.counts c.args.b c.args.kkt.now.grid.plan.readings_laid.few in
    let e = c.turns_of-to.ensures in λ x n w. puts_done _ _ _ _ (rw e at c.loop-i.invariant.2) (rw e at c.loop-i-test.false) (c.loop-i.invariant.0 x n w)

pub returns-clause-most : goal.returns-clause-most
returns-clause-most c = let h = few_turns c.args.kkt.now.grid.plan.counts c.args.b c.args.kkt.now.grid.plan.readings_laid.few in
    let e = c.turns_of-to.ensures in omega (arith, c.loop-i.invariant.1, c.loop-i.invariant.2, e, h)
