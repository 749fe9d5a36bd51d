-- `kkt_generators::put_turns` meets its contract: a generator more each turn, its rank and its first segment carried along, and within it a segment more. Assumes nothing.
use Prim.Native.Nat.{◌+◌}
use native.Mathlib.Omega.{arith}
use Rattle.sequence.proofs.Lists.{before_none}
use Rattle.sequence.proofs.Sinks.{begin, more, done}
use Rattle.model.proofs.Runs.{segments_none}
use Rattle.solution.specs.Sheet.{piece_rank}
use Rattle.solution.proofs.Entries.{piece_more}
use Rattle.kkt_index.proofs.Segments.{segment_inside, start_more}
use Rattle.kkt_generators.specs.Turns.{turn}
use Rattle.kkt_generators.proofs.Turns.{turn_put}
use Rattle.kkt_generators.proofs.put_turns.Goals as goal

pub loop-j-init : goal.loop-j-init
unfolding piece_rank
loop-j-init v c = (λ f g p q. begin (turn c.args.grid.now.plan.counts c.args.grid.now.plan.wiring.now f g), omega arith, omega arith, omega (arith, c.args.grid.now.wired.laid.few), before_none _, omega arith, segments_none _ _, omega arith)

pub put_all-requires : goal.put_all-requires
put_all-requires v c = omega (arith, c.loop-j.invariant, c.requires.at_bound)

pub loop-t-init : goal.loop-t-init
loop-t-init v c = (λ g q. begin _, omega arith, omega arith)

pub overflow_add-start : goal.overflow_add-start
overflow_add-start v c = let m = start_more c.args.grid.now.wired c.loop-j.j c.loop-j-test.true c.loop-j.invariant.6 c.word-count.ensures.0 in
    omega (arith, m.1.1, c.loop-t-test.true)

pub of_segment-requires : goal.of_segment-requires
of_segment-requires v c = let i = c.loop-j.invariant in
    let h = segment_inside c.args.grid.now.wired c.loop-j.j c.loop-t.t c.loop-j-test.true (rw c.word-count.ensures.0 at c.loop-t-test.true) in
    rw (← i.4) at (c.requires.segment_callable c.loop-j.j (c.loop-j.start + c.loop-t.t) c.loop-j-test.true (rw i.6 h.0) h.1)

pub put_all-requires-in-loop-t : goal.put_all-requires-in-loop-t
put_all-requires-in-loop-t v c = let i = c.loop-j.invariant in
    let m = start_more c.args.grid.now.wired c.loop-j.j c.loop-j-test.true i.6 c.word-count.ensures.0 in
    omega (arith, i, c.requires.at_bound, m.1.1, c.put_all.ensures.most, c.loop-t.invariant)

pub loop-t-preserved : goal.loop-t-preserved
loop-t-preserved v c = (
  λ g q. more (λ t. g c.loop-j.j c.loop-j.rank (c.loop-j.start + t)) c.loop-t.t (c.loop-t.invariant.0 g q) (rw (q _ _ _ _ c.of_segment.ensures) at c.put_all-in-loop-t.ensures.puts),
  omega (arith, c.put_all-in-loop-t.ensures.most, c.loop-t.invariant),
  omega (arith, c.loop-t-test),
)

pub next_piece-rank-requires : goal.next_piece-rank-requires
next_piece-rank-requires v c = omega (arith, c.loop-j.invariant)

pub overflow_add-start-in-loop-j : goal.overflow_add-start-in-loop-j
overflow_add-start-in-loop-j v c = omega (arith, (start_more c.args.grid.now.wired c.loop-j.j c.loop-j-test.true c.loop-j.invariant.6 c.word-count.ensures.0).1.1)

pub loop-j-preserved : goal.loop-j-preserved
unfolding piece_rank
loop-j-preserved v c = let i = c.loop-j.invariant in
    let n = c.word-count.ensures.0 in
    let r = piece_more _ _ c.loop-j.j i.4 i.5 n c.next_piece-rank.ensures in
    let m = start_more c.args.grid.now.wired c.loop-j.j c.loop-j-test.true i.6 n in
    let k = c.loop-t.invariant in (
      λ f g p q. more (turn c.args.grid.now.plan.counts c.args.grid.now.plan.wiring.now f g) c.loop-j.j (i.0 f g p q) (turn_put c.args.grid.now.plan.counts c.args.grid.now.plan.wiring.now f g c.loop-j.j i.4 i.6 n (p _ _ c.own.ensures) c.put_all.ensures.puts k.2 c.loop-t-test.false (k.0 g q)),
      omega (arith, i, k, c.put_all.ensures.most, c.loop-t-test.false),
      omega (arith, c.loop-j-test),
      i.3,
      r.0,
      r.1,
      m.0,
      m.1.1,
    )

pub returns-clause-puts : goal.returns-clause-puts
returns-clause-puts v c = let i = c.loop-j.invariant in λ f g p q. done (turn c.args.grid.now.plan.counts c.args.grid.now.plan.wiring.now f g) i.2 c.loop-j-test.false (i.0 f g p q)

pub returns-clause-most : goal.returns-clause-most
returns-clause-most v c = omega (arith, c.loop-j.invariant)
