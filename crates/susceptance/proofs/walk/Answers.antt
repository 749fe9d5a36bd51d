-- `susceptance::walk` meets its contract: the row after the ends below x. Assumes nothing.
use native.Mathlib.Omega.{arith}
use Rattle.sequence.proofs.Links.{head_of, next_of}
use Rattle.susceptance.proofs.Incidence.{row_begin, row_more, row_done}
use Rattle.susceptance.proofs.walk.Goals as goal

pub loop-x-init : goal.loop-x-init
loop-x-init c = let f = head_of c.args.i _ c.args.ends.now.chains.links c.requires.i_lt_buses c.wide-x.ensures.0 in
    (row_begin _ _ _ _ f c.requires.row_blank, omega arith, omega arith, f.high, f.hit)

pub end_step-requires-clause-row_room : goal.end_step-requires-clause-row_room
end_step-requires-clause-row_room c = omega (arith, c.requires, c)

pub end_step-requires-clause-x_bound : goal.end_step-requires-clause-x_bound
end_step-requires-clause-x_bound c = (omega arith, c.loop-x.invariant.4 (omega arith))

pub loop-x-smaller : goal.loop-x-smaller
loop-x-smaller c = omega (arith, c, (next_of c.args.i c.loop-x.x _ c.args.ends.now.chains.links (omega (arith, c)) (c.loop-x.invariant.4 (omega (arith, c))) c.wide-x-in-loop-x.ensures.0).low)

pub loop-x-preserved : goal.loop-x-preserved
loop-x-preserved c = let k = c.loop-x.invariant.4 (omega (arith, c)) in
    let f = next_of c.args.i c.loop-x.x _ c.args.ends.now.chains.links (omega (arith, c)) k c.wide-x-in-loop-x.ensures.0 in
    (row_more _ _ _ _ c.loop-x.x c.requires.row_room.few k f c.loop-x.invariant.0 c.end_step.ensures, omega (arith, c.end_step.auto, c), omega (arith, c.end_step.auto, c), f.high, f.hit)

pub returns : goal.returns
returns c = row_done _ _ _ _ c.loop-x.x (omega arith) c.loop-x.invariant.0
