-- `solution::piece_count` meets its contract. The loop's invariant: the piecewise generators passed. Assumes nothing.
use mathlib.Core.Path.{◌≡◌, refl}
use native.Mathlib.Omega.{arith}
use Rattle.sequence.proofs.Lists.{before_none}
use Rattle.solution.specs.Sheet.{piece_rank}
use Rattle.solution.proofs.Entries.{piece_more}
use Rattle.solution.proofs.piece_count.Goals as goal

pub loop-j-preserved : goal.loop-j-preserved
loop-j-preserved c = let r = piece_more _ _ c.loop-j.j c.loop-j.invariant.2 c.loop-j.invariant.3 c.word.ensures.0 c.next_piece-count.ensures in
    (omega arith, refl, r.0, r.1)

pub returns : goal.returns
unfolding piece_rank
returns c = let e : c.loop-j.j ≡ c.args.c.generators = omega arith in
    (rw e at c.loop-j.invariant.2, omega arith)

pub loop-j-init : goal.loop-j-init
loop-j-init c = (omega arith, refl, before_none _, omega arith)
