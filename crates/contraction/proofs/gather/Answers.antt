-- `contraction::gather` meets its contract. The loop's invariant: the entries stand for the words of the first b blocks. Assumes nothing.
use mathlib.Core.Path.{◌≡◌, refl}
use Prim.Native.Nat.{◌+◌, ◌*◌, ◌/◌}
use native.Mathlib.Omega.{arith}
use lib.ListN.{length}
use Rattle.contraction.proofs.Gathers.{none}
use Rattle.contraction.proofs.gather.Goals as goal

pub loop-b-init : goal.loop-b-init
loop-b-init c = (none _ _ _, refl, refl, omega arith)

pub loop-b-preserved : goal.loop-b-preserved
loop-b-preserved c = let l = c.loop-b in
    let z : 8 * l.b + 8 ≡ 8 * (l.b + 1) = omega arith in
    (rw z at c.gather_block-n.ensures.gathers_2, omega arith, omega arith, omega arith)

pub gather_rest-requires-2-clause-gathers : goal.gather_rest-requires-2-clause-gathers
gather_rest-requires-2-clause-gathers c = let l = c.loop-b in
    let z : l.b ≡ length c.args.parameter.now / 8 = omega arith in rw z at l.invariant.0
