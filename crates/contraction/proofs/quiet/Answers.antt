-- `contraction::quiet` meets its contract. Assumes nothing.
use mathlib.Core.Path.{◌≡◌, refl, sym}
use native.Mathlib.Omega.{arith}
use Rattle.sequence.proofs.Lists.{every_none, every_turn}
use Rattle.contraction.proofs.Gathers.{zero_is}
use Rattle.contraction.proofs.quiet.Goals as goal

pub loop-i-init : goal.loop-i-init
loop-i-init c = sym (every_none _)

pub loop-i-preserved : goal.loop-i-preserved
loop-i-preserved c = let l = c.loop-i in every_turn _ l.i l.invariant (zero_is _) refl

pub returns : goal.returns
returns c = let l = c.loop-i in let e : l.i ≡ 8 = omega arith in rw e at l.invariant
