-- `contraction::gather_block` meets its contract: eight zeros are passed over at once, and other words are gathered one by one. Assumes nothing.
use mathlib.Core.Path.{◌≡◌, refl, sym, ◌∙◌}
use Prim.Native.Nat.{◌+◌}
use native.Mathlib.Omega.{arith}
use Rattle.contraction.proofs.Gathers.{skips}
use Rattle.contraction.proofs.gather_block.Goals as goal

pub returns-then-quiet-clause-gathers_2 : goal.returns-then-quiet-clause-gathers_2
returns-then-quiet-clause-gathers_2 c = skips _ 8 c.requires.gathers (sym c.quiet.ensures ∙ c.if-quiet.true)

pub loop-i-init : goal.loop-i-init
loop-i-init c = let z : c.args.r ≡ c.args.r + 0 = omega arith in
    (rw z at c.requires.gathers, refl, refl, omega arith)

pub loop-i-preserved : goal.loop-i-preserved
loop-i-preserved c = let l = c.loop-i in
    let r = c.args.r in
    let z : r + l.i + 1 ≡ r + (l.i + 1) = omega arith in
    (rw z at c.gather_word-k.ensures.gathers_2, omega arith, omega arith, omega arith)

pub returns-clause-gathers_2 : goal.returns-clause-gathers_2
returns-clause-gathers_2 c = let l = c.loop-i in
    let e : l.i ≡ 8 = omega arith in
    let p = rw e at l.invariant in p.0
