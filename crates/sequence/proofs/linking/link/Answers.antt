-- `sequence::linking::link` meets its contract: the indices from i on are linked. Assumes nothing.
use Prim.Native.Nat.{◌+◌, ◌-◌}
use mathlib.Core.Path.{◌≡◌}
use native.Mathlib.Omega.{arith}
use Rattle.sequence.proofs.Links.{links_more}
use Rattle.sequence.proofs.linking.link.Goals as goal

pub loop-i-preserved : goal.loop-i-preserved
loop-i-preserved g c = (
  (λ f h. let i = c.loop-i.i - 1 in
      let e = h i _ (omega (arith, c)) c.key.ensures in
      let s : i + 1 ≡ c.loop-i.i = omega (arith, c) in
      rw (c.push.ensures.head_after, c.push.ensures.next_after, e)
      (links_more (omega (arith, e, c.requires.keyed i _ (omega (arith, c)) c.key.ensures)) (omega (arith, c)) (omega (arith, c)) (omega (arith, c)) (rw s (c.loop-i.invariant.0 f h)))),
  omega (arith, c.push.auto, c),
  omega (arith, c.push.auto, c),
)

pub returns : goal.returns
returns g c f h = let z : c.loop-i.i ≡ 0 = omega (arith, c) in rw z at c.loop-i.invariant.0 f h
