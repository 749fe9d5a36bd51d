-- `sequence::marking::put_marked` meets its contract: a block more each turn, and in one an item more. Assumes nothing.
use Prim.Native.Nat.{◌+◌, ◌*◌, ◌/◌, min}
use mathlib.Core.Path.{◌≡◌}
use native.Mathlib.Omega.{arith}
use lib.ListN.{get_or}
use Rattle.sequence.specs.Sheets.{emit}
use Rattle.sequence.proofs.Lists.{each_skip}
use Rattle.sequence.proofs.Sinks.{begin, more, put_of}
use Rattle.sequence.proofs.marking.put_marked.Goals as goal
use Rattle.sequence.proofs.marking.put_marked.Goals.{then-blocks-q-ne0+else-loop-i-test, else-blocks-q-ne0}

pub loop-q-init : goal.loop-q-init
loop-q-init g c = let m : min 0 c.args.n ≡ 0 = omega arith in
    (λ f h z. rw m (begin _), omega arith, omega arith)

pub loop-i-init : goal.loop-i-init
loop-i-init g c = let m : min (16 * c.loop-q.q) c.args.n ≡ 16 * c.loop-q.q = omega (arith, c) in
    (λ f h z. rw m at c.loop-q.invariant.0 f h z, omega (arith, c), omega (arith, c), omega (arith, c))

pub loop-i-preserved : goal.loop-i-preserved
loop-i-preserved g c = (
  λ f h z. more _ _ (c.loop-i.invariant.0 f h z) (put_of (h _ _ (omega (arith, c)) c.item.ensures) c.put.ensures.puts),
  omega (arith, c, c.put.ensures.most),
  omega (arith, c),
  omega (arith, c),
)

pub loop-q-preserved : goal.loop-q-preserved
unfolding emit
loop-q-preserved g c =
    elim c.if-blocks-q-ne0.branch [
      | then-blocks-q-ne0+else-loop-i-test w ↦
          let m : min (16 * (c.loop-q.q + 1)) c.args.n ≡ w.loop-i.i = omega (arith, w, c) in
          (λ f h z. rw (w.sink-is, m) (w.loop-i.invariant.0 f h z), rw w.sink-is (omega (arith, w, c)), omega (arith, c))
      | else-blocks-q-ne0 w ↦
          let b : get_or c.args.blocks.now c.loop-q.q 0 ≡ 0 = w.if-blocks-q-ne0.false in (
            λ f h z. rw (
              w.sink-is,
              each_skip (λ i. emit (f i)) (min (16 * c.loop-q.q) c.args.n) (min (16 * (c.loop-q.q + 1)) c.args.n) (omega arith)
                  (λ i l r. let e : i / 16 ≡ c.loop-q.q = omega (arith, l, r) in rw (z i (omega (arith, r)) (rw e b))),
            )
                (c.loop-q.invariant.0 f h z),
            rw w.sink-is (omega (arith, c)),
            omega (arith, c),
          )
    ]

pub returns-clause-puts : goal.returns-clause-puts
returns-clause-puts g c f h z = let m : min (16 * c.loop-q.q) c.args.n ≡ c.args.n = omega (arith, c) in rw m at c.loop-q.invariant.0 f h z
