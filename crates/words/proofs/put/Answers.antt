-- `words::put` meets its contract. The loop's invariant: with the bytes that are left stored too, out is as it is to be. Assumes nothing.
use mathlib.Core.Path.{sym, ◌∙◌}
use native.Mathlib.Nat.{add-zero, sub-zero}
use Rattle.words.proofs.Laws.{bytes_more, bytes_none}
use Rattle.words.proofs.put.Goals as goal

pub loop-i-init : goal.loop-i-init
loop-i-init c = rw (add-zero, sub-zero)

pub loop-i-preserved : goal.loop-i-preserved
loop-i-preserved c = sym (bytes_more _ _ _ _ _ c.loop-i-test.true) ∙ c.loop-i.invariant

pub returns : goal.returns
returns c = sym (bytes_none _ _ _ _ _ c.loop-i-test.false) ∙ c.loop-i.invariant
