-- `terms::take_apart` meets its contract: all terms are stored. Assumes nothing.
use native.Mathlib.Omega.{arith}
use Rattle.terms.proofs.Apart.{stored_apart}
use Rattle.terms.proofs.take_apart.Goals as goal

pub returns : goal.returns
returns c = let v = c.loop-i.invariant in
    stored_apart c.args.terms.now c.loop-i.columns v.0 v.1 (λ k b. v.2 k (omega (arith, b))) (λ k b. v.3 k (omega (arith, b)))
