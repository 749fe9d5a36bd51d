-- `terms::evaluate_array` meets its contract: as many terms as the array has, or a wrong length. Assumes nothing.
use mathlib.Core.Path.{◌≡◌}
use Prim.Native.Nat.{◌-◌}
use native.Mathlib.Omega.{arith}
use borrow.Author.Tests.{le-leb, lt-leb}
use Rattle.terms.specs.Terms.{array_call}
use Rattle.terms.proofs.evaluate_array.Goals as goal

pub returns-in_default : goal.returns-in_default
unfolding array_call
returns-in_default c = rw (lt-leb c.args.n 1024 (grind arith))

pub returns : goal.returns
unfolding array_call
returns c = let n = c.args.n in
    let e = c.in-Some.ensures.lookup.0 in
    let all : n - 0 ≡ n = omega arith in
    rw (le-leb n 1024 (omega arith), ← (rw all at e.2)) c.evaluate.ensures
