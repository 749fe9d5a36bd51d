-- `selector_check::rows_below` meets its contract: each row is below dim. Assumes nothing.
use mathlib.Core.Path.{◌∙◌}
use mathlib.Core.Bool.{Bool}
use Prim.Native.Nat.{ℕ}
use native.Mathlib.Omega.{arith}
use lib.Dec.{ltb}
use lib.ListN.{length}
use lib.Seq.{take-length}
use Rattle.std.proofs.Common.{rules, tests}
use Rattle.std.proofs.lemmas.Iterator.{YieldsList-from_slice}
use Rattle.std.proofs.lemmas.Iterator.Search.{all_from_yields_List}
use Rattle.network.proofs.Tests.{all_first}
use Rattle.selector_check.specs.Tests.{rows_below}
use Rattle.selector_check.proofs.rows_below.Goals as goal

pub returns : goal.returns
unfolding rows_below
returns c = let rows = c.args.rows.now in
    let test : ℕ → Bool = λ r. ltb r c.args.dim in
    let e = all_first test rows 0 (length rows) (omega arith) in
    all_from_yields_List test _ _ _ c.all.ensures.ran (YieldsList-from_slice rows cc) (λ x b q k. search (rules, tests))
    ∙ (rw take-length at e)
