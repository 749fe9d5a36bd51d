-- `sens_parameters::columns_hold` meets its contract. Assumes nothing.
use mathlib.Core.Path.{◌∙◌}
use Prim.Native.Nat.{ℕ}
use lib.Dec.{ltb}
use Rattle.std.proofs.Common.{rules, tests}
use Rattle.std.proofs.lemmas.Iterator.{YieldsList-from_slice}
use Rattle.std.proofs.lemmas.Iterator.Search.{all_from_yields_List}
use Rattle.parameter_column.specs.Columns.{elements}
use Rattle.sens_parameters.specs.Calls.{columns_hold}
use Rattle.sens_parameters.proofs.Columns.{all_each}
use Rattle.sens_parameters.proofs.columns_hold.Goals as goal

pub returns : goal.returns
unfolding columns_hold
returns c = let a = c.args in
    let test = λ (i : ℕ). ltb i (elements a.c a.k) in
    all_from_yields_List test _ _ _ c.all.ensures.ran (YieldsList-from_slice a.columns.now cc) (λ x b q k. search (rules, tests))
    ∙ all_each test a.columns.now 0
