-- `sens_parameters::some_piecewise` meets its contract. Assumes nothing.
use mathlib.Core.Path.{◌∙◌}
use mathlib.Core.Bool.{not}
use Prim.Native.Nat.{ℕ}
use lib.Dec.{eqb}
use Rattle.std.proofs.Common.{rules, tests}
use native.Mathlib.Omega.{arith}
use Rattle.std.proofs.lemmas.Grind.{get_or_default_zero}
use Rattle.std.proofs.lemmas.Iterator.{YieldsList-from_slice}
use Rattle.std.proofs.lemmas.Iterator.Adapters.{serves_from_places}
use Rattle.std.proofs.lemmas.Iterator.Search.{any_from_yields_List}
use Rattle.network.specs.Layout.{segments_at}
use Rattle.sens_parameters.specs.Calls.{some_piecewise}
use Rattle.sens_parameters.proofs.Columns.{any_each}
use Rattle.sens_parameters.proofs.some_piecewise.Goals as goal

pub any-requires-clause-callable : goal.any-requires-clause-callable
any-requires-clause-callable c =
    let columns = c.args.columns.now in
    serves_from_places (YieldsList-from_slice columns cc) (λ x q r. search rules)
    (λ x k l e lfts ref name same fit wide more. omega (arith, wide.ensures.0, e, get_or_default_zero columns k x.now l, c.requires k l))

pub returns : goal.returns
unfolding some_piecewise
returns c = let a = c.args in
    let test = λ (i : ℕ). not (eqb (segments_at a.plan.now.counts a.plan.now.wiring.now i) 0) in
    any_from_yields_List test _ _ _ c.any.ensures.ran (YieldsList-from_slice a.columns.now cc) (λ x b q k. search (rules, tests))
    ∙ any_each test a.columns.now 0
