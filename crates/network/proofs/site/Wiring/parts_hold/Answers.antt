-- `network::site::Wiring::parts_hold` meets its contract: each part of the table holds. Assumes nothing.
use mathlib.Core.Path.{◌∙◌}
use native.Mathlib.Omega.{arith}
use Rattle.std.proofs.Common.{rules, tests}
use Rattle.std.proofs.lemmas.Iterator.{YieldsList-from_slice}
use Rattle.std.proofs.lemmas.Iterator.Search.{all_from_yields_List}
use Rattle.network.specs.declared.Part.TheVariants.{BrFrom}
use Rattle.network.specs.Numbers.{part_holds, limited}
use Rattle.network.proofs.Tests.{all_first}
use Rattle.network.proofs.site.Wiring.parts_hold.Goals as goal

pub returns : goal.returns
returns c = let s = c.args.self.now in
    let test = part_holds s.counts s.words.now in
    all_from_yields_List test _ _ _ c.all.ensures.ran (YieldsList-from_slice limited cc) (λ x b q k. search (rules, tests))
    ∙ all_first test limited BrFrom 8 (omega arith)
