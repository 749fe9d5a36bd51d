-- `capi::element::capi_generator_cost` meets its contract: refused at once, or the call on what was decoded. Assumes nothing.
use Rattle.std.proofs.Common.{rules, ◌≡◌}
use lib.Ieee.{of_bits, binary64}
use Rattle.sequence.specs.Answers.{answered}
use Rattle.network.specs.Numbers.{Network}
use Rattle.network.specs.Sites.{network_in}
use Rattle.model.specs.Calls.{generator_cost_call}
use Rattle.decoding.proofs.Answered.{element_answer, element_count, element_one, unsized}
use Rattle.decoding.proofs.Filled.{exported}
use Rattle.capi.proofs.element.capi_generator_cost.Goals as goal

pub fill_sheet-requires-clause-call : goal.fill_sheet-requires-clause-call
fill_sheet-requires-clause-call c =
    record {
      may = λ l x r. tt;
      within = λ l x a y r p.
          let e : answered a y.now ≡ generator_cost_call (network_in l) c.args.generator (of_bits binary64 c.args.power) x.now = search rules in
          element_count _ _ _ _ _ _ c.args.sheet.now x.now r e;
    }

pub returns : goal.returns
returns c =
    exported _ (λ (N : Network). generator_cost_call N c.args.generator (of_bits binary64 c.args.power)) (λ h. element_one _ _ _ _ _ _ _ _ _ (unsized _ _ h)) (λ o. o)
    (λ l x a y r p. element_answer _ _ _ _ _ _ c.args.sheet.now x.now r (search rules))
    c.fill_sheet.ensures
