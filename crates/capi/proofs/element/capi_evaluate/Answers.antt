-- `capi::element::capi_evaluate` meets its contract: refused at once, or the call on what was decoded. Assumes nothing.
use Rattle.std.proofs.Common.{rules, ◌≡◌}
use Rattle.sequence.specs.Answers.{answered}
use Rattle.words.specs.Words.{doubles_of}
use Rattle.network.specs.Numbers.{Network}
use Rattle.network.specs.Sites.{network_in}
use Rattle.model.specs.Calls.{evaluate_call}
use Rattle.decoding.specs.Exports.{decoded}
use Rattle.decoding.proofs.Answered.{element_answer, element_count, element_one, unsized_network, unsized_flows, unsized_powers, wholly}
use Rattle.decoding.proofs.Filled.{exported}
use Rattle.capi.proofs.element.capi_evaluate.Goals as goal

pub returns-in_default : goal.returns-in_default
returns-in_default c = let a = c.args in
    rw c.pack_answer.ensures (element_one _ _ _ _ _ _ (doubles_of a.sheet.now) _ _ (unsized_flows _ _ a.f.now a.pg.now c.in_default.ensures.fits))

pub returns-in_default-take : goal.returns-in_default-take
returns-in_default-take c = let a = c.args in
    rw c.pack_answer-in_default-take.ensures (element_one _ _ _ _ _ _ (doubles_of a.sheet.now) _ _ (unsized_powers _ _ a.f.now a.pg.now c.in_default-take.ensures.fits))

pub fill_sheet-requires-clause-call : goal.fill_sheet-requires-clause-call
fill_sheet-requires-clause-call c =
    record {
      may = λ l x r. tt;
      within = λ l x a y r p.
          let e : answered a y.now ≡ evaluate_call (network_in l) c.args.row (doubles_of c.args.f.now) (doubles_of c.args.pg.now) x.now = search rules in
          element_count _ _ _ _ _ _ c.args.sheet.now x.now r e;
    }

pub returns : goal.returns
returns c = let a = c.args in
    let f = c.in-Some.ensures in
    let p = c.in-Some-take.ensures in
    exported _ (λ (N : Network). evaluate_call N c.args.row (doubles_of c.args.f.now) (doubles_of c.args.pg.now))
    (λ h. element_one _ _ _ _ _ _ _ _ _ (unsized_network _ _ a.f.now a.pg.now h))
    (λ o. wholly (decoded a.wiring a.readings a.term_index a.term_coefficient) _ a.f.now a.pg.now o f.fits p.fits)
    (λ l x a y r p. element_answer _ _ _ _ _ _ c.args.sheet.now x.now r (search rules))
    c.fill_sheet.ensures
