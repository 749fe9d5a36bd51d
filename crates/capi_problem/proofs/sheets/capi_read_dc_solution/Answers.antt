-- `capi_problem::sheets::capi_read_dc_solution` meets its contract: refused at once, or the call on what was decoded. Assumes nothing.
use Rattle.std.proofs.Common.{rules, ◌≡◌}
use lib.Ieee.{of_bits, binary64}
use Rattle.sequence.specs.Answers.{answered}
use Rattle.words.specs.Words.{doubles_of}
use Rattle.network.specs.Numbers.{Network}
use Rattle.network.specs.Sites.{network_in}
use Rattle.problem.specs.Calls.{read_call}
use Rattle.decoding.specs.Exports.{decoded}
use Rattle.decoding.specs.Filling.{made}
use Rattle.decoding.proofs.Filled.{exported}
use Rattle.capi_problem.proofs.Filled.{read_answer, read_count, read_one, unsized_raw, unsized_primal, unsized_dual, wholly_raw}
use Rattle.capi_problem.proofs.sheets.capi_read_dc_solution.Goals as goal

pub returns-in_default : goal.returns-in_default
returns-in_default c = let a = c.args in
    rw c.pack_answer.ensures (read_one _ _ _ _ (doubles_of a.sheet.now) _ _ (unsized_raw _ _ a.x.now a.z.now c.in_default.ensures.refused))

pub returns-in_default-take : goal.returns-in_default-take
returns-in_default-take c = let a = c.args in
    rw c.pack_answer-in_default-take.ensures (read_one _ _ _ _ (doubles_of a.sheet.now) _ _ (unsized_primal _ _ a.x.now a.z.now c.in_default-take.ensures.fits))

pub returns-in_default-take-2 : goal.returns-in_default-take-2
returns-in_default-take-2 c = let a = c.args in
    rw c.pack_answer-in_default-take-2.ensures (read_one _ _ _ _ (doubles_of a.sheet.now) _ _ (unsized_dual _ _ a.x.now a.z.now c.in_default-take-2.ensures.fits))

pub fill_cells-requires-clause-call : goal.fill_cells-requires-clause-call
fill_cells-requires-clause-call c =
    record {
      may = λ l x r. tt;
      within = λ l x a y r p.
          let e : answered a y.now ≡ read_call (network_in l) (doubles_of c.args.x.now) (doubles_of c.args.z.now) (of_bits binary64 c.args.objective) x.now = search rules in
          read_count _ _ _ _ c.args.sheet.now x.now r e;
    }

pub returns : goal.returns
returns c = let a = c.args in
    let d = c.in-Some.ensures.decoded in
    let x = c.in-Some-take.ensures in
    let z = c.in-Some-take-2.ensures in
    exported _ (λ (N : Network). read_call N (doubles_of a.x.now) (doubles_of a.z.now) (of_bits binary64 a.objective))
    (λ h. read_one _ _ _ _ _ _ _ (unsized_raw _ _ a.x.now a.z.now h))
    (λ o. wholly_raw (decoded a.wiring a.readings a.term_index a.term_coefficient) _ a.x.now a.z.now o x.fits z.fits)
    (λ l x a y r p. read_answer _ _ _ _ c.args.sheet.now x.now r (search rules))
    (made d.0 (rw d.1 at c.fill_cells.ensures))
