-- `capi_terms::capi_evaluate_terms` meets its contract: refused at once, or the call on what was decoded. Assumes nothing.
use mathlib.Core.Path.{◌∙◌}
use mathlib.Core.Bool.{Bool}
use mathlib.Core.List.{List}
use native.Mathlib.Omega.{arith}
use lib.ListN.{length-take}
use Rattle.std.proofs.Common.{rules}
use Rattle.std.proofs.lemmas.Bool.Decides.{nat_tests}
use Rattle.std.proofs.lemmas.List.{take_all}
use lib.Ieee.{Float}
use Rattle.words.specs.Words.{doubles_of}
use Rattle.network.specs.Numbers.{Network}
use Rattle.model.specs.Calls.{evaluate_call}
use Rattle.decoding.specs.Exports.{filled_out}
use Rattle.decoding.proofs.Answered.{element_one, unsized_network, unsized_flows, unsized_powers, wholly, cut_count, cut_cells, told_with}
use Rattle.capi_terms.specs.Records.{recorded}
use Rattle.capi_terms.proofs.Recorded.{no_wiring, no_readings, no_terms, all_whole, taken, same_network}
use Rattle.capi_terms.proofs.capi_evaluate_terms.Goals as goal

pub returns-in_default : goal.returns-in_default
returns-in_default c = let a = c.args in
    rw c.pack_answer.ensures (element_one _ _ _ _ _ _ (doubles_of a.sheet.now) _ _ (unsized_network _ _ a.f.now a.pg.now (no_wiring a.wiring.now a.readings.now a.terms.now c.in_default.ensures.fits)))

pub returns-in_default-take : goal.returns-in_default-take
returns-in_default-take c = let a = c.args in
    rw c.pack_answer-in_default-take.ensures (element_one _ _ _ _ _ _ (doubles_of a.sheet.now) _ _ (unsized_network _ _ a.f.now a.pg.now (no_readings a.wiring.now a.readings.now a.terms.now c.in_default-take.ensures.fits)))

pub returns-in_default-take-2 : goal.returns-in_default-take-2
returns-in_default-take-2 c = let a = c.args in
    rw c.pack_answer-in_default-take-2.ensures (element_one _ _ _ _ _ _ (doubles_of a.sheet.now) _ _ (unsized_network _ _ a.f.now a.pg.now (no_terms a.wiring.now a.readings.now a.terms.now (grind (arith, nat_tests, length-take, c.in_default-take-2.ensures.fits)))))

pub returns-in_default-take-3 : goal.returns-in_default-take-3
returns-in_default-take-3 c = let a = c.args in
    rw c.pack_answer-in_default-take-3.ensures (element_one _ _ _ _ _ _ (doubles_of a.sheet.now) _ _ (unsized_flows _ _ a.f.now a.pg.now c.in_default-take-3.ensures.fits))

pub returns-in_default-take-4 : goal.returns-in_default-take-4
returns-in_default-take-4 c = let a = c.args in
    rw c.pack_answer-in_default-take-4.ensures (element_one _ _ _ _ _ _ (doubles_of a.sheet.now) _ _ (unsized_powers _ _ a.f.now a.pg.now c.in_default-take-4.ensures.fits))

pub slice_bounds-evaluate_out-end : goal.slice_bounds-evaluate_out-end
slice_bounds-evaluate_out-end c = cut_count _ _ c.cells_for-k.ensures.below

pub evaluate_out-requires : goal.evaluate_out-requires
evaluate_out-requires c = cut_cells _ c.cells_for-k.ensures.below c.cells_for-k.ensures

pub returns : goal.returns
returns c = let a = c.args in
    let w = c.in-Some.ensures in
    let r = c.in-Some-take.ensures in
    let t = taken a.terms.now c.in-Some-take-2.ensures.held c.in-Some-take-2.ensures.fits (search (rules, take_all)) in
    let f = c.in-Some-take-3.ensures in
    let p = c.in-Some-take-4.ensures in
    let e = wholly (recorded a.wiring a.readings a.terms) _ a.f.now a.pg.now (all_whole a.wiring.now a.readings.now a.terms.now w.fits r.fits t.1) f.fits p.fits in
    c.evaluate_out.ensures
    ∙ told_with (λ (b : Bool) (N : Network) (F P : List Float). filled_out b (evaluate_call N a.row F P (doubles_of a.sheet.now)) a.sheet.now) e (same_network w.held r.held t.0) f.held p.held
