-- `capi_sens::matrix::capi_kkt_triplets` meets its contract: refused at once, or the call on what was decoded. Assumes nothing.
use Rattle.std.proofs.Common.{rules, ◌≡◌, []}
use Rattle.sequence.specs.Sheets.{listed}
use Rattle.words.specs.Words.{words_of, doubles_of}
use Rattle.network.specs.Numbers.{Network}
use Rattle.network.specs.Sites.{network_in}
use Rattle.kkt.specs.Slots.Rule.{first_place}
use Rattle.sens_dc.specs.Calls.{matrix_call}
use Rattle.decoding.specs.Listing.{made}
use Rattle.decoding.proofs.Answered.{unsized_beside, wholly_own}
use Rattle.decoding.proofs.ListFilled.{list_exported}
use Rattle.capi_sens.proofs.Solved.{unread_solution}
use Rattle.capi_sens.proofs.Laid.{matrix_one, matrix_answer, matrix_count}
use Rattle.capi_sens.proofs.matrix.capi_kkt_triplets.Goals as goal

pub returns-in_default : goal.returns-in_default
returns-in_default c = let a = c.args in
    rw c.pack_answer.ensures (matrix_one first_place _ _ (words_of a.rows.now) (words_of a.cols.now) (doubles_of a.values.now) _ _ _ _ (unsized_beside _ _ a.solution.now _ c.in_default.ensures.refused))

pub returns-in_default-take : goal.returns-in_default-take
returns-in_default-take c = let a = c.args in
    rw c.pack_answer-in_default-take.ensures (matrix_one first_place _ _ (words_of a.rows.now) (words_of a.cols.now) (doubles_of a.values.now) _ _ _ _ (unread_solution a.wiring.now a.readings.now a.term_index.now a.term_coefficient.now a.solution.now c.in_default-take.ensures.fits))

pub fill_list_cells-requires-clause-call : goal.fill_list_cells-requires-clause-call
fill_list_cells-requires-clause-call c = let a = c.args in
    record {
      may = λ l x y z h. tt;
      within = λ l x y z n x' y' z' h p.
          let e : listed n x'.now y'.now z'.now ≡ matrix_call first_place [] (network_in l) (doubles_of a.solution.now) x.now y.now z.now = search rules in
          matrix_count _ _ _ a.rows.now a.cols.now a.values.now x.now y.now z.now h e;
    }

pub returns : goal.returns
returns c = let a = c.args in
    let d = c.in-Some.ensures.decoded in
    list_exported _ (λ (N : Network). matrix_call first_place [] N (doubles_of a.solution.now))
    (λ h. matrix_one first_place _ _ (words_of a.rows.now) (words_of a.cols.now) (doubles_of a.values.now) _ _ _ _ (unsized_beside _ _ a.solution.now _ h))
    (λ o. wholly_own a.solution.now 6017 o c.in-Some-take.ensures.fits)
    (λ l x y z n x' y' z' h p.
    let e : listed n x'.now y'.now z'.now ≡ matrix_call first_place [] (network_in l) (doubles_of a.solution.now) x.now y.now z.now = search rules in
    matrix_answer _ _ _ a.rows.now a.cols.now a.values.now x.now y.now z.now h e)
    (made d.0 (rw d.1 at c.fill_list_cells.ensures))
