-- `capi::list::capi_susceptance_coo` meets its contract: refused at once, or the call on what was decoded. Assumes nothing.
use Rattle.std.proofs.Common.{rules}
use Rattle.words.specs.Words.{words_of, doubles_of}
use Rattle.model.specs.Calls.{susceptance_call}
use Rattle.decoding.proofs.Answered.{unsized}
use Rattle.decoding.proofs.ListFilled.{list_exported}
use Rattle.capi.proofs.Listed.{susceptance_answer, susceptance_count, susceptance_one}
use Rattle.capi.proofs.list.capi_susceptance_coo.Goals as goal

pub fill_list-requires-clause-call : goal.fill_list-requires-clause-call
fill_list-requires-clause-call c = let a = c.args in
    record {
      may = λ l x y z h. tt;
      within = λ l x y z n x' y' z' h p. susceptance_count _ a.rows.now a.cols.now a.values.now x.now y.now z.now h p.1;
    }

pub returns : goal.returns
returns c = let a = c.args in
    list_exported _ susceptance_call
    (λ h. susceptance_one _ (words_of a.rows.now) (words_of a.cols.now) (doubles_of a.values.now) _ _ _ _ (unsized _ _ h)) (λ o. o)
    (λ l x y z n x' y' z' h p. susceptance_answer _ a.rows.now a.cols.now a.values.now x.now y.now z.now h p.1)
    c.fill_list.ensures
