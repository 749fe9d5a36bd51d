-- `capi::number::capi_row_kind` meets its contract: 1 at once, or the number and kind of what was decoded. Assumes nothing.
use mathlib.Core.Path.{◌∙◌}
use mathlib.Core.Bool.{Bool, cond}
use Rattle.network.specs.Numbers.{Network}
use Rattle.model.specs.Calls.{row_kind_call}
use Rattle.decoding.specs.Exports.{packed}
use Rattle.decoding.proofs.Answered.{kind_one, told}
use Rattle.capi.proofs.number.capi_row_kind.Goals as goal

pub returns-in_default : goal.returns-in_default
returns-in_default c = rw c.pack_answer.ensures (kind_one _ _ c.args.row c.in_default.ensures.refused)

pub returns : goal.returns
returns c = let a = c.args in
    let h = c.in-Some.ensures.decoded in
    c.row_kind_out.ensures ∙ told (λ (b : Bool) (N : Network). cond b (packed (row_kind_call N a.row).number (row_kind_call N a.row).kind) 1) h.0 h.1
