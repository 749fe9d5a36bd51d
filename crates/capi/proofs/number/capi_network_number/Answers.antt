-- `capi::number::capi_network_number` meets its contract: 1 at once, or the number of what was decoded. Assumes nothing.
use mathlib.Core.Path.{◌∙◌}
use mathlib.Core.Bool.{Bool, cond}
use Rattle.network.specs.Numbers.{Network, network_number}
use Rattle.decoding.proofs.Answered.{number_one, told}
use Rattle.capi.proofs.number.capi_network_number.Goals as goal

pub returns-in_default : goal.returns-in_default
returns-in_default c = rw c.pack_answer.ensures (number_one _ _ c.in_default.ensures.refused)

pub returns : goal.returns
returns c = let h = c.in-Some.ensures.decoded in
    c.network_number_out.ensures ∙ told (λ (b : Bool) (N : Network). cond b (network_number N) 1) h.0 h.1
