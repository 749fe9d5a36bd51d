-- `sens::accept_third` meets its contract: the selector's tests with the sheets' lengths and words. Assumes nothing.
use Rattle.std.proofs.lemmas.Result.{IfOk-weaker}
use Rattle.sens.proofs.Returns.{third_number_lem, third_accepted}
use Rattle.sens.proofs.accept_third.Goals as goal

pub returns-clause-number : goal.returns-clause-number
returns-clause-number c =
    third_number_lem _ _ _ _ _ _ c.dim_of-dim.ensures c.third_is_long-sizes.ensures c.third_holds-values.ensures c.accept_selector.ensures.number

pub returns-clause-third_accepted : goal.returns-clause-third_accepted
returns-clause-third_accepted c =
    IfOk-weaker _ _ _ (λ site s. third_accepted _ _ _ _ _ _ c.dim_of-dim.ensures c.third_is_long-sizes.ensures s) c.accept_selector.ensures.selected
