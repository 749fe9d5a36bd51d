-- `sens::accept_first` meets its contract: the selector's tests with the count's. Assumes nothing.
use Rattle.std.proofs.lemmas.Result.{IfOk-weaker}
use Rattle.sens.proofs.Returns.{first_number_lem, first_accepted}
use Rattle.sens.proofs.accept_first.Goals as goal

pub returns-clause-number : goal.returns-clause-number
returns-clause-number c = first_number_lem _ _ _ _ c.dim_of.ensures c.count_fits-sizes.ensures c.accept_selector.ensures.number

pub returns-clause-first_accepted : goal.returns-clause-first_accepted
returns-clause-first_accepted c = IfOk-weaker _ _ _ (λ site s. first_accepted _ _ _ _ c.dim_of.ensures c.count_fits-sizes.ensures s) c.accept_selector.ensures.selected
