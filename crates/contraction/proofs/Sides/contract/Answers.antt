-- `contraction::Sides::contract` meets its contract: by elements, by parameter columns, or all words +0. Assumes nothing.
use Rattle.contraction.specs.Contraction.{contracted_row, contracted}
use Rattle.contraction.proofs.Columns.{alike_front}
use Rattle.contraction.proofs.Sides.contract.Goals as goal

pub returns-in-Forward : goal.returns-in-Forward
unfolding contracted contracted_row
returns-in-Forward c = rw c.in-Forward.is c.contract.ensures

pub returns-in-Adjoint : goal.returns-in-Adjoint
unfolding contracted contracted_row
returns-in-Adjoint c = rw c.in-Adjoint.is c.contract_columns.ensures

pub returns-in-Auto : goal.returns-in-Auto
unfolding contracted contracted_row
returns-in-Auto c = rw c.in-Auto.is (alike_front _ _ _ _ c.requires (c.fill.ensures.after (λ y e. e)))
