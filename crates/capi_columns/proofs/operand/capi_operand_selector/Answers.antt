-- `capi_columns::operand::capi_operand_selector` meets its contract: refused at once, or the call on what was decoded. Assumes nothing.
use Rattle.std.proofs.Common.{rules}
use Rattle.decoding.proofs.Answered.{unsized, cells_are}
use Rattle.capi_columns.proofs.Selector.{selector_one}
use Rattle.capi_columns.proofs.operand.capi_operand_selector.Goals as goal

pub returns-in_default : goal.returns-in_default
returns-in_default c = rw c.pack_answer.ensures (selector_one _ _ _ _ _ _ _ _ (unsized _ _ c.in_default.ensures.refused))

pub selector_out-requires-clause-elements : goal.selector_out-requires-clause-elements
selector_out-requires-clause-elements c = let e = cells_are c.cells_for-sign_room.ensures in search rules

pub selector_out-requires-clause-entries : goal.selector_out-requires-clause-entries
selector_out-requires-clause-entries c = let e = cells_are c.cells_for-weight_room.ensures in search rules
