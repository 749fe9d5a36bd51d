-- `parameter_column::cap_rate` meets its contract. Assumes nothing.
use lib.Ieee.{of_bits, of_int}
use Rattle.float64.specs.Values.{whole}
use Rattle.parameter_column.proofs.cap_rate.Goals as goal

pub returns-then-is_fixed_zero_shed : goal.returns-then-is_fixed_zero_shed
unfolding whole of_int of_bits
returns-then-is_fixed_zero_shed c = λ S. rw (← (c.is_fixed_zero_shed.ensures S), c.if-is_fixed_zero_shed.true)

pub returns-else-is_fixed_zero_shed : goal.returns-else-is_fixed_zero_shed
unfolding whole of_int of_bits
returns-else-is_fixed_zero_shed c = λ S. rw (← (c.is_fixed_zero_shed.ensures S), c.if-is_fixed_zero_shed.false)
