-- `parameter_column::shift_column` meets its contract, by the limits. Assumes nothing.
use lib.Ieee.{of_bits, of_int}
use Rattle.float64.specs.Values.{whole}
use Rattle.parameter_column.proofs.Touching.{still, then}
use Rattle.parameter_column.proofs.shift_column.Goals as goal

pub returns-in-None : goal.returns-in-None
returns-in-None c = rw c.in-None.is still

pub returns-in-Upper : goal.returns-in-Upper
returns-in-Upper c = rw c.in-Upper.is c.touch.ensures

pub returns-in-Lower : goal.returns-in-Lower
returns-in-Lower c = rw c.in-Lower.is c.touch-in-Lower.ensures

pub returns-in-Both : goal.returns-in-Both
returns-in-Both c = rw c.in-Both.is (then c.touch-in-Both.ensures c.touch-in-Both-2.ensures)

pub returns-in-Equal : goal.returns-in-Equal
unfolding whole of_int of_bits
returns-in-Equal c = rw c.in-Equal.is c.touch-in-Equal.ensures
