-- `kkt_buses::put_angle_rest` meets its contract: the susceptance sums, then the reference. Assumes nothing.
use native.Mathlib.Omega.{arith}
use Rattle.kkt.proofs.Emitted.{puts_then}
use Rattle.kkt_buses.proofs.put_angle_rest.Goals as goal

pub put_reference-requires-clause-buses_in_bounds : goal.put_reference-requires-clause-buses_in_bounds
put_reference-requires-clause-buses_in_bounds c = let j = c.requires.buses_in_bounds in (j.0, j.1, omega (arith, c.put_kept.ensures.most, j))

pub returns-clause-puts : goal.returns-clause-puts
returns-clause-puts c = puts_then _ _ _ _ _ c.put_kept.ensures.puts c.put_reference.ensures.puts
