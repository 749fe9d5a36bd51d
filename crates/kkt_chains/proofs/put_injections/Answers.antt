-- `kkt_chains::put_injections` meets its contract: the generators, then the shed. Assumes nothing.
use native.Mathlib.Omega.{arith}
use Rattle.sequence.proofs.Sinks.{put_of}
use Rattle.kkt.proofs.Emitted.{puts_then, puts_one}
use Rattle.kkt_chains.proofs.put_injections.Goals as goal

pub put-requires : goal.put-requires
put-requires c = omega (arith, c.put_bus_generators.ensures.most, c.requires.buses_in_bounds)

pub returns-clause-puts : goal.returns-clause-puts
returns-clause-puts c = puts_then _ _ _ _ _ c.put_bus_generators.ensures.puts (puts_one _ _ _ _ (put_of c.entry-shed.ensures c.put.ensures.puts))
