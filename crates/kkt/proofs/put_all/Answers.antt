-- `kkt::put_all` meets its contract: a triplet more each turn. Assumes nothing.
use native.Mathlib.Omega.{arith}
use Rattle.kkt.proofs.Emitted.{all_begin, all_more}
use Rattle.kkt.proofs.put_all.Goals as goal

pub loop-triplet-init : goal.loop-triplet-init
loop-triplet-init n c = (all_begin, omega arith)

pub loop-triplet-preserved : goal.loop-triplet-preserved
loop-triplet-preserved n c = (all_more c.args.triplets c.loop-triplet.triplet-index _ (omega arith) c.loop-triplet.invariant.0 c.put.ensures.puts, omega (arith, c.put.ensures.most))
