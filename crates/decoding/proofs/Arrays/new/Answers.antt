-- `decoding::Arrays::new` meets its contract. Assumes nothing.
use Rattle.std.proofs.Common.{rules}
use Rattle.decoding.specs.Decoding.{zeros}
use Rattle.decoding.proofs.Arrays.new.Goals as goal

pub returns : goal.returns
unfolding zeros
returns c = search rules
