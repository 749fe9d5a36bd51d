-- `opf_readback::put_turned` meets its contract: a word more each turn. Assumes nothing.
use Rattle.sequence.proofs.Fronts.{Fronted}
use Rattle.opf_readback.specs.Walks.{turned_at}
use Rattle.opf_readback.proofs.put_turned.Given as goal

abbrev pub invariant-loop-i : goal.invariant-loop-i
invariant-loop-i l = Fronted (turned_at l.block) l.i l.initial.out l.out
