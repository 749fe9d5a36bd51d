-- The closure `own` of `kkt_generators::put_dispatch` meets its contract: its four entries. Assumes nothing.
use Rattle.kkt_generators.proofs.Turns.{two_bits}
use Rattle.kkt_generators.proofs.fn.put_dispatch.own.Goals as goal

pub returns : goal.returns
returns c = rw (c.entry-4.ensures, c.entry-3.ensures, c.entry-2.ensures, c.entry.ensures, c.word-bus.ensures.0, c.value-upper.ensures, c.value-lower.ensures, c.reading-curvature.ensures, two_bits)
