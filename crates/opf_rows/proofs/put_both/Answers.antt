-- `opf_rows::put_both` meets its contract: one row, then the other. Assumes nothing.
use Rattle.sequence.proofs.Sinks.{then}
use Rattle.opf_rows.proofs.put_both.Goals as goal

pub returns-clause-puts : goal.returns-clause-puts
returns-clause-puts c = then c.put_written.ensures.puts c.put_written-2.ensures.puts
