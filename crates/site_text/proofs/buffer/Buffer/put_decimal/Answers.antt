-- `site_text::buffer::Buffer::put_decimal` meets its contract. Assumes nothing.
use Rattle.site_text.proofs.Writing.{told, decimal_text}
use Rattle.site_text.proofs.buffer.Buffer.put_decimal.Goals as goal

pub returns-clause-wrote : goal.returns-clause-wrote
returns-clause-wrote c = told (decimal_text c.args.n _ _ c.ranges.n.fits c.decimal-k.ensures.len c.decimal-k.ensures.digits) c.put_all.ensures
