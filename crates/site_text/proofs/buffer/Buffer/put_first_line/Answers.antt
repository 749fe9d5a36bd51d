-- `site_text::buffer::Buffer::put_first_line` meets its contract. Assumes nothing.
use Rattle.site_text.proofs.Writing.{first_line_lem}
use Rattle.std.proofs.Common.{rules}
use Rattle.site_text.proofs.buffer.Buffer.put_first_line.Goals as goal

pub returns-clause-wrote : goal.returns-clause-wrote
returns-clause-wrote c = first_line_lem (search rules) (search rules) c.put_decimal.ensures.wrote c.put.ensures c.put_decimal-2.ensures.wrote c.put-2.ensures
