-- `site_text::buffer::Buffer::put_triplet_line` meets its contract. Assumes nothing.
use Rattle.site_text.proofs.Writing.{triplet_line_lem}
use Rattle.std.proofs.Common.{rules}
use Rattle.site_text.proofs.buffer.Buffer.put_triplet_line.Goals as goal

pub returns-clause-wrote : goal.returns-clause-wrote
returns-clause-wrote c = triplet_line_lem c.args.t (search rules) (search rules) c.pattern.ensures c.put_decimal.ensures.wrote c.put.ensures c.put_decimal-2.ensures.wrote c.put-2.ensures c.put_hex.ensures c.put-3.ensures
