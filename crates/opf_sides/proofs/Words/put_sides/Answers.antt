-- `opf_sides::Words::put_sides` meets its contract: none, one or two. Assumes nothing.
use Rattle.opf_sides.proofs.Storing.{none_added, added}
use Rattle.opf_sides.proofs.Words.put_sides.Goals as goal

pub returns-in-Nothing : goal.returns-in-Nothing
returns-in-Nothing c = rw c.in-Nothing.is (none_added c.args.self.now)

pub returns-in-Two : goal.returns-in-Two
returns-in-Two c = rw c.in-Two.is (added c.put-in-Two.ensures c.put-in-Two-2.ensures)
