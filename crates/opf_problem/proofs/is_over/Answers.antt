-- `opf_problem::is_over` meets its contract. Assumes nothing.
use Rattle.opf_problem.proofs.Bound.{most_fits}
use Rattle.opf_problem.proofs.is_over.Goals as goal

pub returns-then-most-room : goal.returns-then-most-room
returns-then-most-room g c = λ ts h m. most_fits _ c.args.most c.args.room m c.if-most-room.true

pub returns : goal.returns
returns g c = λ ts h m. rw (c.counted.ensures ts h)
