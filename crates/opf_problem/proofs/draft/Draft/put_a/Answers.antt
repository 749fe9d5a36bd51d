-- `opf_problem::draft::Draft::put_a` meets its contract: the layout is placed. Assumes nothing.
use Rattle.opf_layout.specs.Layout.{active_of}
use Rattle.opf_layout.proofs.Counting.{narrow}
use Rattle.opf_problem.proofs.draft.Draft.put_a.Goals as goal

pub put_a-requires-clause-placed : goal.put_a-requires-clause-placed
put_a-requires-clause-placed c = let d = c.args.self.now in (d.placed, narrow d.site.grid.plan.counts (active_of d.site.grid.plan.counts d.site.grid.plan.wiring.now d.site.grid.plan.readings.now) d.layout d.bounded d.placed)
