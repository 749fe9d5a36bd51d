-- `opf_problem::draft::Draft::put_p` meets its contract: the layout is placed. Assumes nothing.
use Rattle.opf_layout.specs.Layout.{active_of}
use Rattle.opf_layout.proofs.Counting.{narrow}
use Rattle.opf_problem.proofs.draft.Draft.put_p.Goals as goal

pub put_p-requires-clause-narrow : goal.put_p-requires-clause-narrow
put_p-requires-clause-narrow c = let d = c.args.self.now in narrow d.site.grid.plan.counts (active_of d.site.grid.plan.counts d.site.grid.plan.wiring.now d.site.grid.plan.readings.now) d.layout d.bounded d.placed

pub returns : goal.returns
returns c = let d = c.args.self.now in c.put_p.ensures.puts (active_of d.site.grid.plan.counts d.site.grid.plan.wiring.now d.site.grid.plan.readings.now) d.placed
