-- `kkt_rows::put_side` meets its contract: its terms, then its slack if it has one. Assumes nothing.
use native.Mathlib.Omega.{arith}
use Rattle.sequence.proofs.Lists.{failed, held}
use Rattle.network.specs.Layout.{reading}
use Rattle.solution.specs.Sheet.{solved}
use Rattle.kkt_rows.proofs.Sides.{level_done, slack_done}
use Rattle.kkt_rows.proofs.put_side.Goals as goal

pub returns-then-not-slackens-clause-puts : goal.returns-then-not-slackens-clause-puts
returns-then-not-slackens-clause-puts c = let a = c.args in
    let k = a.at.now.line.site.kkt in
    let n = k.grid.plan.counts in
    level_done k.index (reading n k.grid.plan.readings.now) (solved n k.index.pieces k.sheet.now) n k.grid.plan.wiring.now a.at.now.line.site.term_index.now a.at.now.line.site.term_coefficient.now a.at.now.side a.at.now.line.q a.at.now.row (failed c.slackens.ensures c.if-not-slackens.true) c.put_both_terms.ensures.puts

pub entry-requires-clause-i_bound : goal.entry-requires-clause-i_bound
entry-requires-clause-i_bound c = (omega (arith, c.args.at.now.low), omega (arith, c.args.at.now.low))

pub put-requires : goal.put-requires
put-requires c = omega (arith, c.put_both_terms.ensures.most, c.requires)

pub returns-clause-puts : goal.returns-clause-puts
returns-clause-puts c = let a = c.args in
    let k = a.at.now.line.site.kkt in
    let n = k.grid.plan.counts in
    slack_done k.index (reading n k.grid.plan.readings.now) (solved n k.index.pieces k.sheet.now) n k.grid.plan.wiring.now a.at.now.line.site.term_index.now a.at.now.line.site.term_coefficient.now a.at.now.side a.at.now.line.q a.at.now.row (held c.slackens.ensures c.if-not-slackens.false) c.args.at.now.slack_is c.entry.ensures c.put_both_terms.ensures.puts c.put.ensures.puts
