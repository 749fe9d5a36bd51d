-- `network::site::Wiring::row_holds` meets its contract, test by test. Assumes nothing.
use mathlib.Core.Path.{◌∙◌}
use Rattle.sequence.proofs.Lists.{failed, held}
use Rattle.network.proofs.Tests.{flow_fails, flow_holds}
use Rattle.network.proofs.site.Wiring.row_holds.Goals as goal

pub returns-then-not-indexes_below : goal.returns-then-not-indexes_below
returns-then-not-indexes_below c = flow_fails _ _ _ _ c.requires.1 c.word-flow.ensures.0 (failed c.indexes_below.ensures c.if-not-indexes_below.true)

pub returns : goal.returns
returns c = c.indexes_below-2.ensures ∙ flow_holds _ _ _ _ c.requires.1 c.word-flow.ensures.0 (held c.indexes_below.ensures c.if-not-indexes_below.false) c.word-generation.ensures.0
