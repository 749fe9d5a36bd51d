-- `selector_check::dim_of` meets its contract: where the network's sizes hold, its counts give the dimension. Assumes nothing.
use mathlib.Core.Path.{◌∙◌}
use Rattle.sequence.proofs.Lists.{failed, held}
use Rattle.network.proofs.Tests.{sized_nine, sized_wiring, sized_readings}
use Rattle.solution_check.proofs.Own.{apart}
use Rattle.selector_check.proofs.dim_of.Goals as goal

pub returns-then-not-sizes_hold : goal.returns-then-not-sizes_hold
returns-then-not-sizes_hold c = λ e. absurd (apart _ e (failed c.sizes_hold.ensures c.if-not-sizes_hold.true))

pub counts-requires : goal.counts-requires
counts-requires c = sized_nine _ (held c.sizes_hold.ensures c.if-not-sizes_hold.false)

pub invariant_of-plan : goal.invariant_of-plan
invariant_of-plan c = let h = held c.sizes_hold.ensures c.if-not-sizes_hold.false in rw c.counts.ensures (record { wiring_laid = sized_wiring _ h; readings_laid = sized_readings _ h })

pub returns : goal.returns
returns c = λ e. c.dim_at.ensures ∙ rw c.counts.ensures
