-- `raw_check::raw_is_long` meets its contract: where the network's sizes hold, both lengths are compared. Assumes nothing.
use mathlib.Core.Path.{refl, ◌∙◌}
use borrow.Author.Tests.{ne_eqb}
use Rattle.sequence.proofs.Lists.{failed, held}
use Rattle.network.proofs.Tests.{sized_nine, sized_wiring, sized_readings}
use Rattle.solution_check.proofs.Own.{apart}
use Rattle.raw_check.proofs.Raw.{rows_left, columns_off}
use Rattle.raw_check.proofs.raw_is_long.Goals as goal

pub returns-then-not-sizes_hold : goal.returns-then-not-sizes_hold
returns-then-not-sizes_hold c = λ e. absurd (apart _ e (failed c.sizes_hold.ensures c.if-not-sizes_hold.true))

pub counts-c-requires : goal.counts-c-requires
counts-c-requires c = sized_nine _ (held c.sizes_hold.ensures c.if-not-sizes_hold.false)

pub invariant_of-plan : goal.invariant_of-plan
invariant_of-plan c = let h = held c.sizes_hold.ensures c.if-not-sizes_hold.false in rw c.counts-c.ensures (record { wiring_laid = sized_wiring _ h; readings_laid = sized_readings _ h })

pub returns-then-raw-lay : goal.returns-then-raw-lay
returns-then-raw-lay c = λ e. rows_left _ _ _ c.counts-c.ensures refl c.of-lay.ensures.placed c.if-raw-lay.true

pub returns-else-raw-lay : goal.returns-else-raw-lay
returns-else-raw-lay c = λ e. ne_eqb _ _ c.if-raw-lay.false ∙ columns_off _ _ _ c.counts-c.ensures refl c.of-lay.ensures.placed c.if-raw-lay.false
