-- `capi_problem::program::side_lengths` meets its contract. Assumes nothing.
use mathlib.Core.Path.{refl}
use Rattle.capi_problem.proofs.Lengths.{sides_are}
use Rattle.capi_problem.proofs.program.side_lengths.Goals as goal

pub invariant_of-plan : goal.invariant_of-plan
invariant_of-plan c = rw c.counts-c.ensures (record { wiring_laid = c.requires.wiring_laid; readings_laid = c.requires.readings_laid })

pub returns : goal.returns
returns c = let a = c.args in
    sides_are a.wiring.now a.readings.now c.counts-c.ensures refl c.of-lay.ensures.placed c.cone_count.ensures
