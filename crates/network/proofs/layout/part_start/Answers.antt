-- `network::layout::part_start` meets its contract, arm by arm. Assumes nothing.
use native.Mathlib.Omega.{arith}
use Rattle.network.specs.Layout.{part_start}
use Rattle.network.proofs.layout.part_start.Goals as goal

pub returns-in-BrFrom : goal.returns-in-BrFrom
unfolding part_start
returns-in-BrFrom c = rw c.in-BrFrom.is (omega arith)

pub returns-in-BrTo : goal.returns-in-BrTo
unfolding part_start
returns-in-BrTo c = rw c.in-BrTo.is (omega arith)

pub returns-in-GenBus : goal.returns-in-GenBus
unfolding part_start
returns-in-GenBus c = rw c.in-GenBus.is (omega arith)

pub returns-in-Segments : goal.returns-in-Segments
unfolding part_start
returns-in-Segments c = rw c.in-Segments.is (omega arith)

pub returns-in-References : goal.returns-in-References
unfolding part_start
returns-in-References c = rw c.in-References.is (omega arith)

pub returns-in-GeneratorFlags : goal.returns-in-GeneratorFlags
unfolding part_start
returns-in-GeneratorFlags c = rw c.in-GeneratorFlags.is (omega arith)

pub returns-in-ThermalFlags : goal.returns-in-ThermalFlags
unfolding part_start
returns-in-ThermalFlags c = rw c.in-ThermalFlags.is (omega arith)

pub returns-in-AngleFlags : goal.returns-in-AngleFlags
unfolding part_start
returns-in-AngleFlags c = rw c.in-AngleFlags.is (omega arith)

pub returns-in-Masks : goal.returns-in-Masks
unfolding part_start
returns-in-Masks c = rw c.in-Masks.is (omega arith)

pub returns-in-FlowTerms : goal.returns-in-FlowTerms
unfolding part_start
returns-in-FlowTerms c = rw c.in-FlowTerms.is (omega arith)

pub returns-in-GenerationTerms : goal.returns-in-GenerationTerms
unfolding part_start
returns-in-GenerationTerms c = rw c.in-GenerationTerms.is (omega arith)
