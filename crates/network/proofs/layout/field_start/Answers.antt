-- `network::layout::field_start` meets its contract, arm by arm. Assumes nothing.
use native.Mathlib.Omega.{arith}
use Rattle.network.specs.Layout.{field_start}
use Rattle.network.proofs.layout.field_start.Goals as goal

pub returns-in-BaseMva : goal.returns-in-BaseMva
unfolding field_start
returns-in-BaseMva c = rw c.in-BaseMva.is (omega arith)

pub returns-in-Susceptance : goal.returns-in-Susceptance
unfolding field_start
returns-in-Susceptance c = rw c.in-Susceptance.is (omega arith)

pub returns-in-Sw : goal.returns-in-Sw
unfolding field_start
returns-in-Sw c = rw c.in-Sw.is (omega arith)

pub returns-in-Shift : goal.returns-in-Shift
unfolding field_start
returns-in-Shift c = rw c.in-Shift.is (omega arith)

pub returns-in-FlowOffset : goal.returns-in-FlowOffset
unfolding field_start
returns-in-FlowOffset c = rw c.in-FlowOffset.is (omega arith)

pub returns-in-Fmax : goal.returns-in-Fmax
unfolding field_start
returns-in-Fmax c = rw c.in-Fmax.is (omega arith)

pub returns-in-Angmin : goal.returns-in-Angmin
unfolding field_start
returns-in-Angmin c = rw c.in-Angmin.is (omega arith)

pub returns-in-Angmax : goal.returns-in-Angmax
unfolding field_start
returns-in-Angmax c = rw c.in-Angmax.is (omega arith)

pub returns-in-Gmin : goal.returns-in-Gmin
unfolding field_start
returns-in-Gmin c = rw c.in-Gmin.is (omega arith)

pub returns-in-Gmax : goal.returns-in-Gmax
unfolding field_start
returns-in-Gmax c = rw c.in-Gmax.is (omega arith)

pub returns-in-Cq : goal.returns-in-Cq
unfolding field_start
returns-in-Cq c = rw c.in-Cq.is (omega arith)

pub returns-in-Cl : goal.returns-in-Cl
unfolding field_start
returns-in-Cl c = rw c.in-Cl.is (omega arith)

pub returns-in-Cc : goal.returns-in-Cc
unfolding field_start
returns-in-Cc c = rw c.in-Cc.is (omega arith)

pub returns-in-CShed : goal.returns-in-CShed
unfolding field_start
returns-in-CShed c = rw c.in-CShed.is (omega arith)

pub returns-in-Demand : goal.returns-in-Demand
unfolding field_start
returns-in-Demand c = rw c.in-Demand.is (omega arith)

pub returns-in-ShuntConductance : goal.returns-in-ShuntConductance
unfolding field_start
returns-in-ShuntConductance c = rw c.in-ShuntConductance.is (omega arith)

pub returns-in-HvdcInjection : goal.returns-in-HvdcInjection
unfolding field_start
returns-in-HvdcInjection c = rw c.in-HvdcInjection.is (omega arith)

pub returns-in-Slopes : goal.returns-in-Slopes
unfolding field_start
returns-in-Slopes c = rw c.in-Slopes.is (omega arith)

pub returns-in-Intercepts : goal.returns-in-Intercepts
unfolding field_start
returns-in-Intercepts c = rw c.in-Intercepts.is (omega arith)

pub returns-in-UpperMw : goal.returns-in-UpperMw
unfolding field_start
returns-in-UpperMw c = rw c.in-UpperMw.is (omega arith)

pub returns-in-LowerMw : goal.returns-in-LowerMw
unfolding field_start
returns-in-LowerMw c = rw c.in-LowerMw.is (omega arith)
