-- `solution::entry_start` meets its contract, arm by arm. Assumes nothing.
use native.Mathlib.Omega.{arith}
use Rattle.solution.specs.Sheet.{entry_start}
use Rattle.solution.proofs.entry_start.Goals as goal

pub returns-in-Va : goal.returns-in-Va
unfolding entry_start
returns-in-Va c = rw c.in-Va.is (omega arith)

pub returns-in-Pg : goal.returns-in-Pg
unfolding entry_start
returns-in-Pg c = rw c.in-Pg.is (omega arith)

pub returns-in-Flow : goal.returns-in-Flow
unfolding entry_start
returns-in-Flow c = rw c.in-Flow.is (omega arith)

pub returns-in-Psh : goal.returns-in-Psh
unfolding entry_start
returns-in-Psh c = rw c.in-Psh.is (omega arith)

pub returns-in-NuBal : goal.returns-in-NuBal
unfolding entry_start
returns-in-NuBal c = rw c.in-NuBal.is (omega arith)

pub returns-in-LamUb : goal.returns-in-LamUb
unfolding entry_start
returns-in-LamUb c = rw c.in-LamUb.is (omega arith)

pub returns-in-LamLb : goal.returns-in-LamLb
unfolding entry_start
returns-in-LamLb c = rw c.in-LamLb.is (omega arith)

pub returns-in-RhoUb : goal.returns-in-RhoUb
unfolding entry_start
returns-in-RhoUb c = rw c.in-RhoUb.is (omega arith)

pub returns-in-RhoLb : goal.returns-in-RhoLb
unfolding entry_start
returns-in-RhoLb c = rw c.in-RhoLb.is (omega arith)

pub returns-in-MuUb : goal.returns-in-MuUb
unfolding entry_start
returns-in-MuUb c = rw c.in-MuUb.is (omega arith)

pub returns-in-MuLb : goal.returns-in-MuLb
unfolding entry_start
returns-in-MuLb c = rw c.in-MuLb.is (omega arith)

pub returns-in-GammaUb : goal.returns-in-GammaUb
unfolding entry_start
returns-in-GammaUb c = rw c.in-GammaUb.is (omega arith)

pub returns-in-GammaLb : goal.returns-in-GammaLb
unfolding entry_start
returns-in-GammaLb c = rw c.in-GammaLb.is (omega arith)

pub returns-in-Epigraph : goal.returns-in-Epigraph
unfolding entry_start
returns-in-Epigraph c = rw c.in-Epigraph.is (omega arith)

pub returns-in-SegmentDual : goal.returns-in-SegmentDual
unfolding entry_start
returns-in-SegmentDual c = rw c.in-SegmentDual.is (omega arith)

pub returns-in-LinearDual : goal.returns-in-LinearDual
unfolding entry_start
returns-in-LinearDual c = rw c.in-LinearDual.is (omega arith)

pub returns-in-LinearValue : goal.returns-in-LinearValue
unfolding entry_start
returns-in-LinearValue c = rw c.in-LinearValue.is (omega arith)

pub returns-in-Objective : goal.returns-in-Objective
unfolding entry_start
returns-in-Objective c = rw c.in-Objective.is (omega arith)
