-- `opf_layout::OpfLayout::row` meets its contract, block by block. Assumes nothing.
use mathlib.Core.Path.{refl}
use Rattle.opf_layout.specs.declared.OpfRow.TheVariants.{Balance, FlowRow, Reference, LineUb, LineLb, GenUb, GenLb, ShedUb, ShedLb, PhaseUb, PhaseLb, Segment, LinearEqual, LinearLimit}
use Rattle.opf_layout.proofs.OpfLayout.row.Goals as goal

pub returns-in-Balance : goal.returns-in-Balance
returns-in-Balance c = rw c.in-Balance.is (refl, c.requires.rows_narrow Balance)

pub returns-in-FlowRow : goal.returns-in-FlowRow
returns-in-FlowRow c = rw c.in-FlowRow.is (refl, c.requires.rows_narrow FlowRow)

pub returns-in-Reference : goal.returns-in-Reference
returns-in-Reference c = rw c.in-Reference.is (refl, c.requires.rows_narrow Reference)

pub returns-in-LineUb : goal.returns-in-LineUb
returns-in-LineUb c = rw c.in-LineUb.is (refl, c.requires.rows_narrow LineUb)

pub returns-in-LineLb : goal.returns-in-LineLb
returns-in-LineLb c = rw c.in-LineLb.is (refl, c.requires.rows_narrow LineLb)

pub returns-in-GenUb : goal.returns-in-GenUb
returns-in-GenUb c = rw c.in-GenUb.is (refl, c.requires.rows_narrow GenUb)

pub returns-in-GenLb : goal.returns-in-GenLb
returns-in-GenLb c = rw c.in-GenLb.is (refl, c.requires.rows_narrow GenLb)

pub returns-in-ShedUb : goal.returns-in-ShedUb
returns-in-ShedUb c = rw c.in-ShedUb.is (refl, c.requires.rows_narrow ShedUb)

pub returns-in-ShedLb : goal.returns-in-ShedLb
returns-in-ShedLb c = rw c.in-ShedLb.is (refl, c.requires.rows_narrow ShedLb)

pub returns-in-PhaseUb : goal.returns-in-PhaseUb
returns-in-PhaseUb c = rw c.in-PhaseUb.is (refl, c.requires.rows_narrow PhaseUb)

pub returns-in-PhaseLb : goal.returns-in-PhaseLb
returns-in-PhaseLb c = rw c.in-PhaseLb.is (refl, c.requires.rows_narrow PhaseLb)

pub returns-in-Segment : goal.returns-in-Segment
returns-in-Segment c = rw c.in-Segment.is (refl, c.requires.rows_narrow Segment)

pub returns-in-LinearEqual : goal.returns-in-LinearEqual
returns-in-LinearEqual c = rw c.in-LinearEqual.is (refl, c.requires.rows_narrow LinearEqual)

pub returns-in-LinearLimit : goal.returns-in-LinearLimit
returns-in-LinearLimit c = rw c.in-LinearLimit.is (refl, c.requires.rows_narrow LinearLimit)
