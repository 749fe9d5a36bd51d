-- `opf_program::put_branch` meets its contract: one part after the other, each limit where its flag is set. Assumes nothing.
use mathlib.Core.Path.{refl, ◌∙◌}
use Rattle.sequence.specs.Lists.{when}
use Rattle.sequence.specs.Sinks.{Gains}
use Rattle.network.specs.declared.Part.TheVariants.{ThermalFlags}
use Rattle.opf_layout.specs.declared.OpfColumn.TheVariants.{Flow}
use Rattle.opf_layout.specs.declared.OpfRow.TheVariants.{LineUb, LineLb}
use Rattle.opf_layout.specs.Layout.{active_rank, flagged}
use Rattle.opf_assembly.specs.Assembly.{two_sides, branch_own, phase_entries}
use Rattle.opf_program.specs.Walks.{written}
use Rattle.opf_program.proofs.Triplets.{all_put, meant_put, unmeant_put}
use Rattle.opf_program.proofs.Branches.{flag_on, flag_off, branch_put}
use Rattle.opf_program.proofs.put_branch.Goals as goal
use Rattle.opf_program.proofs.put_branch.Goals.{then-word-ne0, else-word-ne0}

pub returns-then-word-ne0-2-clause-puts : goal.returns-then-word-ne0-2-clause-puts
returns-then-word-ne0-2-clause-puts c = let a = c.args in
    let o = a.opf.now in
    let p = o.grid.plan in
    let k = active_rank (flagged p.counts p.wiring.now ThermalFlags) a.e in
    let sides = two_sides LineUb LineLb k Flow a.e in
    let own = all_put o.layout p.counts p.readings.now (branch_own p.counts p.wiring.now p.readings.now a.e) c.own.ensures c.put_all.ensures.puts in
    let lines : Gains (written o.layout p.counts p.readings.now (when (flagged p.counts p.wiring.now ThermalFlags a.e) sides)) c.put_all.new.sink c.if-word-ne0.sink =
    elim c.if-word-ne0.branch [
      | then-word-ne0 w ↦ rw w.sink-is (meant_put o.layout p.counts p.readings.now sides (flag_on w.if-word-ne0.true c.word.ensures.0) (all_put o.layout p.counts p.readings.now sides (w.sides.ensures ∙ rw c.requires.line_value.0 refl) w.put_all-then-word-ne0.ensures.puts))
      | else-word-ne0 w ↦ rw w.sink-is (unmeant_put o.layout p.counts p.readings.now sides (flag_off w.if-word-ne0.false c.word.ensures.0))
    ] in
    let phases = phase_entries p.counts p.wiring.now p.readings.now a.e in
    branch_put o.layout p.counts p.wiring.now p.readings.now a.e own lines
    (meant_put o.layout p.counts p.readings.now phases (flag_on c.if-word-ne0-2.true c.word-2.ensures.0) (all_put o.layout p.counts p.readings.now phases c.phase.ensures c.put_all-then-word-ne0-2.ensures.puts))

pub returns-else-word-ne0-2-clause-puts : goal.returns-else-word-ne0-2-clause-puts
returns-else-word-ne0-2-clause-puts c = let a = c.args in
    let o = a.opf.now in
    let p = o.grid.plan in
    let k = active_rank (flagged p.counts p.wiring.now ThermalFlags) a.e in
    let sides = two_sides LineUb LineLb k Flow a.e in
    let own = all_put o.layout p.counts p.readings.now (branch_own p.counts p.wiring.now p.readings.now a.e) c.own.ensures c.put_all.ensures.puts in
    let lines : Gains (written o.layout p.counts p.readings.now (when (flagged p.counts p.wiring.now ThermalFlags a.e) sides)) c.put_all.new.sink c.if-word-ne0.sink =
    elim c.if-word-ne0.branch [
      | then-word-ne0 w ↦ rw w.sink-is (meant_put o.layout p.counts p.readings.now sides (flag_on w.if-word-ne0.true c.word.ensures.0) (all_put o.layout p.counts p.readings.now sides (w.sides.ensures ∙ rw c.requires.line_value.0 refl) w.put_all-then-word-ne0.ensures.puts))
      | else-word-ne0 w ↦ rw w.sink-is (unmeant_put o.layout p.counts p.readings.now sides (flag_off w.if-word-ne0.false c.word.ensures.0))
    ] in
    branch_put o.layout p.counts p.wiring.now p.readings.now a.e own lines
    (unmeant_put o.layout p.counts p.readings.now (phase_entries p.counts p.wiring.now p.readings.now a.e) (flag_off c.if-word-ne0-2.false c.word-2.ensures.0))
