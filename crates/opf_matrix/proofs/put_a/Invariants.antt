-- `opf_matrix::put_a` meets its contract: each loop puts its entries and carries the counts of the next turn. Assumes nothing.
use Prim.Native.Nat.{◌+◌, ◌*◌, ◌≤◌}
use mathlib.Core.Path.{◌≡◌}
use Rattle.sequence.specs.Lists.{each}
use Rattle.sequence.specs.Sinks.{Gains}
use Rattle.network.specs.declared.Part.TheVariants.{GeneratorFlags, ThermalFlags, AngleFlags}
use Rattle.network.specs.Layout.{segment_start, term_start}
use Rattle.model.specs.Rows.{row_limits}
use Rattle.solution.specs.Sheet.{piece_rank}
use Rattle.opf_layout.specs.Layout.{active_rank, flagged, sheds, equality_rank, inequality_rank}
use Rattle.opf_assembly.specs.Assembly.{shed_entry, generator_entry, branch_entries, reference_entry, capability_entries, shed_bounds, segment_entries, linear_entries}
use Rattle.opf_program.specs.Walks.{written}
use Rattle.opf_matrix.proofs.put_a.Given as goal

abbrev pub invariant-loop-i : goal.invariant-loop-i
invariant-loop-i l = Gains (written l.fn.lay l.site.grid.plan.counts l.site.grid.plan.readings.now (each l.i (shed_entry l.site.grid.plan.counts l.site.grid.plan.wiring.now l.site.grid.plan.readings.now))) l.initial.sink l.sink
    × (l.sink.count ≤ 2048 * l.i)
    × (l.shed ≡ active_rank (sheds l.site.grid.plan.counts l.site.grid.plan.wiring.now l.site.grid.plan.readings.now) l.i)

abbrev pub invariant-loop-j : goal.invariant-loop-j
invariant-loop-j l = Gains (written l.fn.lay l.site.grid.plan.counts l.site.grid.plan.readings.now (each l.j (generator_entry l.site.grid.plan.counts l.site.grid.plan.wiring.now l.site.grid.plan.readings.now))) l.initial.sink l.sink
    × (l.sink.count ≤ 0x100000 + 2048 * l.j)

abbrev pub invariant-loop-e : goal.invariant-loop-e
invariant-loop-e l = Gains (written l.fn.lay l.site.grid.plan.counts l.site.grid.plan.readings.now (each l.e (branch_entries l.site.grid.plan.counts l.site.grid.plan.wiring.now l.site.grid.plan.readings.now))) l.initial.sink l.sink
    × (l.sink.count ≤ 0x200000 + 2048 * l.e)
    × (l.line ≡ active_rank (flagged l.site.grid.plan.counts l.site.grid.plan.wiring.now ThermalFlags) l.e)
    × (l.phase ≡ active_rank (flagged l.site.grid.plan.counts l.site.grid.plan.wiring.now AngleFlags) l.e)

abbrev pub invariant-loop-t : goal.invariant-loop-t
invariant-loop-t l = Gains (written l.fn.lay l.site.grid.plan.counts l.site.grid.plan.readings.now (each l.t (reference_entry l.site.grid.plan.counts l.site.grid.plan.wiring.now l.site.grid.plan.readings.now))) l.initial.sink l.sink
    × (l.sink.count ≤ 0x300000 + 2048 * l.t)

abbrev pub invariant-loop-g : goal.invariant-loop-g
invariant-loop-g l = Gains (written l.fn.lay l.site.grid.plan.counts l.site.grid.plan.readings.now (each l.g (capability_entries l.site.grid.plan.counts l.site.grid.plan.wiring.now l.site.grid.plan.readings.now))) l.initial.sink l.sink
    × (l.sink.count ≤ 0x400000 + 2048 * l.g)
    × (l.rank ≡ active_rank (flagged l.site.grid.plan.counts l.site.grid.plan.wiring.now GeneratorFlags) l.g)

abbrev pub invariant-loop-s : goal.invariant-loop-s
invariant-loop-s l = Gains (written l.fn.lay l.site.grid.plan.counts l.site.grid.plan.readings.now (each l.s (shed_bounds l.site.grid.plan.counts l.site.grid.plan.wiring.now l.site.grid.plan.readings.now))) l.initial.sink l.sink
    × (l.sink.count ≤ 0x500000 + 2048 * l.s)
    × (l.shed ≡ active_rank (sheds l.site.grid.plan.counts l.site.grid.plan.wiring.now l.site.grid.plan.readings.now) l.s)

abbrev pub invariant-loop-h : goal.invariant-loop-h
invariant-loop-h l = Gains (written l.fn.lay l.site.grid.plan.counts l.site.grid.plan.readings.now (each l.h (segment_entries l.site.grid.plan.counts l.site.grid.plan.wiring.now l.site.grid.plan.readings.now))) l.initial.sink l.sink
    × (l.sink.count ≤ 0x600000 + 2048 * l.h)
    × (l.piece ≡ piece_rank l.site.grid.plan.counts l.site.grid.plan.wiring.now l.h)
    × (l.start ≡ segment_start l.site.grid.plan.counts l.site.grid.plan.wiring.now l.h)

abbrev pub invariant-loop-q : goal.invariant-loop-q
invariant-loop-q l = Gains (written l.fn.lay l.site.grid.plan.counts l.site.grid.plan.readings.now (each l.q (λ q. linear_entries l.site.grid.plan.counts l.site.grid.plan.wiring.now l.site.grid.plan.readings.now l.site.term_index.now l.site.term_coefficient.now (row_limits l.site.grid.plan.counts l.site.grid.plan.wiring.now l.site.grid.plan.readings.now q) q))) l.initial.sink l.sink
    × (l.sink.count ≤ 0x700000 + 2048 * l.q)
    × (l.equal ≡ equality_rank l.site.grid.plan.counts l.site.grid.plan.wiring.now l.site.grid.plan.readings.now l.q)
    × (l.unequal ≡ inequality_rank l.site.grid.plan.counts l.site.grid.plan.wiring.now l.site.grid.plan.readings.now l.q)
    × (l.start ≡ term_start l.site.grid.plan.counts l.site.grid.plan.wiring.now l.q)
