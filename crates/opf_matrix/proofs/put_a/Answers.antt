-- `opf_matrix::put_a` meets its contract: each loop puts its entries and carries the counts of the next turn. Assumes nothing.
use mathlib.Core.Path.{◌≡◌, sym, ap, ◌∙◌}
use mathlib.Core.Bool.{true, false, not}
use Prim.Native.Nat.{ℕ}
use native.Mathlib.Omega.{arith}
use lib.Dec.{eqb}
use Rattle.sequence.proofs.Lists.{before_none}
use Rattle.network.specs.declared.Part.TheVariants.{GeneratorFlags, ThermalFlags, AngleFlags}
use Rattle.network.specs.Layout.{reading}
use Rattle.model.specs.Rows.{row_limits}
use Rattle.model.proofs.Runs.{segments_none, terms_none, segments_more, terms_more, segments_inside, terms_within}
use Rattle.solution.specs.Sheet.{piece_rank}
use Rattle.opf_layout.specs.Layout.{active_of, column_in, row_in, flagged, sheds, equality_rank, inequality_rank}
use Rattle.opf_layout.proofs.Counting.{from_few, rank_none, rank_more, equalities_few, inequalities_few}
use Rattle.opf_layout.proofs.Ranks.{rank_few, equality_few, inequality_few}
use Rattle.opf_assembly.specs.Assembly.{blank, shed_entry, generator_entry, branch_entries, reference_entry, capability_entries, shed_bounds, segment_entries, linear_entries, a_entries}
use Rattle.opf_program.proofs.Triplets.{puts_begin, puts_more, unmeant_put}
use Rattle.opf_program.proofs.Branches.{flag_on, flag_off}
use Rattle.opf_matrix.proofs.Turns.{shed_turn, generator_turn, reference_turn, capability_turn, bounds_turn, rank_on, rank_off, piece_few, piece_more, equality_more, inequality_more}
use Rattle.opf_matrix.proofs.Whole.{next, a_done}
use Rattle.opf_matrix.proofs.put_a.Goals as goal
use Rattle.opf_matrix.proofs.put_a.Goals.{then-sheds_at, else-sheds_at, then-word-ne0, else-word-ne0, then-sheds_at-2, else-sheds_at-2}

pub loop-i-init : goal.loop-i-init
loop-i-init c = let a = c.args in
    (puts_begin (row_in a.lay) (column_in a.lay) (reading a.site.now.grid.plan.counts a.site.now.grid.plan.readings.now) blank _, omega (arith, c.requires.empty), rank_none _)

pub entry-requires : goal.entry-requires
entry-requires c = let a = c.args in
    omega (arith, c.loop-i.invariant.2, rank_few (sheds a.site.now.grid.plan.counts a.site.now.grid.plan.wiring.now a.site.now.grid.plan.readings.now) c.loop-i.i, c.loop-i-test, c.args.site.now.grid.wired.laid.few)

pub overflow_add-shed : goal.overflow_add-shed
overflow_add-shed c = let a = c.args in
    omega (arith, c.loop-i.invariant.2, rank_few (sheds a.site.now.grid.plan.counts a.site.now.grid.plan.wiring.now a.site.now.grid.plan.readings.now) c.loop-i.i, c.loop-i-test, c.args.site.now.grid.wired.laid.few)

pub loop-i-preserved : goal.loop-i-preserved
loop-i-preserved c = let a = c.args in
    let l = c.loop-i in
    let v = l.invariant in
    elim c.if-sheds_at.branch [
      | then-sheds_at w ↦
          let h : sheds a.site.now.grid.plan.counts a.site.now.grid.plan.wiring.now a.site.now.grid.plan.readings.now l.i ≡ true = sym c.sheds_at.ensures ∙ w.if-sheds_at.true in (
            rw w.sink-is (puts_more (row_in a.lay) (column_in a.lay) (reading a.site.now.grid.plan.counts a.site.now.grid.plan.readings.now) blank (shed_entry a.site.now.grid.plan.counts a.site.now.grid.plan.wiring.now a.site.now.grid.plan.readings.now) l.i v.0 (shed_turn a.lay a.site.now.grid.plan.counts a.site.now.grid.plan.wiring.now a.site.now.grid.plan.readings.now l.i h v.2 w.entry.ensures w.put.ensures.puts)),
            rw w.sink-is (omega (arith, w.put.ensures.most, v.1)),
            rw w.shed-is (rank_on (sheds a.site.now.grid.plan.counts a.site.now.grid.plan.wiring.now a.site.now.grid.plan.readings.now) l.i v.2 h),
          )
      | else-sheds_at w ↦
          let h : sheds a.site.now.grid.plan.counts a.site.now.grid.plan.wiring.now a.site.now.grid.plan.readings.now l.i ≡ false = sym c.sheds_at.ensures ∙ w.if-sheds_at.false in (
            rw w.sink-is (puts_more (row_in a.lay) (column_in a.lay) (reading a.site.now.grid.plan.counts a.site.now.grid.plan.readings.now) blank (shed_entry a.site.now.grid.plan.counts a.site.now.grid.plan.wiring.now a.site.now.grid.plan.readings.now) l.i v.0 (unmeant_put a.lay a.site.now.grid.plan.counts a.site.now.grid.plan.readings.now _ h)),
            rw w.sink-is (omega (arith, v.1)),
            rw w.shed-is (rank_off (sheds a.site.now.grid.plan.counts a.site.now.grid.plan.wiring.now a.site.now.grid.plan.readings.now) l.i v.2 h),
          )
    ]

pub loop-j-init : goal.loop-j-init
loop-j-init c = let a = c.args in
    (puts_begin (row_in a.lay) (column_in a.lay) (reading a.site.now.grid.plan.counts a.site.now.grid.plan.readings.now) blank _, omega (arith, c.loop-i.invariant, c.loop-i.auto, c.args.site.now.grid.wired.laid.few))

pub loop-j-preserved : goal.loop-j-preserved
loop-j-preserved c = let a = c.args in
    let l = c.loop-j in
    let v = l.invariant in
    (puts_more (row_in a.lay) (column_in a.lay) (reading a.site.now.grid.plan.counts a.site.now.grid.plan.readings.now) blank (generator_entry a.site.now.grid.plan.counts a.site.now.grid.plan.wiring.now a.site.now.grid.plan.readings.now) l.j v.0 (generator_turn a.lay a.site.now.grid.plan.counts a.site.now.grid.plan.wiring.now a.site.now.grid.plan.readings.now l.j c.word-bus.ensures.0 c.entry-in-loop-j.ensures c.put-in-loop-j.ensures.puts), omega (arith, c.put-in-loop-j.ensures.most, v.1))

pub loop-e-init : goal.loop-e-init
loop-e-init c = let a = c.args in
    (puts_begin (row_in a.lay) (column_in a.lay) (reading a.site.now.grid.plan.counts a.site.now.grid.plan.readings.now) blank _, omega (arith, c.loop-j.invariant, c.loop-j.auto, c.args.site.now.grid.wired.laid.few), rank_none _, rank_none _)

pub put_branch-requires-clause-line_value : goal.put_branch-requires-clause-line_value
put_branch-requires-clause-line_value c = let a = c.args in
    let v = c.loop-e.invariant in
    (v.2, omega (arith, v.2, rank_few (flagged a.site.now.grid.plan.counts a.site.now.grid.plan.wiring.now ThermalFlags) c.loop-e.e, c.loop-e-test, c.args.site.now.grid.wired.laid.few), v.3, omega (arith, v.3, rank_few (flagged a.site.now.grid.plan.counts a.site.now.grid.plan.wiring.now AngleFlags) c.loop-e.e, c.loop-e-test, c.args.site.now.grid.wired.laid.few))

pub overflow_add-line : goal.overflow_add-line
overflow_add-line c = let a = c.args in
    omega (arith, c.loop-e.invariant.2, from_few _ c.from-line.ensures, rank_few (flagged a.site.now.grid.plan.counts a.site.now.grid.plan.wiring.now ThermalFlags) c.loop-e.e, c.loop-e-test, c.args.site.now.grid.wired.laid.few)

pub overflow_add-phase : goal.overflow_add-phase
overflow_add-phase c = let a = c.args in
    omega (arith, c.loop-e.invariant.3, from_few _ c.from-phase.ensures, rank_few (flagged a.site.now.grid.plan.counts a.site.now.grid.plan.wiring.now AngleFlags) c.loop-e.e, c.loop-e-test, c.args.site.now.grid.wired.laid.few)

pub loop-e-preserved : goal.loop-e-preserved
loop-e-preserved c = let a = c.args in
    let l = c.loop-e in
    let v = l.invariant in
    (puts_more (row_in a.lay) (column_in a.lay) (reading a.site.now.grid.plan.counts a.site.now.grid.plan.readings.now) blank (branch_entries a.site.now.grid.plan.counts a.site.now.grid.plan.wiring.now a.site.now.grid.plan.readings.now) l.e v.0 (c.put_branch.ensures.puts), omega (arith, c.put_branch.ensures.most, v.1), rank_more _ l.e v.2 c.from-line.ensures (ap (λ (x : ℕ). not (eqb x 0)) c.word.ensures.0), rank_more _ l.e v.3 c.from-phase.ensures (ap (λ (x : ℕ). not (eqb x 0)) c.word-in-loop-e.ensures.0))

pub loop-t-init : goal.loop-t-init
loop-t-init c = let a = c.args in
    (puts_begin (row_in a.lay) (column_in a.lay) (reading a.site.now.grid.plan.counts a.site.now.grid.plan.readings.now) blank _, omega (arith, c.loop-e.invariant, c.loop-e.auto, c.args.site.now.grid.wired.laid.few))

pub loop-t-preserved : goal.loop-t-preserved
loop-t-preserved c = let a = c.args in
    let l = c.loop-t in
    let v = l.invariant in
    (puts_more (row_in a.lay) (column_in a.lay) (reading a.site.now.grid.plan.counts a.site.now.grid.plan.readings.now) blank (reference_entry a.site.now.grid.plan.counts a.site.now.grid.plan.wiring.now a.site.now.grid.plan.readings.now) l.t v.0 (reference_turn a.lay a.site.now.grid.plan.counts a.site.now.grid.plan.wiring.now a.site.now.grid.plan.readings.now l.t c.word-bus-in-loop-t.ensures.0 c.entry-in-loop-t.ensures c.put-in-loop-t.ensures.puts), omega (arith, c.put-in-loop-t.ensures.most, v.1))

pub loop-g-init : goal.loop-g-init
loop-g-init c = let a = c.args in
    (puts_begin (row_in a.lay) (column_in a.lay) (reading a.site.now.grid.plan.counts a.site.now.grid.plan.readings.now) blank _, omega (arith, c.loop-t.invariant, c.loop-t.auto, c.args.site.now.grid.wired.laid.few), rank_none _)

pub sides-requires : goal.sides-requires
sides-requires c = let a = c.args in
    omega (arith, c.loop-g.invariant.2, rank_few (flagged a.site.now.grid.plan.counts a.site.now.grid.plan.wiring.now GeneratorFlags) c.loop-g.g, c.loop-g-test, c.args.site.now.grid.wired.laid.few)

pub overflow_add-rank : goal.overflow_add-rank
overflow_add-rank c = let a = c.args in
    omega (arith, c.loop-g.invariant.2, rank_few (flagged a.site.now.grid.plan.counts a.site.now.grid.plan.wiring.now GeneratorFlags) c.loop-g.g, c.loop-g-test, c.args.site.now.grid.wired.laid.few)

pub loop-g-preserved : goal.loop-g-preserved
loop-g-preserved c = let a = c.args in
    let l = c.loop-g in
    let v = l.invariant in
    elim c.if-word-ne0.branch [
      | then-word-ne0 w ↦
          let h : flagged a.site.now.grid.plan.counts a.site.now.grid.plan.wiring.now GeneratorFlags l.g ≡ true = flag_on w.if-word-ne0.true c.word-in-loop-g.ensures.0 in (
            rw w.sink-is (puts_more (row_in a.lay) (column_in a.lay) (reading a.site.now.grid.plan.counts a.site.now.grid.plan.readings.now) blank (capability_entries a.site.now.grid.plan.counts a.site.now.grid.plan.wiring.now a.site.now.grid.plan.readings.now) l.g v.0 (capability_turn a.lay a.site.now.grid.plan.counts a.site.now.grid.plan.wiring.now a.site.now.grid.plan.readings.now l.g h v.2 w.sides.ensures w.put_all.ensures.puts)),
            rw w.sink-is (omega (arith, w.put_all.ensures.most, v.1)),
            rw w.rank-is (rank_on (flagged a.site.now.grid.plan.counts a.site.now.grid.plan.wiring.now GeneratorFlags) l.g v.2 h),
          )
      | else-word-ne0 w ↦
          let h : flagged a.site.now.grid.plan.counts a.site.now.grid.plan.wiring.now GeneratorFlags l.g ≡ false = flag_off w.if-word-ne0.false c.word-in-loop-g.ensures.0 in (
            rw w.sink-is (puts_more (row_in a.lay) (column_in a.lay) (reading a.site.now.grid.plan.counts a.site.now.grid.plan.readings.now) blank (capability_entries a.site.now.grid.plan.counts a.site.now.grid.plan.wiring.now a.site.now.grid.plan.readings.now) l.g v.0 (unmeant_put a.lay a.site.now.grid.plan.counts a.site.now.grid.plan.readings.now _ h)),
            rw w.sink-is (omega (arith, v.1)),
            rw w.rank-is (rank_off (flagged a.site.now.grid.plan.counts a.site.now.grid.plan.wiring.now GeneratorFlags) l.g v.2 h),
          )
    ]

pub loop-s-init : goal.loop-s-init
loop-s-init c = let a = c.args in
    (puts_begin (row_in a.lay) (column_in a.lay) (reading a.site.now.grid.plan.counts a.site.now.grid.plan.readings.now) blank _, omega (arith, c.loop-g.invariant, c.loop-g.auto, c.args.site.now.grid.wired.laid.few), rank_none _)

pub sides-requires-then-sheds_at-2 : goal.sides-requires-then-sheds_at-2
sides-requires-then-sheds_at-2 c = let a = c.args in
    omega (arith, c.loop-s.invariant.2, rank_few (sheds a.site.now.grid.plan.counts a.site.now.grid.plan.wiring.now a.site.now.grid.plan.readings.now) c.loop-s.s, c.loop-s-test, c.args.site.now.grid.wired.laid.few)

pub overflow_add-shed-then-sheds_at-2 : goal.overflow_add-shed-then-sheds_at-2
overflow_add-shed-then-sheds_at-2 c = let a = c.args in
    omega (arith, c.loop-s.invariant.2, rank_few (sheds a.site.now.grid.plan.counts a.site.now.grid.plan.wiring.now a.site.now.grid.plan.readings.now) c.loop-s.s, c.loop-s-test, c.args.site.now.grid.wired.laid.few)

pub loop-s-preserved : goal.loop-s-preserved
loop-s-preserved c = let a = c.args in
    let l = c.loop-s in
    let v = l.invariant in
    elim c.if-sheds_at-2.branch [
      | then-sheds_at-2 w ↦
          let h : sheds a.site.now.grid.plan.counts a.site.now.grid.plan.wiring.now a.site.now.grid.plan.readings.now l.s ≡ true = sym c.sheds_at-in-loop-s.ensures ∙ w.if-sheds_at-2.true in (
            rw w.sink-is (puts_more (row_in a.lay) (column_in a.lay) (reading a.site.now.grid.plan.counts a.site.now.grid.plan.readings.now) blank (shed_bounds a.site.now.grid.plan.counts a.site.now.grid.plan.wiring.now a.site.now.grid.plan.readings.now) l.s v.0 (bounds_turn a.lay a.site.now.grid.plan.counts a.site.now.grid.plan.wiring.now a.site.now.grid.plan.readings.now l.s h v.2 w.sides-then-sheds_at-2.ensures w.put_all-then-sheds_at-2.ensures.puts)),
            rw w.sink-is (omega (arith, w.put_all-then-sheds_at-2.ensures.most, v.1)),
            rw w.shed-is (rank_on (sheds a.site.now.grid.plan.counts a.site.now.grid.plan.wiring.now a.site.now.grid.plan.readings.now) l.s v.2 h),
          )
      | else-sheds_at-2 w ↦
          let h : sheds a.site.now.grid.plan.counts a.site.now.grid.plan.wiring.now a.site.now.grid.plan.readings.now l.s ≡ false = sym c.sheds_at-in-loop-s.ensures ∙ w.if-sheds_at-2.false in (
            rw w.sink-is (puts_more (row_in a.lay) (column_in a.lay) (reading a.site.now.grid.plan.counts a.site.now.grid.plan.readings.now) blank (shed_bounds a.site.now.grid.plan.counts a.site.now.grid.plan.wiring.now a.site.now.grid.plan.readings.now) l.s v.0 (unmeant_put a.lay a.site.now.grid.plan.counts a.site.now.grid.plan.readings.now _ h)),
            rw w.sink-is (omega (arith, v.1)),
            rw w.shed-is (rank_off (sheds a.site.now.grid.plan.counts a.site.now.grid.plan.wiring.now a.site.now.grid.plan.readings.now) l.s v.2 h),
          )
    ]

pub loop-h-init : goal.loop-h-init
unfolding piece_rank
loop-h-init c = let a = c.args in
    (puts_begin (row_in a.lay) (column_in a.lay) (reading a.site.now.grid.plan.counts a.site.now.grid.plan.readings.now) blank _, omega (arith, c.loop-s.invariant, c.loop-s.auto, c.args.site.now.grid.wired.laid.few), before_none _, segments_none a.site.now.grid.plan.counts a.site.now.grid.plan.wiring.now)

pub put_segments-requires-clause-g_bound : goal.put_segments-requires-clause-g_bound
put_segments-requires-clause-g_bound c = let a = c.args in
    let v = c.loop-h.invariant in
    let n = segments_inside c.args.site.now.grid.wired c.loop-h.h (omega (arith, c.loop-h-test)) in
    (omega (arith, v.2, piece_few a.site.now.grid.plan.counts a.site.now.grid.plan.wiring.now c.loop-h.h, c.loop-h-test, c.args.site.now.grid.wired.laid.few), omega (arith, v.3, c.word-count.ensures.0, n), omega (arith, v.1, c.loop-h-test, c.args.site.now.grid.wired.laid.few))

pub next_piece-piece-requires : goal.next_piece-piece-requires
next_piece-piece-requires c = let a = c.args in
    omega (arith, c.loop-h.invariant.2, piece_few a.site.now.grid.plan.counts a.site.now.grid.plan.wiring.now c.loop-h.h, c.loop-h-test, c.args.site.now.grid.wired.laid.few)

pub overflow_add-start : goal.overflow_add-start
overflow_add-start c = let a = c.args in
    omega (arith, c.loop-h.invariant.3, c.word-count.ensures.0, segments_inside c.args.site.now.grid.wired c.loop-h.h (omega (arith, c.loop-h-test)), c.args.site.now.grid.wired.laid.few)

pub loop-h-preserved : goal.loop-h-preserved
loop-h-preserved c = let a = c.args in
    let l = c.loop-h in
    let v = l.invariant in
    (puts_more (row_in a.lay) (column_in a.lay) (reading a.site.now.grid.plan.counts a.site.now.grid.plan.readings.now) blank (segment_entries a.site.now.grid.plan.counts a.site.now.grid.plan.wiring.now a.site.now.grid.plan.readings.now) l.h v.0 c.put_segments.ensures.puts, omega (arith, c.put_segments.ensures.most, v.1, c.word-count.ensures.0, segments_inside c.args.site.now.grid.wired l.h (omega (arith, c.loop-h-test)), c.args.site.now.grid.wired.laid.few), piece_more a.site.now.grid.plan.counts a.site.now.grid.plan.wiring.now l.h c.next_piece-piece.ensures v.2 c.word-count.ensures.0, rw (segments_more, ← v.3, c.word-count.ensures.0))

pub loop-q-init : goal.loop-q-init
unfolding equality_rank inequality_rank
loop-q-init c = let a = c.args in
    (puts_begin (row_in a.lay) (column_in a.lay) (reading a.site.now.grid.plan.counts a.site.now.grid.plan.readings.now) blank _, omega (arith, c.loop-h.invariant, c.loop-h.auto, c.args.site.now.grid.wired.laid.few), before_none _, before_none _, terms_none a.site.now.grid.plan.counts a.site.now.grid.plan.wiring.now)

pub put_linear-requires-clause-equal_value : goal.put_linear-requires-clause-equal_value
put_linear-requires-clause-equal_value c = let a = c.args in
    let v = c.loop-q.invariant in
    (v.2, v.3, omega (arith, v.2, equality_few a.site.now.grid.plan.counts a.site.now.grid.plan.wiring.now a.site.now.grid.plan.readings.now c.loop-q.q, inequality_few a.site.now.grid.plan.counts a.site.now.grid.plan.wiring.now a.site.now.grid.plan.readings.now c.loop-q.q, c.loop-q-test, c.args.site.now.grid.wired.laid.few), omega (arith, v.3, equality_few a.site.now.grid.plan.counts a.site.now.grid.plan.wiring.now a.site.now.grid.plan.readings.now c.loop-q.q, inequality_few a.site.now.grid.plan.counts a.site.now.grid.plan.wiring.now a.site.now.grid.plan.readings.now c.loop-q.q, c.loop-q-test, c.args.site.now.grid.wired.laid.few))

pub overflow_add-equal : goal.overflow_add-equal
overflow_add-equal c = let a = c.args in
    omega (arith, c.loop-q.invariant.2, c.equalities_of-equal.ensures, equalities_few c.row_limits-limits.result, equality_few a.site.now.grid.plan.counts a.site.now.grid.plan.wiring.now a.site.now.grid.plan.readings.now c.loop-q.q, inequality_few a.site.now.grid.plan.counts a.site.now.grid.plan.wiring.now a.site.now.grid.plan.readings.now c.loop-q.q, c.loop-q-test, c.args.site.now.grid.wired.laid.few)

pub overflow_add-unequal : goal.overflow_add-unequal
overflow_add-unequal c = let a = c.args in
    omega (arith, c.loop-q.invariant.3, c.inequalities_of-unequal.ensures, inequalities_few c.row_limits-limits.result, equality_few a.site.now.grid.plan.counts a.site.now.grid.plan.wiring.now a.site.now.grid.plan.readings.now c.loop-q.q, inequality_few a.site.now.grid.plan.counts a.site.now.grid.plan.wiring.now a.site.now.grid.plan.readings.now c.loop-q.q, c.loop-q-test, c.args.site.now.grid.wired.laid.few)

pub overflow_add-start-in-loop-q : goal.overflow_add-start-in-loop-q
overflow_add-start-in-loop-q c = let a = c.args in
    omega (arith, c.loop-q.invariant.4, c.row_terms-start.ensures, terms_within c.args.site.now.grid.wired c.loop-q.q (omega (arith, c.loop-q-test)), c.args.site.now.grid.wired.laid.few)

pub loop-q-preserved : goal.loop-q-preserved
loop-q-preserved c = let a = c.args in
    let l = c.loop-q in
    let v = l.invariant in
    (puts_more (row_in a.lay) (column_in a.lay) (reading a.site.now.grid.plan.counts a.site.now.grid.plan.readings.now) blank (λ q. linear_entries a.site.now.grid.plan.counts a.site.now.grid.plan.wiring.now a.site.now.grid.plan.readings.now a.site.now.term_index.now a.site.now.term_coefficient.now (row_limits a.site.now.grid.plan.counts a.site.now.grid.plan.wiring.now a.site.now.grid.plan.readings.now q) q) l.q v.0 (c.put_linear.ensures.puts), omega (arith, c.put_linear.ensures.most, v.1), equality_more a.site.now.grid.plan.counts a.site.now.grid.plan.wiring.now a.site.now.grid.plan.readings.now l.q v.2 c.equalities_of-equal.ensures c.row_limits-limits.ensures, inequality_more a.site.now.grid.plan.counts a.site.now.grid.plan.wiring.now a.site.now.grid.plan.readings.now l.q v.3 c.inequalities_of-unequal.ensures c.row_limits-limits.ensures, rw (terms_more, ← v.4, c.row_terms-start.ensures.0))

pub returns-clause-puts : goal.returns-clause-puts
unfolding a_entries
returns-clause-puts c = let a = c.args in
    let z : c.loop-q.q ≡ a.site.now.grid.plan.counts.rows = omega arith in
    let t = rw z at c.loop-q.invariant.0 in
    a_done a.lay a.site.now.grid.plan.counts a.site.now.grid.plan.wiring.now a.site.now.grid.plan.readings.now a.site.now.term_index.now a.site.now.term_coefficient.now (active_of a.site.now.grid.plan.counts a.site.now.grid.plan.wiring.now a.site.now.grid.plan.readings.now) c.requires.placed.0 (next a.lay a.site.now.grid.plan.counts a.site.now.grid.plan.readings.now (shed_entry a.site.now.grid.plan.counts a.site.now.grid.plan.wiring.now a.site.now.grid.plan.readings.now) _ (omega (arith, c.loop-i.auto, c.loop-i-test)) c.loop-i.invariant.0 (next a.lay a.site.now.grid.plan.counts a.site.now.grid.plan.readings.now (generator_entry a.site.now.grid.plan.counts a.site.now.grid.plan.wiring.now a.site.now.grid.plan.readings.now) _ (omega (arith, c.loop-j.auto, c.loop-j-test)) c.loop-j.invariant.0 (next a.lay a.site.now.grid.plan.counts a.site.now.grid.plan.readings.now (branch_entries a.site.now.grid.plan.counts a.site.now.grid.plan.wiring.now a.site.now.grid.plan.readings.now) _ (omega (arith, c.loop-e.auto, c.loop-e-test)) c.loop-e.invariant.0 (next a.lay a.site.now.grid.plan.counts a.site.now.grid.plan.readings.now (reference_entry a.site.now.grid.plan.counts a.site.now.grid.plan.wiring.now a.site.now.grid.plan.readings.now) _ (omega (arith, c.loop-t.auto, c.loop-t-test)) c.loop-t.invariant.0 (next a.lay a.site.now.grid.plan.counts a.site.now.grid.plan.readings.now (capability_entries a.site.now.grid.plan.counts a.site.now.grid.plan.wiring.now a.site.now.grid.plan.readings.now) _ (omega (arith, c.loop-g.auto, c.loop-g-test)) c.loop-g.invariant.0 (next a.lay a.site.now.grid.plan.counts a.site.now.grid.plan.readings.now (shed_bounds a.site.now.grid.plan.counts a.site.now.grid.plan.wiring.now a.site.now.grid.plan.readings.now) _ (omega (arith, c.loop-s.auto, c.loop-s-test)) c.loop-s.invariant.0 (next a.lay a.site.now.grid.plan.counts a.site.now.grid.plan.readings.now (segment_entries a.site.now.grid.plan.counts a.site.now.grid.plan.wiring.now a.site.now.grid.plan.readings.now) _ (omega (arith, c.loop-h.auto, c.loop-h-test)) c.loop-h.invariant.0 t)))))))
