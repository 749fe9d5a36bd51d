-- `kkt_cells::keep_sums` meets its contract: a bus's sums more each turn, and where the next one's start. Assumes nothing.
use Prim.Native.Nat.{◌+◌}
use mathlib.Core.Path.{refl, ◌∙◌}
use native.Mathlib.Omega.{arith}
use lib.ListN.{length-set}
use Rattle.sequence.proofs.Sinks.{begin, more, done}
use Rattle.kkt_cells.specs.Cells.{cells_of}
use Rattle.kkt_cells.proofs.Cells.{counted, kept_all, starts_begin, starts_more}
use Rattle.kkt_cells.proofs.keep_sums.Goals as goal

pub loop-j-init : goal.loop-j-init
loop-j-init c = let p = c.requires.buses_in_bounds_2 in
    (begin _, starts_begin _ _ _ c.args.starts.now (omega (arith, p)), omega arith, omega arith, refl, refl, refl, omega (arith, length-set c.args.starts.now 0 0, p), c.args.ends.now.grid.plan.readings_laid.few.buses)

pub keep_row-requires-clause-buses_in_bounds : goal.keep_row-requires-clause-buses_in_bounds
keep_row-requires-clause-buses_in_bounds c = let i = c.loop-j.invariant in (omega (arith, i.4, c.requires.buses_in_bounds), omega (arith, i.5, c.requires.buses_in_bounds))

pub keep_row-requires-clause-j_lt_buses : goal.keep_row-requires-clause-j_lt_buses
keep_row-requires-clause-j_lt_buses c = let i = c.loop-j.invariant in
    (c.loop-j-test.true, omega (arith, i.2, i.3, c.args.ends.now.grid.plan.readings_laid.few))

pub loop-j-preserved : goal.loop-j-preserved
loop-j-preserved c = let t = c.loop-j-test in
    let i = c.loop-j.invariant in
    let z = length-set c.loop-j.starts (c.loop-j.j + 1) c.keep_row.new.sink.count in
    let q = more (cells_of c.args.ends.now.grid.plan.counts c.args.ends.now.grid.plan.wiring.now c.args.ends.now.grid.plan.readings.now) c.loop-j.j i.0 c.keep_row.ensures.puts in
    let n = counted _ _ _ c.requires.buses_in_bounds_2.1 c.requires.empty (c.loop-j.j + 1) (omega (arith, t)) q in (
      q,
      starts_more _ _ _ c.loop-j.starts c.loop-j.j c.keep_row.new.sink.count (omega (arith, t, i.7)) n i.1,
      omega (arith, c.keep_row.ensures.most, i.2),
      omega (arith, t),
      omega (arith, c.keep_row.auto, i.4),
      omega (arith, c.keep_row.auto, i.5),
      z ∙ i.6,
      omega (arith, z, i.7),
      i.8,
    )

pub shape_of-starts : goal.shape_of-starts
shape_of-starts c = c.loop-j.invariant.6 ∙ length-set c.args.starts.now 0 0

pub returns-clause-cells : goal.returns-clause-cells
returns-clause-cells c = let i = c.loop-j.invariant in done _ i.3 c.loop-j-test.false i.0

pub returns-clause-kept : goal.returns-clause-kept
returns-clause-kept c = let i = c.loop-j.invariant in
    kept_all _ _ _ c.requires.buses_in_bounds_2.1 c.requires.empty (done _ i.3 c.loop-j-test.false i.0)
    c.args.ends.now.grid.plan.readings_laid.few
    (λ j h. i.1 j (omega (arith, c.loop-j-test)))
    i.7
