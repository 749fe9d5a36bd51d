-- `kkt_cells::put_kept` meets its contract: a kept sum more each turn, and all of them are the column's entries. Assumes nothing.
use mathlib.Core.Path.{ap}
use Prim.Native.Nat.{ℕ, ◌≤◌}
use native.Mathlib.Omega.{arith}
use Rattle.sequence.proofs.Sinks.{put_of}
use Rattle.kkt_cells.proofs.Cells.{replay_begin, replay_more, to_fits, bus_low, replayed_less, replayed_as_is}
use Rattle.kkt_cells.proofs.put_kept.Goals as goal
use Rattle.kkt_cells.proofs.put_kept.Goals.{then-less, else-less}

pub overflow_add-from-else-less : goal.overflow_add-from-else-less
overflow_add-from-else-less c = omega (arith, c.start-nu_bal.ensures, c.args.sums.now.kkt.grid.wired.laid.few, c.requires)

pub overflow_add-from : goal.overflow_add-from
overflow_add-from c = omega (arith, c.start-va.ensures, c.args.sums.now.kkt.grid.wired.laid.few, c.requires)

pub bounds-sums-j : goal.bounds-sums-j
bounds-sums-j c = omega (arith, c.args.sums.now.kept.starts_fit, c.requires)

pub overflow_add-j : goal.overflow_add-j
overflow_add-j c = omega (arith, c.args.sums.now.kkt.grid.wired.laid.few, c.requires)

pub offset_bounds-sums-j-2 : goal.offset_bounds-sums-j-2
offset_bounds-sums-j-2 c = omega (arith, c.args.sums.now.kkt.grid.wired.laid.few, c.requires)

pub bounds-sums-j-2 : goal.bounds-sums-j-2
bounds-sums-j-2 c = omega (arith, c.args.sums.now.kept.starts_fit, c.requires)

pub loop-t-init : goal.loop-t-init
loop-t-init c = let f = to_fits c.args.sums.now.kept _ c.requires.0 c.wide-first.ensures.0 c.wide-to.ensures.0 in
    (replay_begin c.args.less c.if-less.from.0 c.if-less.from.1 c.args.sums.now.buses.now c.args.sums.now.values.now c.wide-first.result, omega arith, omega arith, f.0, f.1, f.2, f.3)

pub cell_item-requires : goal.cell_item-requires
cell_item-requires c = let t = c.loop-t-test in
    let b = c.start-nu_bal.ensures in
    let a = c.start-va.ensures in
    let few = c.args.sums.now.kkt.grid.wired.laid.few in
    let z : (c.if-less.from.0 ≤ 0x2_0000) × (c.if-less.from.1 ≤ 0x2_0000) = elim c.if-less.branch [ then-less w ↦ rw w.from-is (omega (arith, a, b, few, c.requires)) | else-less w ↦ rw w.from-is (omega (arith, a, b, few, c.requires)) ] in
    let i = bus_low c.args.sums.now.kept _ c.requires.0 c.wide-first.ensures.0 c.wide-to.ensures.0 _ c.loop-t.invariant.2 t.true in
    (z.0, z.1, omega (arith, i, c.wide.ensures, few))

pub put-requires : goal.put-requires
put-requires c = let i = c.loop-t.invariant in omega (arith, i.1, i.3, i.4, c.requires)

pub loop-t-preserved : goal.loop-t-preserved
loop-t-preserved c = let w = c.wide.ensures.0 in
    let t = c.loop-t-test in
    let i = c.loop-t.invariant in (
      replay_more c.args.less c.if-less.from.0 c.if-less.from.1 c.args.sums.now.buses.now c.args.sums.now.values.now c.wide-first.result c.loop-t.t i.2 i.0 (put_of (rw w at c.cell_item.ensures) c.put.ensures.puts),
      omega (arith, c.put.ensures.most, i.1, i.2),
      omega (arith, i.2),
      omega (arith, t),
      i.4,
      i.5,
      i.6,
    )

pub returns-clause-puts : goal.returns-clause-puts
returns-clause-puts c = let i = c.loop-t.invariant in
    let b = c.start-nu_bal.ensures.0 in
    let a = c.start-va.ensures.0 in
    let wa = c.wide-first.ensures.0 in
    let wb = c.wide-to.ensures.0 in elim c.if-less.branch [
      | then-less w ↦ replayed_less c.args.sums.now.kept _ c.requires.0 wa wb _ _ c.args.less c.if-less.from.0 c.if-less.from.1 c.loop-t.t a b i.3 c.loop-t-test.false i.0 w.if-less.true (ap (λ (p : ℕ × ℕ). p.0) w.from-is) (ap (λ (p : ℕ × ℕ). p.1) w.from-is)
      | else-less w ↦ replayed_as_is c.args.sums.now.kept _ c.requires.0 wa wb _ _ c.args.less c.if-less.from.0 c.if-less.from.1 c.loop-t.t a b i.3 c.loop-t-test.false i.0 w.if-less.false (ap (λ (p : ℕ × ℕ). p.0) w.from-is) (ap (λ (p : ℕ × ℕ). p.1) w.from-is)
    ]

pub returns-clause-most : goal.returns-clause-most
returns-clause-most c = let i = c.loop-t.invariant in omega (arith, i.1, i.3, i.4)
