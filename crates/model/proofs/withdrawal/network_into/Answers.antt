-- `model::withdrawal::network_into` meets its contract, word by word over the phase withdrawals. Assumes nothing.
use mathlib.Core.Path.{◌≡◌}
use native.Mathlib.Omega.{arith}
use lib.Ieee.{nan}
use Rattle.model.specs.Quantities.{network_at}
use Rattle.sequence.proofs.Fronts.{none, more, over, unmet}
use Rattle.model.proofs.withdrawal.network_into.Goals as goal

pub loop-i-init : goal.loop-i-init
loop-i-init c = (none _ _, omega arith)

pub loop-i-preserved : goal.loop-i-preserved
unfolding network_at
loop-i-preserved c = let p = c.phase_into.ensures in
    let x = unmet nan (omega arith) (record { is = p.out_after; kept = p.out_len_unchanged }) c.loop-i.invariant.0 in
    (more _ (omega arith) c.loop-i.invariant.0 (rw (c.reading.ensures, c.reading-in-loop-i.ensures, x)), omega arith)

pub returns-clause-out_after : goal.returns-clause-out_after
returns-clause-out_after c = let p = c.phase_into.ensures in
    let e : c.loop-i.i ≡ c.args.grid.now.plan.counts.buses = omega arith in
    let q = over (record { is = p.out_after; kept = p.out_len_unchanged }) (rw e at c.loop-i.invariant.0) in q.is

pub returns-clause-out_len_unchanged : goal.returns-clause-out_len_unchanged
returns-clause-out_len_unchanged c = let p = c.phase_into.ensures in
    let e : c.loop-i.i ≡ c.args.grid.now.plan.counts.buses = omega arith in
    let q = over (record { is = p.out_after; kept = p.out_len_unchanged }) (rw e at c.loop-i.invariant.0) in q.kept
