-- `sens_snap::duals::nu_flow_into` meets its contract. At each branch, q rows have taken their turns. Assumes nothing.
use Prim.Native.Nat.{ℕ, ◌-◌, ◌≤◌, ◌<◌}
use mathlib.Core.Path.{◌≡◌}
use lib.ListN.{length, get_or}
use lib.Ieee.{nan, binary64, sub}
use Rattle.sequence.specs.Lists.{turns}
use Rattle.network.specs.Layout.{term_start}
use Rattle.solution.specs.declared.Entry.TheVariants.{LamUb, LamLb}
use Rattle.solution.specs.Sheet.{solved}
use Rattle.snapping.specs.Snap.{nu_flow_row}
use Rattle.sens_snap.proofs.duals.nu_flow_into.Given as goal

abbrev pub invariant-loop-q : goal.invariant-loop-q
invariant-loop-q l = ((e : ℕ) → e < l.site.point.grid.plan.counts.branches → get_or l.out e nan ≡ turns (nu_flow_row l.site.point.grid.plan.counts l.site.point.grid.plan.wiring.now l.site.term_index.now l.site.term_coefficient.now l.site.point.pieces l.site.point.grid.plan.readings.now l.site.point.sheet.now e) (sub binary64 (solved l.site.point.grid.plan.counts l.site.point.pieces l.site.point.sheet.now LamUb e) (solved l.site.point.grid.plan.counts l.site.point.pieces l.site.point.sheet.now LamLb e)) l.q)
    × ((e : ℕ) → l.site.point.grid.plan.counts.branches ≤ e → get_or l.out e nan ≡ get_or l.initial.out e nan)
    × (length l.out ≡ length l.initial.out)
    × (l.q ≤ l.to)
    × (l.to ≡ l.site.point.grid.plan.counts.rows)
    × (l.start ≡ term_start l.site.point.grid.plan.counts l.site.point.grid.plan.wiring.now l.q)

abbrev pub decreases-loop-q : goal.decreases-loop-q
decreases-loop-q l = l.to - l.q
