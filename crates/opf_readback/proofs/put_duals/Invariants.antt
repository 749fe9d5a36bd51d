-- `opf_readback::put_duals` meets its contract: a row more each turn, both ranks carried along. Assumes nothing.
use mathlib.Core.Path.{◌≡◌}
use Prim.Native.Nat.{◌*◌, ◌≤◌}
use lib.ListN.{drop}
use Rattle.sequence.proofs.Fronts.{Fronted}
use Rattle.model.specs.Rows.{row_limits}
use Rattle.opf_layout.specs.Layout.{equality_rank, inequality_rank}
use Rattle.opf_readback.specs.Walks.{signed_of}
use Rattle.opf_readback.proofs.put_duals.Given as goal

abbrev pub invariant-loop-q : goal.invariant-loop-q
invariant-loop-q l = Fronted (λ q. signed_of (row_limits l.plan.counts l.plan.wiring.now l.plan.readings.now q) (drop (equality_rank l.plan.counts l.plan.wiring.now l.plan.readings.now q) l.equal) (drop (inequality_rank l.plan.counts l.plan.wiring.now l.plan.readings.now q) l.limit)) l.q l.initial.out l.out
    × (l.k ≡ equality_rank l.plan.counts l.plan.wiring.now l.plan.readings.now l.q) × (l.l ≡ inequality_rank l.plan.counts l.plan.wiring.now l.plan.readings.now l.q) × (l.k ≤ l.q) × (l.l ≤ 2 * l.q)
