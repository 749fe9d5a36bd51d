-- `sens_snap::duals::add_row` meets its contract: at each branch, t terms have taken their turns. Assumes nothing.
use Prim.Native.Nat.{ℕ, ◌+◌, ◌-◌, ◌≤◌, ◌<◌}
use mathlib.Core.Path.{◌≡◌}
use lib.ListN.{length, get_or}
use lib.Ieee.{nan}
use Rattle.sequence.specs.Lists.{turns}
use Rattle.sens_snap.proofs.Turns.{term_turn}
use Rattle.sens_snap.proofs.duals.add_row.Given as goal

abbrev pub invariant-loop-t : goal.invariant-loop-t
invariant-loop-t l = ((e : ℕ) → get_or l.out e nan ≡ turns (term_turn l.site.term_index.now l.site.term_coefficient.now l.start l.dual e) (get_or l.initial.out e nan) l.t)
    × (length l.out ≡ length l.initial.out)
    × (l.t ≤ l.count)
    × (l.start + l.count ≤ length l.site.term_index.now)
    × (l.start + l.count ≤ length l.site.term_coefficient.now)
    × ((t : ℕ) → t < l.count → get_or l.site.term_index.now (l.start + t) 0 < length l.initial.out)

abbrev pub decreases-loop-t : goal.decreases-loop-t
decreases-loop-t l = l.count - l.t
