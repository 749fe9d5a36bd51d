-- `sequence::marking::put_marked` meets its contract: a block more each turn, and in one an item more. Assumes nothing.
use Prim.Native.Nat.{ℕ, ◌+◌, ◌*◌, ◌/◌, ◌<◌, ◌≤◌, min}
use mathlib.Core.Path.{◌≡◌}
use lib.ListN.{get_or}
use Rattle.std.specs.Prelude.{Option, None}
use Rattle.sequence.specs.declared.Triplet.{Triplet}
use Rattle.sequence.specs.Lists.{each}
use Rattle.sequence.specs.Sheets.{emit}
use Rattle.sequence.specs.Sinks.{Gains}
use Rattle.sequence.specs.Given.{GivesBelow}
use Rattle.sequence.proofs.marking.put_marked.Given as goal

abbrev pub invariant-loop-q : goal.invariant-loop-q
invariant-loop-q g l =
    ((f : ℕ → Option Triplet) → GivesBelow l.n (goal.F-post g l.item) f → ((i : ℕ) → i < l.n → get_or l.blocks (i / 16) 0 ≡ 0 → f i ≡ None) → Gains (each (min (16 * l.q) l.n) (λ i. emit (f i))) l.initial.sink l.sink)
    × (l.sink.count ≤ l.initial.sink.count + min (16 * l.q) l.n)
    × (l.q ≤ l.count)

abbrev pub invariant-loop-i : goal.invariant-loop-i
invariant-loop-i g l =
    ((f : ℕ → Option Triplet) → GivesBelow l.n (goal.F-post g l.item) f → ((i : ℕ) → i < l.n → get_or l.blocks (i / 16) 0 ≡ 0 → f i ≡ None) → Gains (each l.i (λ i. emit (f i))) l.fn.sink l.sink)
    × (l.sink.count ≤ l.fn.sink.count + l.i)
    × (l.i ≤ l.n) × (l.i ≤ l.i-end)
