-- `contraction::Terms::select` meets its contract. At each row, t terms have been added. Assumes nothing.
use mathlib.Core.Path.{◌≡◌}
use Prim.Native.Nat.{ℕ, ◌<◌}
use lib.ListN.{length, get_or}
use lib.Ieee.{nan}
use Rattle.contraction.specs.Contraction.{selection_word}
use Rattle.contraction.proofs.Terms.select.Given as goal

abbrev pub invariant-loop-t : goal.invariant-loop-t
invariant-loop-t l = ((r : ℕ) → r < length l.initial.column → get_or l.column r nan ≡ selection_word l.fn.self.rows.now l.fn.self.weights.now 0 l.t r) × (length l.column ≡ length l.initial.column)
