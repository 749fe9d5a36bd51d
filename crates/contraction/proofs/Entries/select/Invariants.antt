-- `contraction::Entries::select` meets its contract. The loop's invariant: the first o elements' columns are stored. Assumes nothing.
use mathlib.Core.Path.{◌≡◌}
use Prim.Native.Nat.{◌*◌}
use Rattle.sens_snap.proofs.Stores.{Runs}
use Rattle.contraction.specs.Contraction.{entry_start, selection_column}
use Rattle.contraction.specs.Selectors.{selector_in}
use Rattle.contraction.proofs.Entries.select.Given as goal

abbrev pub invariant-loop-entries : goal.invariant-loop-entries
invariant-loop-entries l = Runs (selection_column (selector_in l.fn.self.selector) l.fn.self.dim) 0 l.entries-index l.at l.initial.sheet l.sheet
    × (l.from ≡ entry_start (selector_in l.fn.self.selector) l.entries-index)
    × (l.at ≡ l.entries-index * l.fn.self.dim)
