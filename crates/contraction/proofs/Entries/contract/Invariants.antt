-- `contraction::Entries::contract` meets its contract. The loop's invariant: the first o elements' words are stored. Assumes nothing.
use mathlib.Core.Path.{◌≡◌}
use mathlib.Core.List.{[]}
use Prim.Native.Nat.{◌*◌}
use Rattle.sens_snap.proofs.Stores.{Runs}
use Rattle.interface.specs.declared.Mode.TheVariants.{Forward}
use Rattle.contraction.specs.Contraction.{entry_start, contracted_row}
use Rattle.contraction.specs.Selectors.{selector_in}
use Rattle.contraction.proofs.Entries.contract.Given as goal

abbrev pub invariant-loop-count : goal.invariant-loop-count
invariant-loop-count l = Runs (contracted_row Forward (selector_in l.fn.self.selector) l.fn.self.dim l.fn.solved.columns [] l.fn.solved.words.now) 0 l.count-index l.at l.initial.out l.out
    × (l.from ≡ entry_start (selector_in l.fn.self.selector) l.count-index)
    × (l.at ≡ l.count-index * l.fn.solved.columns)
