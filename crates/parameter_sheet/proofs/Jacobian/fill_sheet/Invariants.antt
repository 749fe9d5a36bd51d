-- `Jacobian::fill_sheet` meets its contract: a column more each turn, through the part that begins at its place. Assumes nothing.
use Prim.Native.Nat.{◌*◌}
use mathlib.Core.Path.{◌≡◌}
use lib.ListN.{get_or}
use Rattle.parameter_sheet.specs.Sites.{column_in}
use Rattle.sens_snap.proofs.Stores.{Runs}
use Rattle.parameter_sheet.proofs.Jacobian.fill_sheet.Given as goal

abbrev pub invariant-loop-element : goal.invariant-loop-element
invariant-loop-element l = (l.at ≡ l.element-index * l.self.index.dim) × Runs (λ i. column_in l.self.site l.self.parameter (get_or l.columns i 0)) 0 l.element-index l.at l.initial.sheet l.sheet
