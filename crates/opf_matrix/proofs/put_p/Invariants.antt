-- `opf_matrix::put_p` meets its contract: an entry more each turn. Assumes nothing.
use Prim.Native.Nat.{◌-◌, ◌≤◌}
use mathlib.Core.Path.{◌≡◌}
use Rattle.sequence.specs.Lists.{each}
use Rattle.sequence.specs.Sinks.{Gains}
use Rattle.opf_layout.specs.declared.OpfColumn.TheVariants.{Pg}
use Rattle.opf_layout.specs.Layout.{column_in}
use Rattle.opf_matrix.proofs.Whole.{curvature}
use Rattle.opf_matrix.proofs.put_p.Given as goal

abbrev pub invariant-loop-j : goal.invariant-loop-j
invariant-loop-j l = Gains (each l.j (curvature (column_in l.lay Pg) l.c l.readings)) l.initial.sink l.sink × (l.sink.count ≤ l.j) × (l.j ≤ l.to) × (l.to ≡ l.c.generators)

abbrev pub decreases-loop-j : goal.decreases-loop-j
decreases-loop-j l = l.to - l.j
