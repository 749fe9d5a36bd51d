-- `contraction::Sheet::column` meets its contract: dim words from c times dim on. Assumes nothing.
use mathlib.Core.Path.{◌≡◌}
use Prim.Native.Nat.{◌+◌, ◌*◌, ◌-◌}
use native.Mathlib.Omega.{arith}
use Rattle.contraction.specs.Contraction.{column}
use Rattle.contraction.proofs.Columns.{column_inside}
use Rattle.contraction.proofs.Sheet.column.Goals as goal

pub overflow_mul-at : goal.overflow_mul-at
overflow_mul-at c = let s = c.args.self in omega (arith, column_inside s.dim c.args.c s.columns _ c.requires s.in_words)

pub returns-clause-is : goal.returns-clause-is
unfolding column
returns-clause-is c = let a = c.args in
    let z : a.c * a.self.dim + a.self.dim - a.c * a.self.dim ≡ a.self.dim = omega arith in
    rw z
