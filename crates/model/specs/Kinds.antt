-- Numbers for a row's kinds. Assumes nothing.
use Rattle.std.specs.Prelude.{ℕ}
use Rattle.model.specs.declared.RowKind.{RowKind}
use Rattle.model.specs.declared.RowKind.TheVariants as kind

-- a mask's number, and 4 for an equality
abbrev pub kind_number : RowKind → ℕ
kind_number kind.None = 0
kind_number kind.Upper = 1
kind_number kind.Lower = 2
kind_number kind.Both = 3
kind_number kind.Equal = 4
